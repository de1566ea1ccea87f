use Rattle.std.proofs.Common.{◌+◌, [], ◌∷◌, map, string_bytes, drop, refl, sym, ap, ◌∙◌}
use Rattle.std.specs.List.{cons_option, filter_map}
use Rattle.std.specs.Option.{option_map}
use Rattle.std.proofs.lemmas.List.{append-nil}
use Rattle.relup_row.specs.Release.{relup_app_of}
use Rattle.relup_by_patterns.specs.Plain.{other_vsn}
use Rattle.relup_block.proofs.WalkLemmas.{one_further, none_left}
use Rattle.relup_by_patterns.proofs.versions.push_versions.Goals.{in-Some+in_ok-push_version, in_default}
use Rattle.relup_by_patterns.proofs.versions.push_versions.Goals as goal

pub loop-other-preserved : goal.loop-other-preserved
loop-other-preserved c =
    let i = c.loop-other.other-index in
    let made = c.loop-other.asked.items in
    let give = other_vsn (relup_app_of c.args.app.now) in
    let later = map relup_app_of (drop (i + 1) c.args.others.now) in
    elim c.match-other_vsn.branch [
      | in-Some+in_ok-push_version w ↦
          one_further string_bytes relup_app_of (filter_map give) c.args.others.now i c.other-item.result made c.match-other_vsn.asked.items (w.in-Some.vsn.now ∷ []) _ c.loop-other-test.true c.other-item.is
          (ap (λ o. cons_option o (filter_map give later)) (sym c.other_vsn.ensures ∙ ap (option_map (λ s. s.now)) w.in-Some.is))
          (ap (λ v. map string_bytes v.items) w.asked-is ∙ w.in_ok-push_version.ensures) c.loop-other.invariant
      | in_default w ↦
          one_further string_bytes relup_app_of (filter_map give) c.args.others.now i c.other-item.result made c.match-other_vsn.asked.items [] _ c.loop-other-test.true c.other-item.is
          (ap (λ o. cons_option o (filter_map give later)) (sym c.other_vsn.ensures ∙ ap (option_map (λ s. s.now)) w.in_default.is))
          (ap (λ v. map string_bytes v.items) w.asked-is ∙ sym (append-nil (map string_bytes made))) c.loop-other.invariant
    ]

pub returns : goal.returns
returns c =
    none_left string_bytes relup_app_of (filter_map (other_vsn (relup_app_of c.args.app.now))) c.args.others.now c.loop-other.other-index c.loop-other.asked.items _ refl
    c.loop-other-test.false c.loop-other.invariant
