use Rattle.std.proofs.Common.{◌+◌, [], ◌∷◌, map, drop, refl, sym, ap, ◌∙◌}
use Rattle.std.specs.List.{cons_option, filter_map}
use Rattle.std.specs.Option.{option_map}
use Rattle.std.proofs.lemmas.List.{append-nil}
use Rattle.relup_row.specs.Release.{relup_app_of, way_of}
use Rattle.relup_translate.specs.Memory.{row_of_change, row_of_kind, rows_of}
use Rattle.relup_block.proofs.WalkLemmas.{one_pushed, one_further, none_left}
use Rattle.relup_translate.proofs.changes.push_changes_of_kind.Goals.{in-Some+in_ok-push, in_default}
use Rattle.relup_translate.proofs.changes.push_changes_of_kind.Goals as goal

pub loop-app-preserved : goal.loop-app-preserved
loop-app-preserved c =
    let i = c.loop-app.app-index in
    let a = c.app-item.result in
    let made = c.loop-app.out.items in
    let give = row_of_kind c.args.kind (way_of c.args.way) in
    let later = map relup_app_of (drop (i + 1) c.args.apps.now) in
    elim c.match-change_of_kind.branch [
      | in-Some+in_ok-push w ↦
          one_further row_of_change relup_app_of (filter_map give) c.args.apps.now i a made c.match-change_of_kind.out.items (row_of_change w.in-Some.change ∷ []) _ c.loop-app-test.true c.app-item.is
          (ap (λ o. cons_option o (filter_map give later)) (sym c.change_of_kind.ensures ∙ ap (option_map row_of_change) w.in-Some.is))
          (ap (λ v. rows_of v.items) w.out-is ∙ one_pushed row_of_change _ _ _ (row_of_change w.in-Some.change) w.in_ok-push.ensures.items refl) c.loop-app.invariant
      | in_default w ↦
          one_further row_of_change relup_app_of (filter_map give) c.args.apps.now i a made c.match-change_of_kind.out.items [] _ c.loop-app-test.true c.app-item.is
          (ap (λ o. cons_option o (filter_map give later)) (sym c.change_of_kind.ensures ∙ ap (option_map row_of_change) w.in_default.is))
          (ap (λ v. rows_of v.items) w.out-is ∙ sym (append-nil (rows_of made))) c.loop-app.invariant
    ]

pub returns : goal.returns
returns c =
    none_left row_of_change relup_app_of (filter_map (row_of_kind c.args.kind (way_of c.args.way))) c.args.apps.now c.loop-app.app-index c.loop-app.out.items _ refl
    c.loop-app-test.false c.loop-app.invariant
