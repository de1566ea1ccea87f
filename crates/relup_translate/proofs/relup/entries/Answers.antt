use Rattle.std.proofs.Common.{◌<◌, ◌∷◌, [], ◌++◌, length, map, take, sym, ap, ap₂, ◌∙◌, arith}
use Rattle.std.proofs.lemmas.List.{map_push, take_more, take_all}
use Rattle.relup_file.specs.Relup.{entry_of}
use Rattle.relup_row.specs.Release.{relup_release_of}
use Rattle.relup_translate.specs.Translation.{entry}
use Rattle.relup_translate.proofs.relup.entries.Goals as goal

pub loop-other-preserved : goal.loop-other-preserved
loop-other-preserved c =
    let others = c.args.others.now in
    let i = c.loop-other.other-index in
    let other = c.other-item.result in
    let of_other = entry c.args.direction (relup_release_of c.args.new.now) in
    let within : i < length others = omega arith in
    ap (map entry_of) c.in_ok-push.ensures.items
    ∙ map_push entry_of c.loop-other.entries.items c.in_ok-entry.field-0
    ∙ ap₂ (λ es e. es ++ e ∷ []) c.loop-other.invariant c.in_ok-entry.ensures
    ∙ sym (map_push of_other (map relup_release_of (take i others)) (relup_release_of other))
    ∙ ap (map of_other) (sym (map_push relup_release_of (take i others) other))
    ∙ ap (λ rs. map of_other (map relup_release_of rs)) (ap (λ r. take i others ++ r ∷ []) c.other-item.is ∙ sym (take_more others i other within))

pub returns : goal.returns
returns c =
    c.loop-other.invariant
    ∙ ap (λ rs. map (entry c.args.direction (relup_release_of c.args.new.now)) (map relup_release_of rs)) (take_all c.loop-other.other-index c.args.others.now c.loop-other-test.false)
