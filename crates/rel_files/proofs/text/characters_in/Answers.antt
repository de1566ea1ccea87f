use Rattle.std.proofs.Common.{◌∙◌, ◌++◌, string_bytes, ap, refl}
use Rattle.rel_files.specs.Sketch.{character_in, characters_in}
use Rattle.rel_files.proofs.Rows.{ReadsEach, row_more, row_none, row_all}
use Rattle.rel_files.proofs.text.characters_in.Goals as goal

pub loop-item-preserved : goal.loop-item-preserved
loop-item-preserved c =
    let lowest = c.args.lowest in
    let each : ReadsEach (character_in lowest) (characters_in lowest) = record { none = refl; more = λ v vs. refl } in
    let old = string_bytes c.loop-item.text in
    let grown = c.in_ok-push.ensures.bytes ∙ ap (λ bytes. old ++ bytes) (c.in_ok-push.ensures.ascii (rw c.in-Some.is at c.character_in.ensures.ascii)) in
    row_more (character_in lowest) (characters_in lowest) each c.args.items.now c.loop-item.item-index c.item-item.result old (string_bytes c.push.new.self)
    c.in-Some.character _ c.loop-item-test.true c.item-item.is (rw c.in-Some.is at c.character_in.ensures.found) grown c.loop-item.invariant

pub returns : goal.returns
returns c =
    let lowest = c.args.lowest in
    row_all (character_in lowest) (characters_in lowest) (record { none = refl; more = λ v vs. refl }) c.args.items.now c.loop-item.item-index
    (string_bytes c.loop-item.text) c.loop-item-test.false c.loop-item.invariant

pub returns-in_default : goal.returns-in_default
returns-in_default c =
    let lowest = c.args.lowest in
    row_none (character_in lowest) (characters_in lowest) (record { none = refl; more = λ v vs. refl }) c.args.items.now c.loop-item.item-index c.item-item.result
    (string_bytes c.loop-item.text) _ c.loop-item-test.true c.item-item.is (rw c.in_default.is at c.character_in.ensures.found) c.loop-item.invariant
