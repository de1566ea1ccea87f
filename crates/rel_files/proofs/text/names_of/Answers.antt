use Rattle.std.proofs.Common.{◌∙◌, ap, map, string_bytes, Some, refl}
use Rattle.rel_files.specs.Sketch.{name_in, names_of}
use Rattle.rel_files.proofs.Rows.{ReadsEach, row_more, row_none, row_all, viewed}
use Rattle.rel_files.proofs.text.names_of.Goals as goal

each : ReadsEach name_in names_of
each = record { none = refl; more = λ v vs. refl }

pub loop-item-preserved : goal.loop-item-preserved
loop-item-preserved c =
    row_more name_in names_of each c.args.items.now c.loop-item.item-index c.item-item.result (map string_bytes c.loop-item.names.items)
    (map string_bytes c.push.new.self.items) (string_bytes c.in_ok-from_str.field-0) _ c.loop-item-test.true c.item-item.is
    (ap Some c.in_ok-from_str.ensures.ok ∙ (rw c.in-Some.is at c.name_in.ensures)) (viewed string_bytes _ _ c.in_ok-from_str.field-0 c.in_ok-push.ensures.items)
    c.loop-item.invariant

pub returns : goal.returns
returns c = row_all name_in names_of each c.args.items.now c.loop-item.item-index (map string_bytes c.loop-item.names.items) c.loop-item-test.false c.loop-item.invariant

pub returns-in_default : goal.returns-in_default
returns-in_default c =
    row_none name_in names_of each c.args.items.now c.loop-item.item-index c.item-item.result (map string_bytes c.loop-item.names.items) _
    c.loop-item-test.true c.item-item.is (rw c.in_default.is at c.name_in.ensures) c.loop-item.invariant
