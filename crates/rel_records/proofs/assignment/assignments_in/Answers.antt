use Rattle.std.proofs.Common.{refl, map}
use Rattle.rel_files.proofs.Rows.{ReadsEach, row_more, row_none, row_all, viewed}
use Rattle.rel_records.specs.Parts.{assignment_read}
use Rattle.rel_records.specs.Reading.{assignment_in, assignments_of}
use Rattle.rel_records.proofs.assignment.assignments_in.Goals as goal

each : ReadsEach assignment_in assignments_of
each = record { none = refl; more = λ v vs. refl }

pub loop-item-preserved : goal.loop-item-preserved
loop-item-preserved c =
    row_more assignment_in assignments_of each c.args.items.now c.loop-item.item-index c.item-item.result _ _ (assignment_read c.in-Some.assignment) _
    c.loop-item-test.true c.item-item.is (rw c.in-Some.is at c.in_ok-assignment.ensures)
    (viewed assignment_read c.loop-item.all.items c.push.new.self.items c.in-Some.assignment c.in_ok-push.ensures.items) c.loop-item.invariant

-- an item assigns nothing
pub returns-in_default : goal.returns-in_default
returns-in_default c =
    row_none assignment_in assignments_of each c.args.items.now c.loop-item.item-index c.item-item.result (map assignment_read c.loop-item.all.items) _
    c.loop-item-test.true c.item-item.is (rw c.in_default.is at c.in_ok-assignment.ensures) c.loop-item.invariant

pub returns : goal.returns
returns c = row_all assignment_in assignments_of each c.args.items.now c.loop-item.item-index _ c.loop-item-test.false c.loop-item.invariant
