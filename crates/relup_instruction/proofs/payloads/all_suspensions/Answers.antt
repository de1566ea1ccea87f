use Rattle.relup_instruction.specs.Instruction.{suspension_of}
use Rattle.relup_instruction.specs.Parts.{suspension_in}
use Rattle.relup_instruction.proofs.Rows.{row_more, row_none, row_all}
use Rattle.relup_instruction.proofs.payloads.all_suspensions.Goals as goal

pub loop-item-preserved : goal.loop-item-preserved
loop-item-preserved c =
    row_more suspension_in suspension_of c.args.items.now c.loop-item.item-index c.item-item.result c.loop-item.all.items c.push.new.self.items c.in-Some.suspension _
    c.loop-item-test.true c.item-item.is (rw c.in-Some.is at c.in_ok-suspension.ensures) c.in_ok-push.ensures.items c.loop-item.invariant

pub returns : goal.returns
returns c = row_all suspension_in suspension_of c.args.items.now c.loop-item.item-index c.loop-item.all.items c.loop-item-test.false c.loop-item.invariant

pub returns-in_default : goal.returns-in_default
returns-in_default c =
    row_none suspension_in suspension_of c.args.items.now c.loop-item.item-index c.item-item.result c.loop-item.all.items _
    c.loop-item-test.true c.item-item.is (rw c.in_default.is at c.in_ok-suspension.ensures) c.loop-item.invariant
