use Rattle.relup_instruction.proofs.Rows.{row_more, row_none, row_all}
use Rattle.appup_file.specs.Instruction.{appup_instruction_of}
use Rattle.appup_file.specs.Parts.{appup_instruction_in}
use Rattle.appup_file.proofs.steps.row_in.Goals as goal

pub loop-item-preserved : goal.loop-item-preserved
loop-item-preserved c =
    row_more appup_instruction_in appup_instruction_of c.args.items.now c.loop-item.item-index c.item-item.result c.loop-item.instrs.items c.push.new.self.items c.in-Some.instr _
    c.loop-item-test.true c.item-item.is (rw c.in-Some.is at c.in_ok-instr.ensures) c.in_ok-push.ensures.items c.loop-item.invariant

pub returns : goal.returns
returns c = row_all appup_instruction_in appup_instruction_of c.args.items.now c.loop-item.item-index c.loop-item.instrs.items c.loop-item-test.false c.loop-item.invariant

pub returns-in_default : goal.returns-in_default
returns-in_default c =
    row_none appup_instruction_in appup_instruction_of c.args.items.now c.loop-item.item-index c.item-item.result c.loop-item.instrs.items _
    c.loop-item-test.true c.item-item.is (rw c.in_default.is at c.in_ok-instr.ensures) c.loop-item.invariant
