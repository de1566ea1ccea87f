use Rattle.relup_instruction.specs.Instruction.{instruction_of}
use Rattle.relup_instruction.specs.Parts.{instruction_in}
use Rattle.relup_instruction.proofs.Rows.{row_more, row_none, row_all}
use Rattle.relup_instruction.proofs.steps.instructions_in.Goals as goal

pub loop-item-preserved : goal.loop-item-preserved
loop-item-preserved c =
    row_more instruction_in instruction_of c.args.items.now c.loop-item.item-index c.item-item.result c.loop-item.script.items c.push.new.self.items c.in-Some.instr _
    c.loop-item-test.true c.item-item.is (rw c.in-Some.is at c.in_ok-instr.ensures) c.in_ok-push.ensures.items c.loop-item.invariant

pub returns : goal.returns
returns c = row_all instruction_in instruction_of c.args.items.now c.loop-item.item-index c.loop-item.script.items c.loop-item-test.false c.loop-item.invariant

pub returns-in_default : goal.returns-in_default
returns-in_default c =
    row_none instruction_in instruction_of c.args.items.now c.loop-item.item-index c.item-item.result c.loop-item.script.items _
    c.loop-item-test.true c.item-item.is (rw c.in_default.is at c.in_ok-instr.ensures) c.loop-item.invariant
