use Rattle.appup_file.specs.Instruction.{appup_instruction_of}
use Rattle.relup_row.proofs.WalkLemmas.{one_made, all_made}
use Rattle.appup_plain.proofs.copies.copy_row.Goals as goal

pub loop-instr-preserved : goal.loop-instr-preserved
loop-instr-preserved c =
    one_made appup_instruction_of appup_instruction_of c.args.row.now c.loop-instr.instr-index c.instr-item.result c.loop-instr.copied.items c.push.new.self.items _ c.loop-instr-test.true c.instr-item.is
    c.in_ok-copy_appup_instr.ensures c.in_ok-push.ensures.items c.loop-instr.invariant

pub returns : goal.returns
returns c = all_made appup_instruction_of appup_instruction_of c.args.row.now c.loop-instr.instr-index c.loop-instr.copied.items c.loop-instr-test.false c.loop-instr.invariant
