use Rattle.std.proofs.Common.{refl}
use Rattle.relup_instruction.specs.Instruction.{instruction_of}
use Rattle.appup_file.specs.Instruction.{appup_instruction_of}
use Rattle.relup_row.specs.Script.{written_fetch, written_fetches}
use Rattle.relup_block.proofs.WalkLemmas.{one_further, none_left}
use Rattle.relup_row.proofs.rows.push_written_fetches.Goals as goal

pub loop-instr-preserved : goal.loop-instr-preserved
loop-instr-preserved c =
    one_further instruction_of appup_instruction_of written_fetches c.args.row.now c.loop-instr.instr-index c.instr-item.result c.loop-instr.out.items c.push_written_fetch.new.out.items
    (written_fetch (appup_instruction_of c.instr-item.result)) _ c.loop-instr-test.true c.instr-item.is refl c.in_ok-push_written_fetch.ensures c.loop-instr.invariant

pub returns : goal.returns
returns c =
    none_left instruction_of appup_instruction_of written_fetches c.args.row.now c.loop-instr.instr-index c.loop-instr.out.items _ refl
    c.loop-instr-test.false c.loop-instr.invariant
