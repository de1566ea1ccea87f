use Rattle.std.proofs.Common.{◌≡◌, ◌++◌, drop}
use Rattle.appup_file.specs.Instruction.{row_of}
use Rattle.relup_instruction.specs.Instruction.{script_of}
use Rattle.relup_row.specs.Script.{written_fetches}
use Rattle.relup_row.proofs.rows.push_written_fetches.Given as goal

abbrev pub invariant-loop-instr : goal.invariant-loop-instr
invariant-loop-instr l = script_of l.out.items ++ written_fetches (row_of (drop l.instr-index l.row)) ≡ script_of l.initial.out.items ++ written_fetches (row_of l.row)
