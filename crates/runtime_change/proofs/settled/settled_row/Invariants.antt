use Rattle.std.proofs.Common.{◌≡◌, ◌++◌, drop}
use Rattle.appup_file.specs.Instruction.{row_of}
use Rattle.runtime_change.specs.Settled.{settled_row}
use Rattle.runtime_change.proofs.settled.settled_row.Given as goal

abbrev pub invariant-loop-instr : goal.invariant-loop-instr
invariant-loop-instr l = row_of l.settled.items ++ settled_row (row_of (drop l.instr-index l.row)) ≡ settled_row (row_of l.row)
