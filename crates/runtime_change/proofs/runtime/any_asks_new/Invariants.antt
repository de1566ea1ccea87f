use Rattle.std.proofs.Common.{◌≡◌, drop}
use Rattle.std.specs.List.{list_any}
use Rattle.appup_file.specs.Instruction.{row_of}
use Rattle.runtime_change.specs.Runtime.{asks_new}
use Rattle.runtime_change.proofs.runtime.any_asks_new.Given as goal

abbrev pub invariant-loop-instr : goal.invariant-loop-instr
invariant-loop-instr l = list_any asks_new (row_of (drop l.instr-index l.row)) ≡ list_any asks_new (row_of l.row)
