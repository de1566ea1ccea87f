use Rattle.std.proofs.Common.{◌≡◌, drop}
use Rattle.std.specs.List.{list_any}
use Rattle.appup_file.specs.Instruction.{row_of}
use Rattle.relup_row.specs.Script.{asks_restart}
use Rattle.relup_row.proofs.rows.row_asks_restart.Given as goal

abbrev pub invariant-loop-instr : goal.invariant-loop-instr
invariant-loop-instr l = list_any asks_restart (row_of (drop l.instr-index l.row)) ≡ list_any asks_restart (row_of l.row)
