use Rattle.std.proofs.Common.{◌≡◌, drop}
use Rattle.appup_file.specs.Instruction.{row_of}
use Rattle.relup_row.specs.Release.{way_of, relup_app_of}
use Rattle.relup_translate.specs.Translation.{first_fault, instruction_fault}
use Rattle.relup_translate.proofs.refusals.row_fault.Given as goal

abbrev pub invariant-loop-instr : goal.invariant-loop-instr
invariant-loop-instr l = first_fault (instruction_fault (way_of l.way) (relup_app_of l.left)) (row_of (drop l.instr-index l.row)) ≡ first_fault (instruction_fault (way_of l.way) (relup_app_of l.left)) (row_of l.row)
