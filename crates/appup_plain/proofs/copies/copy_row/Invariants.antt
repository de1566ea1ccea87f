use Rattle.std.proofs.Common.{◌≡◌, take}
use Rattle.appup_file.specs.Instruction.{row_of}
use Rattle.appup_plain.proofs.copies.copy_row.Given as goal

abbrev pub invariant-loop-instr : goal.invariant-loop-instr
invariant-loop-instr l = row_of l.copied.items ≡ row_of (take l.instr-index l.row)
