use Rattle.std.proofs.Common.{◌≡◌, map, take}
use Rattle.relup_instruction.specs.Instruction.{change_of}
use Rattle.relup_row.proofs.copies.copy_changes.Given as goal

abbrev pub invariant-loop-change : goal.invariant-loop-change
invariant-loop-change l = map change_of l.copied.items ≡ map change_of (take l.change-index l.changes)
