use Rattle.std.proofs.Common.{◌≡◌, map, take}
use Rattle.relup_instruction.specs.Instruction.{suspension_of}
use Rattle.relup_row.proofs.copies.copy_suspensions.Given as goal

abbrev pub invariant-loop-suspension : goal.invariant-loop-suspension
invariant-loop-suspension l = map suspension_of l.copied.items ≡ map suspension_of (take l.suspension-index l.suspensions)
