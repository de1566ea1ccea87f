use Rattle.std.proofs.Common.{◌≡◌, ◌++◌, List, ℕ, map, filter, drop}
use Rattle.relup_instruction.specs.Instruction.{SuspensionForm, suspension_of}
use Rattle.relup_instruction.specs.declared.instruction.Suspension.{Suspension}
use Rattle.relup_lint.specs.Names.{texts}
use Rattle.relup_lint.specs.Parts.{has_no_time}
use Rattle.relup_lint.proofs.parts.suspensions_without_time.Given as goal

-- the names of those without time
abbrev of_those : List Suspension → List (List ℕ)
of_those ss = map (λ (s : SuspensionForm). s.name) (filter (λ (s : SuspensionForm). has_no_time s.timeout) (map suspension_of ss))

abbrev pub invariant-loop-suspension : goal.invariant-loop-suspension
invariant-loop-suspension l = texts l.names.items ++ of_those (drop l.suspension-index l.suspensions) ≡ of_those l.suspensions
