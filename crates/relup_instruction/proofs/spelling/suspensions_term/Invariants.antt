use Rattle.std.proofs.Common.{◌≡◌, map, take}
use Rattle.erl_term.specs.Value.{value_of}
use Rattle.relup_instruction.specs.Instruction.{suspension_of}
use Rattle.relup_instruction.specs.Form.{suspension_term}
use Rattle.relup_instruction.proofs.spelling.suspensions_term.Given as goal

abbrev pub invariant-loop-suspension : goal.invariant-loop-suspension
invariant-loop-suspension l = map value_of l.terms.items ≡ map suspension_term (map suspension_of (take l.suspension-index l.suspensions))
