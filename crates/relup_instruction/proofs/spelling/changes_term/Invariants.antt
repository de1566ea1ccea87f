use Rattle.std.proofs.Common.{◌≡◌, map, take}
use Rattle.erl_term.specs.Value.{value_of}
use Rattle.relup_instruction.specs.Instruction.{change_of}
use Rattle.relup_instruction.specs.Form.{change_term}
use Rattle.relup_instruction.proofs.spelling.changes_term.Given as goal

abbrev pub invariant-loop-change : goal.invariant-loop-change
invariant-loop-change l = map value_of l.terms.items ≡ map change_term (map change_of (take l.change-index l.changes))
