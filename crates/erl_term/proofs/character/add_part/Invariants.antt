use Rattle.std.proofs.Common.{◌≡◌, ◌++◌, map, pos}
use Rattle.erl_term.specs.Value.{value_of}
use Rattle.erl_term.specs.Value.Value.{int}
use Rattle.erl_term.proofs.character.add_part.Given as goal

abbrev pub invariant-loop-character : goal.invariant-loop-character
invariant-loop-character l = map value_of l.members.items ≡ map value_of l.initial.members.items ++ map (λ n. int (pos n)) l.yielded
