use Rattle.std.proofs.Common.{true}
use Rattle.erl_token.specs.Bytes.{IsAdded}
use Rattle.erl_token.proofs.bytes.push_part.Given as goal

abbrev pub invariant-loop-character : goal.invariant-loop-character
invariant-loop-character l = IsAdded true l.yielded l.initial.bytes.items l.bytes.items
