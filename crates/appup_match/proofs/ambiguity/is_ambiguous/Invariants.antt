use Rattle.std.proofs.Common.{◌≡◌, drop}
use Rattle.appup_match.specs.Ambiguity.{differs_from, is_ambiguous}
use Rattle.appup_match.proofs.ambiguity.is_ambiguous.Given as goal

abbrev pub invariant-loop-byte : goal.invariant-loop-byte
invariant-loop-byte l = differs_from l.place (drop l.byte-index l.pattern) ≡ is_ambiguous l.pattern
