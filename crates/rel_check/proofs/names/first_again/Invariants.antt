use Rattle.std.proofs.Common.{◌≡◌, map, drop}
use Rattle.rel_files.proofs.Distinct.{is_seen}
use Rattle.rel_check.specs.InMemory.{named_of}
use Rattle.rel_check.specs.Names.{first_met, first_again}
use Rattle.rel_check.proofs.names.first_again.Given as goal

abbrev pub invariant-loop-named : goal.invariant-loop-named
invariant-loop-named l = first_met (λ n. is_seen n l.seen.keys) (map named_of (drop l.named-index l.names)) ≡ first_again (map named_of l.names)
