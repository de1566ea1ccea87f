use Rattle.std.proofs.Common.{map}
use Rattle.library.specs.InMemory.{shared_of}
use Rattle.library.specs.Reading.{SaysLibrary}
use Rattle.library.proofs.TermRows.{AreReadTo}
use Rattle.library.proofs.record.libraries_of_terms.Given as goal

abbrev pub invariant-loop-term : goal.invariant-loop-term
invariant-loop-term l = AreReadTo SaysLibrary l.terms l.term-index (map shared_of l.libraries.items)
