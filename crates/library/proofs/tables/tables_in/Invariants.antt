use Rattle.std.proofs.Common.{map}
use Rattle.library.specs.InMemory.{table_term_of}
use Rattle.library.specs.Reading.{SaysTableTerm}
use Rattle.library.proofs.TermRows.{AreReadTo}
use Rattle.library.proofs.tables.tables_in.Given as goal

abbrev pub invariant-loop-term : goal.invariant-loop-term
invariant-loop-term l = AreReadTo SaysTableTerm l.terms l.term-index (map table_term_of l.files.items)
