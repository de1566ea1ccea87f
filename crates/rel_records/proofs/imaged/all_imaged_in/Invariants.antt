use Rattle.std.proofs.Common.{map}
use Rattle.library.proofs.TermRows.{AreReadTo}
use Rattle.rel_records.specs.Parts.{imaged_read}
use Rattle.rel_records.specs.Reading.{SaysImaged}
use Rattle.rel_records.proofs.imaged.all_imaged_in.Given as goal

-- what was read says what the terms so far say
abbrev pub invariant-loop-term : goal.invariant-loop-term
invariant-loop-term l = AreReadTo SaysImaged l.terms l.term-index (map imaged_read l.releases.items)
