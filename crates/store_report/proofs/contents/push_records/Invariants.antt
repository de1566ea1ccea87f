use Rattle.store_report.proofs.Places.{IsShownTo}
use Rattle.store_report.proofs.contents.push_records.Given as goal

abbrev pub invariant-loop-i : goal.invariant-loop-i
invariant-loop-i l = IsShownTo l.initial.text.items l.text.items l.records l.base l.i l.at
