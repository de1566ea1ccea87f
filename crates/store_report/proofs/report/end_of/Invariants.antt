use Rattle.store_report.proofs.Places.{IsAt}
use Rattle.store_report.proofs.report.end_of.Given as goal

abbrev pub invariant-loop-record : goal.invariant-loop-record
invariant-loop-record l = IsAt l.records l.base l.record-index l.gate
