use Rattle.rel_records.proofs.EventRecords.{reports}
use Rattle.rel_records.proofs.laws.records_determine_events.Goals as goal

pub returns : goal.returns
returns c = reports
