use Rattle.rel_records.proofs.EventRecords.{are_of_events, statuses_are_of_events}
use Rattle.rel_records.proofs.laws.records_are_of_events.Goals as goal

pub returns-clause-releases : goal.returns-clause-releases
returns-clause-releases c = are_of_events

pub returns-clause-statuses : goal.returns-clause-statuses
returns-clause-statuses c = statuses_are_of_events
