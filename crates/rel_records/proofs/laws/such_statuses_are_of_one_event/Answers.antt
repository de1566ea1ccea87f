use Rattle.rel_records.proofs.EventsOfStatuses.{such_statuses_are_of_one_event}
use Rattle.rel_records.proofs.laws.such_statuses_are_of_one_event.Goals as goal

pub returns : goal.returns
returns c = such_statuses_are_of_one_event
