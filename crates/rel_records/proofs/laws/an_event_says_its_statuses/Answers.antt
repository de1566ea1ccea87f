use Rattle.rel_records.proofs.StatusesAfterEvents.{an_event_says_its_statuses}
use Rattle.rel_records.proofs.laws.an_event_says_its_statuses.Goals as goal

pub returns : goal.returns
returns c = an_event_says_its_statuses
