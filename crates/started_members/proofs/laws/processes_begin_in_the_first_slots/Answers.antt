use Rattle.started_members.proofs.BeginLemmas.{first_slots}
use Rattle.started_members.proofs.laws.processes_begin_in_the_first_slots.Goals as goal

pub returns : goal.returns
returns c = first_slots
