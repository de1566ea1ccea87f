use Rattle.held_processes.proofs.NothingHeldLemmas.{starts_hold_nothing}
use Rattle.held_processes.proofs.laws.starts_and_stops_leave_nothing_held.Goals as goal

pub returns : goal.returns
returns c = starts_hold_nothing
