use Rattle.rel_list.proofs.OneShotLaws.{restarts_are_recorded}
use Rattle.rel_list.proofs.laws.a_restart_is_recorded_as_it_is.Goals as goal

pub returns : goal.returns
returns c = restarts_are_recorded
