use Rattle.rel_list.proofs.OneShotLaws.{one_shots_come_from_restarts}
use Rattle.rel_list.proofs.laws.only_a_restart_makes_a_one_shot.Goals as goal

pub returns : goal.returns
returns c = one_shots_come_from_restarts
