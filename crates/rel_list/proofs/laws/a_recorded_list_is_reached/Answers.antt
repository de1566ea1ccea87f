use Rattle.rel_list.proofs.RestLaws.{recorded_reached}
use Rattle.rel_list.proofs.laws.a_recorded_list_is_reached.Goals as goal

pub returns : goal.returns
returns c = recorded_reached
