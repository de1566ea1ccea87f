use Rattle.rel_list.proofs.EventLaws.{one_permanent-after}
use Rattle.rel_list.proofs.laws.exactly_one_release_is_permanent.Goals as goal

pub returns : goal.returns
returns c = one_permanent-after
