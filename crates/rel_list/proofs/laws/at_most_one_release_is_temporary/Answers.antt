use Rattle.rel_list.proofs.EventLaws.{orderly-after}
use Rattle.rel_list.proofs.laws.at_most_one_release_is_temporary.Goals as goal

pub returns : goal.returns
returns c = λ events es is. (orderly-after events es is).one_temporary
