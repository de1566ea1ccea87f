use Rattle.rel_list.proofs.EventLaws.{orderly-after}
use Rattle.rel_list.proofs.laws.versions_are_distinct.Goals as goal

pub returns : goal.returns
returns c = λ events es is. (orderly-after events es is).distinct
