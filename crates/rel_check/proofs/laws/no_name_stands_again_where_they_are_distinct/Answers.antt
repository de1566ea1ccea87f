use Rattle.rel_check.proofs.Distinct.{none_again}
use Rattle.rel_check.proofs.laws.no_name_stands_again_where_they_are_distinct.Goals as goal

pub returns : goal.returns
returns c = none_again
