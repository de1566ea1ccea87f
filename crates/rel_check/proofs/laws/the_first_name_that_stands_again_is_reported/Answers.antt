use Rattle.rel_check.proofs.Distinct.{finds_first_again}
use Rattle.rel_check.proofs.laws.the_first_name_that_stands_again_is_reported.Goals as goal

pub returns : goal.returns
returns c = finds_first_again
