use Rattle.worker_table.proofs.Sameness.{same_are_equal}
use Rattle.worker_table.proofs.laws.same_terms_are_equal.Goals as goal

pub returns : goal.returns
returns c = same_are_equal
