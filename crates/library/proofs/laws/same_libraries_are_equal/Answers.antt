use Rattle.library.proofs.Terms.{same_libraries}
use Rattle.library.proofs.laws.same_libraries_are_equal.Goals as goal

pub returns : goal.returns
returns c = same_libraries
