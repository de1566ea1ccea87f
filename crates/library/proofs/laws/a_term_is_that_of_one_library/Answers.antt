use Rattle.library.proofs.Terms.{says_one_library}
use Rattle.library.proofs.laws.a_term_is_that_of_one_library.Goals as goal

pub returns : goal.returns
returns c = says_one_library
