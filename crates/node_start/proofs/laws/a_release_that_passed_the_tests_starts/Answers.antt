use Rattle.node_start.proofs.CheckLemmas.{checked_starts}
use Rattle.node_start.proofs.laws.a_release_that_passed_the_tests_starts.Goals as goal

pub returns : goal.returns
returns c = checked_starts
