use Rattle.rel_files.proofs.OneFault.{never_says_and_fails}
use Rattle.rel_files.proofs.laws.no_file_says_a_release_and_has_a_fault.Goals as goal

pub returns : goal.returns
returns c = never_says_and_fails
