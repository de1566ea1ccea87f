use Rattle.rel_files.proofs.Either.{says_or_fault}
use Rattle.rel_files.proofs.laws.each_file_says_a_release_or_has_a_fault.Goals as goal

pub returns : goal.returns
returns c = says_or_fault
