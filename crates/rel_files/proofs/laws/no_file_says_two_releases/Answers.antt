use Rattle.rel_files.proofs.OneFault.{says_one}
use Rattle.rel_files.proofs.laws.no_file_says_two_releases.Goals as goal

pub returns : goal.returns
returns c = says_one
