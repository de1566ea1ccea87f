use Rattle.relup_file.proofs.FileLemmas.{says_one}
use Rattle.relup_file.proofs.laws.no_file_says_two_relups.Goals as goal

pub returns : goal.returns
returns c = says_one
