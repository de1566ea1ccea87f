use Rattle.appup_file.proofs.FileLemmas.{says_or_fault}
use Rattle.appup_file.proofs.laws.each_file_says_an_appup_or_has_a_fault.Goals as goal

pub returns : goal.returns
returns c = says_or_fault
