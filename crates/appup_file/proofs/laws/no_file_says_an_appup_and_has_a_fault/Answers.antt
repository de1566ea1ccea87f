use Rattle.appup_file.proofs.FileLemmas.{never_both}
use Rattle.appup_file.proofs.laws.no_file_says_an_appup_and_has_a_fault.Goals as goal

pub returns : goal.returns
returns c = never_both
