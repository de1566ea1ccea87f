use Rattle.appup_file.proofs.FileLemmas.{one_fault}
use Rattle.appup_file.proofs.laws.a_file_has_one_fault.Goals as goal

pub returns : goal.returns
returns c = one_fault
