use Rattle.rel_files.proofs.OneFault.{one_fault}
use Rattle.rel_files.proofs.laws.a_file_has_one_fault.Goals as goal

pub returns : goal.returns
returns c = one_fault
