use Rattle.rel_files.proofs.KindFiles.{one_fault}
use Rattle.rel_files.specs.AppFile.{app_files}
use Rattle.rel_files.proofs.app_laws.a_file_has_one_fault.Goals as goal

pub returns : goal.returns
returns c = one_fault app_files
