use Rattle.rel_files.proofs.KindFiles.{says_or_fault}
use Rattle.rel_files.specs.AppFile.{app_files}
use Rattle.rel_files.proofs.app_laws.each_file_says_an_application_or_has_a_fault.Goals as goal

pub returns : goal.returns
returns c = says_or_fault app_files
