use Rattle.rel_files.proofs.KindFiles.{never_says_and_fails}
use Rattle.rel_files.specs.AppFile.{app_files}
use Rattle.rel_files.proofs.app_laws.no_file_says_an_application_and_has_a_fault.Goals as goal

pub returns : goal.returns
returns c = never_says_and_fails app_files
