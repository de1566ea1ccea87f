use Rattle.rel_files.proofs.KindFiles.{says_one}
use Rattle.rel_files.specs.AppFile.{app_files}
use Rattle.rel_files.proofs.app_laws.no_file_says_two_applications.Goals as goal

pub returns : goal.returns
returns c = says_one app_files
