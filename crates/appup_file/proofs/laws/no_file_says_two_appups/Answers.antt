use Rattle.rel_files.proofs.KindFiles.{says_one}
use Rattle.appup_file.specs.File.{appup_files}
use Rattle.appup_file.proofs.laws.no_file_says_two_appups.Goals as goal

pub returns : goal.returns
returns c = says_one appup_files
