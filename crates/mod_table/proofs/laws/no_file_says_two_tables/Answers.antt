use Rattle.rel_files.proofs.KindFiles.{says_one}
use Rattle.mod_table.specs.File.{mod_files}
use Rattle.mod_table.proofs.laws.no_file_says_two_tables.Goals as goal

pub returns : goal.returns
returns c = says_one mod_files
