use Rattle.rel_files.proofs.KindFiles.{says_or_fault}
use Rattle.mod_table.specs.File.{mod_files}
use Rattle.mod_table.proofs.laws.each_file_says_a_table_or_has_a_fault.Goals as goal

pub returns : goal.returns
returns c = says_or_fault mod_files
