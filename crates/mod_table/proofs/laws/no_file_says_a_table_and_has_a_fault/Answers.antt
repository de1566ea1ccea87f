use Rattle.rel_files.proofs.KindFiles.{never_says_and_fails}
use Rattle.mod_table.specs.File.{mod_files}
use Rattle.mod_table.proofs.laws.no_file_says_a_table_and_has_a_fault.Goals as goal

pub returns : goal.returns
returns c = never_says_and_fails mod_files
