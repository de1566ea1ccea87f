use Rattle.rel_files.proofs.KindFiles.{one_fault}
use Rattle.mod_table.specs.File.{mod_files}
use Rattle.mod_table.proofs.laws.a_file_has_one_fault.Goals as goal

pub returns : goal.returns
returns c = one_fault mod_files
