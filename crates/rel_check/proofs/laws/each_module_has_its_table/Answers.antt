use Rattle.rel_check.proofs.Distinct.{own_table}
use Rattle.rel_check.proofs.laws.each_module_has_its_table.Goals as goal

pub returns : goal.returns
returns c = own_table
