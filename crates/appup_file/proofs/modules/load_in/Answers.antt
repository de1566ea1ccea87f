use Rattle.std.proofs.Common.{arith}
use Rattle.std.proofs.lemmas.Grind.{common_steps}
use Rattle.appup_file.proofs.LongRows.{no_load, no_load_of_two}
use Rattle.appup_file.proofs.modules.load_in.Goals as goal

pub returns-in_default : goal.returns-in_default
returns-in_default c = no_load c.args.name.now c.args.row.now c.in_default.len_at_least

pub returns-in-len2 : goal.returns-in-len2
returns-in-len2 c = no_load_of_two c.args.name.now c.args.row.now c.in-len2.len_at_least c.in-len2.len_below

pub returns-in-len1 : goal.returns-in-len1
returns-in-len1 c = grind (arith, common_steps)

pub returns-in-len3 : goal.returns-in-len3
returns-in-len3 c = grind (arith, common_steps)
