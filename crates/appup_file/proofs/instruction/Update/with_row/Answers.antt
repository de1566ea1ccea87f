use Rattle.std.proofs.Common.{arith}
use Rattle.std.proofs.lemmas.Grind.{common_steps}
use Rattle.appup_file.specs.Instruction.{update_of}
use Rattle.appup_file.proofs.LongRows.{no_update, no_update_of_three}
use Rattle.appup_file.proofs.instruction.Update.with_row.Goals as goal

pub returns-in-len3 : goal.returns-in-len3
returns-in-len3 c = no_update_of_three c.args.row.now (update_of c.args.self) c.in-len3.len_at_least c.in-len3.len_below

pub returns-in_default : goal.returns-in_default
returns-in_default c = no_update c.args.row.now (update_of c.args.self) c.in_default.len_at_least

pub returns-in-empty : goal.returns-in-empty
returns-in-empty c = grind (arith, common_steps)

pub returns-in-len1 : goal.returns-in-len1
returns-in-len1 c = grind (arith, common_steps)

pub returns-in-len2 : goal.returns-in-len2
returns-in-len2 c = grind (arith, common_steps)

pub returns-in-len4 : goal.returns-in-len4
returns-in-len4 c = grind (arith, common_steps)

pub returns-in-len5 : goal.returns-in-len5
returns-in-len5 c = grind (arith, common_steps)

pub returns-in-len6 : goal.returns-in-len6
returns-in-len6 c = grind (arith, common_steps)
