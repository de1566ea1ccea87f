use Rattle.appup_file.proofs.LongRows.{no_start, start_of_none}
use Rattle.appup_file.proofs.applications.start_in.Goals as goal

pub returns-in-empty : goal.returns-in-empty
returns-in-empty c = start_of_none c.args.row.now c.in-empty.len_below

pub returns-in_default : goal.returns-in_default
returns-in_default c = no_start c.args.row.now c.in_default.len_at_least
