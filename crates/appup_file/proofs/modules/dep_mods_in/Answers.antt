use Rattle.appup_file.proofs.LongRows.{no_dep_mods}
use Rattle.appup_file.proofs.modules.dep_mods_in.Goals as goal

pub returns-in_default : goal.returns-in_default
returns-in_default c = no_dep_mods c.args.row.now c.in_default.len_at_least
