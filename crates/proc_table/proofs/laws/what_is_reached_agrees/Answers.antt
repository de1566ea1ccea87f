use Rattle.proc_table.proofs.Runs.{reached_agrees}
use Rattle.proc_table.proofs.laws.what_is_reached_agrees.Goals as goal

pub returns : goal.returns
returns c = reached_agrees
