use Rattle.proc_table.proofs.Runs.{held_alone}
use Rattle.proc_table.proofs.laws.who_has_a_process_has_it_alone.Goals as goal

pub returns : goal.returns
returns c = held_alone
