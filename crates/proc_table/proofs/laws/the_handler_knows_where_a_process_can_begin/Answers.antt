use Rattle.proc_table.proofs.FreeLemmas.{handler_knows}
use Rattle.proc_table.proofs.laws.the_handler_knows_where_a_process_can_begin.Goals as goal

pub returns : goal.returns
returns c = handler_knows
