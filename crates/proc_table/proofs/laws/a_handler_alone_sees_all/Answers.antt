use Rattle.proc_table.proofs.AloneLemmas.{alone_sees_all}
use Rattle.proc_table.proofs.laws.a_handler_alone_sees_all.Goals as goal

pub returns : goal.returns
returns c = alone_sees_all
