use Rattle.proc_table.proofs.FreeLemmas.{began_lowest}
use Rattle.proc_table.proofs.table.ProcTable.begin_lowest.Goals as goal

pub returns-in-Some-clause-began : goal.returns-in-Some-clause-began
returns-in-Some-clause-began g c = began_lowest c.args.seat.now.view _ c.in-Some.pid _ _ c.lowest_free.ensures.handler c.in-Some.ensures.lowest c.begin.ensures.began
