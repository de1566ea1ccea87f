use Rattle.std.proofs.Common.{subst, sym}
use Rattle.proc_history.specs.Events.{ByHandler}
use Rattle.proc_history.proofs.ReleaseLemmas.{entries_by_handler}
use Rattle.proc_table.proofs.table.ProcTable.put_down_with.Goals as goal

pub put_down-requires-clause-by : goal.put_down-requires-clause-by
put_down-requires-clause-by g c = subst ByHandler (sym c.requires.added) (entries_by_handler c.args.value c.args.entries.now)
