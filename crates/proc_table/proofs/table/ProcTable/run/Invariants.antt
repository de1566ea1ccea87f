use Rattle.proc_history.specs.Outcomes.{call_entries}
use Rattle.proc_table.proofs.table.ProcTable.run.Given as goal

abbrev pub ghosts-give_call : goal.ghosts-give_call
ghosts-give_call a = record { added = call_entries a.seat.now.me.0.number a.input a.outcome }
