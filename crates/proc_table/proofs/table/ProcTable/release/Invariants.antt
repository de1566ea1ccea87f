use Rattle.proc_history.specs.Releases.{entries_of}
use Rattle.proc_table.proofs.table.ProcTable.release.Given as goal

abbrev pub ghosts-put_down_with : goal.ghosts-put_down_with
ghosts-put_down_with a = record { added = entries_of a.value a.entries.now }
