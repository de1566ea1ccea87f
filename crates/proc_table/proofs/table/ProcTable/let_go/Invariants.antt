use Rattle.proc_table.proofs.table.ProcTable.let_go.Given as goal

abbrev pub ghosts-put_down : goal.ghosts-put_down
ghosts-put_down g a = record { added = g.entries }
