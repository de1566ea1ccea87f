use Rattle.process_cases.proofs.trees.change_processes.Given as goal

abbrev pub ghosts-change_processes_at : goal.ghosts-change_processes_at
ghosts-change_processes_at g a = record { name = a.lent.seat.ghost_name; table = a.lent.table.now }
