use Rattle.relup_exec.proofs.before.run_early_with.Given as goal

abbrev pub ghosts-run_early_at : goal.ghosts-run_early_at
ghosts-run_early_at g a = record { name = a.lent.seat.ghost_name; table = a.lent.table.now }
