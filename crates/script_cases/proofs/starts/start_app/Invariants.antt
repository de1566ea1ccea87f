use Rattle.script_cases.proofs.starts.start_app.Given as goal

abbrev pub ghosts-start_app_at : goal.ghosts-start_app_at
ghosts-start_app_at g a = record { name = a.lent.seat.ghost_name; table = a.lent.table.now }
