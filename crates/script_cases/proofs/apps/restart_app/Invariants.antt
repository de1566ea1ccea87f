use Rattle.script_cases.proofs.apps.restart_app.Given as goal

abbrev pub ghosts-restart_app_at : goal.ghosts-restart_app_at
ghosts-restart_app_at g a = record { name = a.lent.seat.ghost_name; table = a.lent.table.now }
