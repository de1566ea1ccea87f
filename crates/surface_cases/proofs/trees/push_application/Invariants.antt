use Rattle.surface_cases.proofs.trees.push_application.Given as goal

abbrev pub ghosts-push_application_at : goal.ghosts-push_application_at
ghosts-push_application_at g a = record { name = a.lent.seat.ghost_name; table = a.lent.table.now }
