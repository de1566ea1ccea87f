use Rattle.node_start.proofs.start.begin_apps.Given as goal

abbrev pub ghosts-begin_apps_at : goal.ghosts-begin_apps_at
ghosts-begin_apps_at g a = record { name = a.lent.seat.ghost_name; table = a.lent.table.now }
