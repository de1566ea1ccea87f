use Rattle.relup_exec.proofs.after.run_late_with.Given as goal

abbrev pub ghosts-run_late_at-S-Seating : goal.ghosts-run_late_at-S-Seating
ghosts-run_late_at-S-Seating g a = record { name = a.lent.seat.ghost_name; table = a.lent.table.now }

abbrev pub ghosts-run_late_at-B-Beginning : goal.ghosts-run_late_at-B-Beginning
ghosts-run_late_at-B-Beginning g a = record { start = g.start }
