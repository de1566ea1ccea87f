use Rattle.relup_exec.proofs.armed.roll_back_with.Given as goal

abbrev pub ghosts-roll_back_at : goal.ghosts-roll_back_at
ghosts-roll_back_at a = record { name = a.lent.seat.ghost_name; table = a.lent.table.now }
