use Rattle.script_cases.proofs.ways.carry_out.Given as goal

abbrev pub ghosts-carry_out_at : goal.ghosts-carry_out_at
ghosts-carry_out_at g a = record { name = a.lent.seat.ghost_name; table = a.lent.table.now }
