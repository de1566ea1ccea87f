use Rattle.relup_exec.proofs.load.load_fetched.Given as goal

abbrev pub ghost-give_table : goal.ghost-give_table
ghost-give_table g a = g.past
