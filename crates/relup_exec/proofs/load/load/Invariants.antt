use Rattle.relup_exec.proofs.load.load.Given as goal

abbrev pub ghost-load_fetched : goal.ghost-load_fetched
ghost-load_fetched g a = g.past
