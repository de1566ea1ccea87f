use Rattle.script_cases.proofs.ways.finish.Given as goal

abbrev pub ghost-finish : goal.ghost-finish
ghost-finish g a = g.followed
