use Rattle.script_cases.proofs.ways.end.Given as goal

abbrev pub ghost-resume : goal.ghost-resume
ghost-resume g a = g.followed

abbrev pub ghost-finish : goal.ghost-finish
ghost-finish g a = g.followed
