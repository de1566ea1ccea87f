use Rattle.script_cases.proofs.apps.start.Given as goal

abbrev pub ghost-start_app : goal.ghost-start_app
ghost-start_app g a = g.followed
