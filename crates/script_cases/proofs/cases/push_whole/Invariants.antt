use Rattle.script_cases.proofs.cases.push_whole.Given as goal

abbrev pub ghost-run_after : goal.ghost-run_after
ghost-run_after g a = g.start
