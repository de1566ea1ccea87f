use Rattle.surface_cases.proofs.scripts.push_carried_out.Given as goal

abbrev pub ghost-run_after : goal.ghost-run_after
ghost-run_after g a = g.start
