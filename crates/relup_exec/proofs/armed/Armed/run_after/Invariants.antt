use Rattle.relup_exec.proofs.armed.Armed.run_after.Given as goal

abbrev pub ghost-run_late_with : goal.ghost-run_late_with
ghost-run_late_with g a = g.start
