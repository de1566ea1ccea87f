use Rattle.relup_exec.proofs.after.run_late_at.Given as goal

abbrev pub ghost-run_late : goal.ghost-run_late
ghost-run_late g a = g.B.Beginning.start
