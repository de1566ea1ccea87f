use Rattle.relup_exec.proofs.script_run.ScriptRun.pass_point.Given as goal

abbrev pub ghost-pass_point : goal.ghost-pass_point
ghost-pass_point g a = g.followed
