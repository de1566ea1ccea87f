use Rattle.relup_exec.proofs.script_run.ScriptRun.close.Given as goal

abbrev pub ghost-finish : goal.ghost-finish
ghost-finish g a = g.followed
