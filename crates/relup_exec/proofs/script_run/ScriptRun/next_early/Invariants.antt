use Rattle.relup_exec.proofs.script_run.ScriptRun.next_early.Given as goal

abbrev pub ghost-carry_out_early : goal.ghost-carry_out_early
ghost-carry_out_early g a = g.past
