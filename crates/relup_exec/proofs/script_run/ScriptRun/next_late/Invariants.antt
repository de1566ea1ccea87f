use Rattle.relup_exec.proofs.script_run.ScriptRun.next_late.Given as goal

abbrev pub ghost-carry_out_late : goal.ghost-carry_out_late
ghost-carry_out_late g a = g.past
