use Rattle.relup_exec.proofs.early.carry_out_early.Given as goal

abbrev pub ghost-suspend : goal.ghost-suspend
ghost-suspend g a = g.past

abbrev pub ghost-load : goal.ghost-load
ghost-load g a = g.past
