use Rattle.relup_exec.proofs.late.carry_out_other.Given as goal

abbrev pub ghost-suspend : goal.ghost-suspend
ghost-suspend g a = g.past

abbrev pub ghost-load : goal.ghost-load
ghost-load g a = g.past

abbrev pub ghost-do_plain : goal.ghost-do_plain
ghost-do_plain g a = g.past
