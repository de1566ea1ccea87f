use Rattle.relup_exec.proofs.late.carry_out_late.Given as goal

abbrev pub ghost-apply : goal.ghost-apply
ghost-apply g a = g.past

abbrev pub ghost-carry_out_other : goal.ghost-carry_out_other
ghost-carry_out_other g a = g.past

abbrev pub ghost-remove : goal.ghost-remove
ghost-remove g a = g.past
