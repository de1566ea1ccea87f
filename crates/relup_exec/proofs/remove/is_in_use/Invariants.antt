use Rattle.relup_exec.proofs.remove.is_in_use.Given as goal

abbrev pub ghost-any_up : goal.ghost-any_up
ghost-any_up g a = g.followed
