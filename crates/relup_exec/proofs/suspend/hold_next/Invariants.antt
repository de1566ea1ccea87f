use Rattle.relup_exec.proofs.suspend.hold_next.Given as goal

abbrev pub ghost-suspend : goal.ghost-suspend
ghost-suspend g a = g.followed
