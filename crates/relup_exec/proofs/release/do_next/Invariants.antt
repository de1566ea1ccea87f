use Rattle.relup_exec.proofs.release.do_next.Given as goal

abbrev pub ghost-do_once : goal.ghost-do_once
ghost-do_once g a = g.followed
