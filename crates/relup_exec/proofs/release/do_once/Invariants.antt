use Rattle.relup_exec.proofs.release.do_once.Given as goal

abbrev pub ghost-resume : goal.ghost-resume
ghost-resume g a = g.followed

abbrev pub ghost-stop : goal.ghost-stop
ghost-stop g a = g.followed

abbrev pub ghost-start : goal.ghost-start
ghost-start g a = g.followed
