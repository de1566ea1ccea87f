use Rattle.script_progress.specs.Steps.{followed_in}
use Rattle.relup_exec.proofs.release.do_plain.Given as goal

abbrev pub ghost-do_all : goal.ghost-do_all
ghost-do_all g a = followed_in g.past
