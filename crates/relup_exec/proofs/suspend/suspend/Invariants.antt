use Rattle.script_progress.specs.Steps.{followed_in}
use Rattle.relup_exec.proofs.suspend.suspend.Given as goal

abbrev pub ghost-hold_all : goal.ghost-hold_all
ghost-hold_all g a = followed_in g.past
