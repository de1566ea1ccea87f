use Rattle.script_progress.specs.Steps.{followed_in}
use Rattle.script_progress.proofs.child.restart_child.Given as goal

abbrev pub ghost-restart_child : goal.ghost-restart_child
ghost-restart_child g a = followed_in g.past
