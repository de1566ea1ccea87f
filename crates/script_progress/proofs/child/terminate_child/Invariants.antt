use Rattle.script_progress.specs.Steps.{followed_in}
use Rattle.script_progress.proofs.child.terminate_child.Given as goal

abbrev pub ghost-terminate_child : goal.ghost-terminate_child
ghost-terminate_child g a = followed_in g.past
