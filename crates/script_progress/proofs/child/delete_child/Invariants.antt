use Rattle.script_progress.specs.Steps.{followed_in}
use Rattle.script_progress.proofs.child.delete_child.Given as goal

abbrev pub ghost-delete_child : goal.ghost-delete_child
ghost-delete_child g a = followed_in g.past
