use Rattle.script_progress.specs.Steps.{followed_in}
use Rattle.script_progress.proofs.calls.start_from.Given as goal

abbrev pub ghost-start_app : goal.ghost-start_app
ghost-start_app g a = followed_in g.past
