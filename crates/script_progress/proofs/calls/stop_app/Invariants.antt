use Rattle.script_progress.specs.Steps.{followed_in}
use Rattle.script_progress.proofs.calls.stop_app.Given as goal

abbrev pub ghost-stop_app : goal.ghost-stop_app
ghost-stop_app g a = followed_in g.past
