use Rattle.script_progress.specs.Steps.{followed_in}
use Rattle.relup_exec.proofs.remove.remove.Given as goal

abbrev pub ghost-is_in_use : goal.ghost-is_in_use
ghost-is_in_use g a = followed_in g.past
