use Rattle.script_progress.specs.Steps.{followed_in}
use Rattle.relup_exec.proofs.load.give_table.Given as goal

abbrev pub ghost-load : goal.ghost-load
ghost-load g a = followed_in g.past
