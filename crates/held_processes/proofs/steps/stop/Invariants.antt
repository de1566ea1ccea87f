use Rattle.std.proofs.Common.{[], ◌∷◌}
use Rattle.proc_history.specs.Events.{entry}
use Rattle.proc_history.specs.Events.Event.{stopped}
use Rattle.held_processes.proofs.steps.stop.Given as goal

abbrev pub ghost-let_go : goal.ghost-let_go
ghost-let_go g a = entry 0 stopped ∷ []
