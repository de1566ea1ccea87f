use Rattle.std.proofs.Common.{[], ◌∷◌}
use Rattle.proc_history.specs.Events.{entry}
use Rattle.proc_history.specs.Events.Event.{started}
use Rattle.held_processes.proofs.steps.start.Given as goal

abbrev pub ghost-let_go : goal.ghost-let_go
ghost-let_go g a = entry 0 started ∷ []
