use Rattle.proc_history.specs.Events.Event.{given_up}
use Rattle.held_processes.specs.Course.{add}
use Rattle.held_processes.proofs.steps.give_up.Given as goal

abbrev pub ghost-let_go : goal.ghost-let_go
ghost-let_go g a = record { lent = g.past.lent; first = g.past.first; course = add given_up g.past.course }
