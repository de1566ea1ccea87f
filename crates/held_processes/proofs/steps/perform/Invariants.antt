use Rattle.held_processes.proofs.steps.perform.Given as goal

abbrev pub ghost-suspend : goal.ghost-suspend
ghost-suspend g a = g.past

abbrev pub ghost-load : goal.ghost-load
ghost-load g a = g.past

abbrev pub ghost-stop : goal.ghost-stop
ghost-stop g a = g.past

abbrev pub ghost-start : goal.ghost-start
ghost-start g a = g.past
