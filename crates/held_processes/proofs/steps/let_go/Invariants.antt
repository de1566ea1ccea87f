use Rattle.held_processes.proofs.steps.let_go.Given as goal

abbrev pub ghost-let_go : goal.ghost-let_go
ghost-let_go g a = g.past
