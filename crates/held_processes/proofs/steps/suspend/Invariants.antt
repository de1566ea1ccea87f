use Rattle.held_processes.proofs.steps.suspend.Given as goal

abbrev pub ghost-take : goal.ghost-take
ghost-take g a = g.past
