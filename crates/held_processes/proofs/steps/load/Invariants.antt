use Rattle.held_processes.proofs.steps.load.Given as goal

abbrev pub ghost-take : goal.ghost-take
ghost-take g a = g.past

abbrev pub ghost-load_alone : goal.ghost-load_alone
ghost-load_alone g a = g.past
