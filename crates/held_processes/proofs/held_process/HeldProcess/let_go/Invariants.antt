use Rattle.held_processes.proofs.held_process.HeldProcess.let_go.Given as goal

abbrev pub ghost-let_go : goal.ghost-let_go
ghost-let_go g a = g.past.course.pending
