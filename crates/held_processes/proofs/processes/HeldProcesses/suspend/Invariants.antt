use Rattle.held_processes.proofs.processes.HeldProcesses.suspend.Given as goal

abbrev pub ghost-perform : goal.ghost-perform
ghost-perform g a = g.followed
