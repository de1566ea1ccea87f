use Rattle.held_processes.proofs.processes.HeldProcesses.delete_child.Given as goal

abbrev pub ghost-end_held : goal.ghost-end_held
ghost-end_held g a = g.followed
