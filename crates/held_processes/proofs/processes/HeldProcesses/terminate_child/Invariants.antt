use Rattle.held_processes.proofs.processes.HeldProcesses.terminate_child.Given as goal

abbrev pub ghost-give_up_all : goal.ghost-give_up_all
ghost-give_up_all g a = g.followed
