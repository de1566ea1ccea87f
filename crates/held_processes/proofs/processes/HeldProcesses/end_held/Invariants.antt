use Rattle.held_processes.proofs.processes.HeldProcesses.end_held.Given as goal

abbrev pub ghost-give_up_slot : goal.ghost-give_up_slot
ghost-give_up_slot g a = g.followed
