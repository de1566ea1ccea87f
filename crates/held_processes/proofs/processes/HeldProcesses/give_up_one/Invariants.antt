use Rattle.held_processes.proofs.processes.HeldProcesses.give_up_one.Given as goal

abbrev pub ghost-give_up_slot : goal.ghost-give_up_slot
ghost-give_up_slot g a = g.followed
