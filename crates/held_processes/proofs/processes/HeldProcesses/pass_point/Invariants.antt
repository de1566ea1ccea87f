use Rattle.held_processes.proofs.processes.HeldProcesses.pass_point.Given as goal

abbrev pub ghost-release : goal.ghost-release
ghost-release g a = g.followed
