use Rattle.held_processes.proofs.FollowLemmas.{past_of}
use Rattle.held_processes.proofs.processes.HeldProcesses.give_up_slot.Given as goal

abbrev pub ghost-give_up : goal.ghost-give_up
ghost-give_up g a = past_of g.followed.first g.followed.courses a.slot
