use Rattle.std.proofs.Common.{◌≡◌}
use Rattle.proc_table.specs.Agrees.{slots}
use Rattle.held_processes.specs.Following.{AllFollow, AreLonger}
use Rattle.held_processes.specs.InMemory.{behind_release}
use Rattle.held_processes.specs.Operations.{up_to}
use Rattle.held_processes.proofs.FollowLemmas.{past_of}
use Rattle.held_processes.proofs.processes.HeldProcesses.release.Given as goal

abbrev pub ghost-let_go : goal.ghost-let_go
ghost-let_go g a = past_of g.followed.first g.followed.courses a.slot

abbrev pub invariant-loop-slot : goal.invariant-loop-slot
invariant-loop-slot g l =
    (l.slot-end ≡ slots)
    × AllFollow g.followed.first (up_to l.slot (behind_release l.which g.followed.courses) g.followed.courses) l.self-inside.places.items l.access
    × AreLonger l.initial.access l.access
