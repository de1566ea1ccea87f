use Rattle.std.proofs.Common.{◌≡◌}
use Rattle.proc_table.specs.Agrees.{slots}
use Rattle.held_processes.specs.Following.{AllFollow, AreLonger}
use Rattle.held_processes.specs.InMemory.{operation_of}
use Rattle.held_processes.specs.Operations.{part_way, modules_by_slot}
use Rattle.held_processes.proofs.FollowLemmas.{past_of}
use Rattle.held_processes.proofs.processes.HeldProcesses.perform.Given as goal

abbrev pub ghost-perform : goal.ghost-perform
ghost-perform g a = past_of g.followed.first g.followed.courses a.pid.slot

abbrev pub invariant-loop-slot : goal.invariant-loop-slot
invariant-loop-slot g l =
    (l.slot-end ≡ slots)
    × AllFollow g.followed.first (part_way l.slot (modules_by_slot l.users.tree.now) l.users.module.now (operation_of l.step) g.followed.courses) l.self-inside.places.items l.access
    × AreLonger l.initial.access l.access
