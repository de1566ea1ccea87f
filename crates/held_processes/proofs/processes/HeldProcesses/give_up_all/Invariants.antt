use Rattle.std.proofs.Common.{◌≡◌, length, take}
use Rattle.started_members.specs.Members.{pids_of, processes_among}
use Rattle.held_processes.specs.Applications.{held_ended}
use Rattle.held_processes.specs.Following.{AllFollow, AreLonger}
use Rattle.held_processes.proofs.processes.HeldProcesses.give_up_all.Given as goal

abbrev pub ghost-give_up_one : goal.ghost-give_up_one
ghost-give_up_one g a = record { first = g.followed.first; courses = held_ended (pids_of (processes_among (take a.place a.members.now))) g.followed.courses }

abbrev pub invariant-loop-place : goal.invariant-loop-place
invariant-loop-place g l =
    (l.place-end ≡ length l.members)
    × AllFollow g.followed.first (held_ended (pids_of (processes_among (take l.place l.members))) g.followed.courses) l.self l.access
    × AreLonger l.initial.access l.access
