use Rattle.std.proofs.Common.{◌≡◌, ℕ, ◌<◌, false, true}
use Rattle.proc_table.specs.Agrees.{slots}
use Rattle.proc_table.specs.Waits.{HasTaken}
use Rattle.held_processes.specs.Following.{AllFollow, AreLonger}
use Rattle.held_processes.specs.Operations.{is_free_user, is_up_user, modules_by_slot, values_seen}
use Rattle.held_processes.proofs.FollowLemmas.{past_of}
use Rattle.held_processes.proofs.processes.HeldProcesses.any_up.Given as goal

abbrev pub ghost-is_up : goal.ghost-is_up
ghost-is_up g a = past_of g.followed.first g.followed.courses a.pid.slot

-- none of the slots so far has a process of the module that is up, and those that aren't held were taken
abbrev pub invariant-loop-slot : goal.invariant-loop-slot
invariant-loop-slot g l =
    (l.slot-end ≡ slots)
    × AllFollow g.followed.first g.followed.courses l.self l.access
    × ((p : ℕ) → p < l.slot → is_up_user (values_seen l.access) (modules_by_slot l.users.tree.now) l.users.module.now g.followed.courses p ≡ false)
    × AreLonger l.initial.access l.access
    × ((p : ℕ) → p < l.slot → is_free_user (modules_by_slot l.users.tree.now) l.users.module.now g.followed.courses p ≡ true → HasTaken p l.initial.access l.access)
