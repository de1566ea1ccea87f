use Rattle.std.proofs.Common.{◌≡◌, length, map, take}
use Rattle.held_processes.specs.Course as course
use Rattle.held_processes.specs.Following.{AllFollow, AreLonger}
use Rattle.held_processes.specs.Operations.{modules_by_slot}
use Rattle.script_progress.specs.Script.{on_each, suspended_in}
use Rattle.relup_instruction.specs.Instruction.{suspension_of}
use Rattle.relup_exec.proofs.suspend.hold_all.Given as goal

-- the processes of the modules so far are held
abbrev pub invariant-loop-at : goal.invariant-loop-at
invariant-loop-at g l =
    (l.at-end ≡ length l.suspensions)
    × AreLonger l.initial.access l.access
    × AllFollow g.followed.first (on_each course.Operation.suspend (suspended_in (map suspension_of (take l.at l.suspensions))) (modules_by_slot l.tree) g.followed.courses) l.held l.access

abbrev pub ghost-hold_next : goal.ghost-hold_next
ghost-hold_next g a = record {
  first = g.followed.first;
  courses = on_each course.Operation.suspend (suspended_in (map suspension_of (take a.at a.suspensions.now))) (modules_by_slot a.tree.now) g.followed.courses;
}
