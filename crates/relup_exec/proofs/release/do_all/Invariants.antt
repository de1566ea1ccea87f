use Rattle.std.proofs.Common.{◌≡◌, length, map, string_bytes, take}
use Rattle.held_processes.specs.Following.{AllFollow, AreLonger}
use Rattle.held_processes.specs.Operations.{modules_by_slot}
use Rattle.relup_exec.specs.Plain.{plain_operation}
use Rattle.script_progress.specs.Script.{on_each}
use Rattle.relup_exec.proofs.release.do_all.Given as goal

-- it was done to the processes of the modules so far
abbrev pub invariant-loop-at : goal.invariant-loop-at
invariant-loop-at g l =
    (l.at-end ≡ length l.names)
    × AreLonger l.initial.access l.access
    × AllFollow g.followed.first (on_each (plain_operation l.plain) (map string_bytes (take l.at l.names)) (modules_by_slot l.tree) g.followed.courses) l.held l.access

abbrev pub ghost-do_next : goal.ghost-do_next
ghost-do_next g a = record {
  first = g.followed.first;
  courses = on_each (plain_operation a.plain) (map string_bytes (take a.at a.names.now)) (modules_by_slot a.tree.now) g.followed.courses;
}
