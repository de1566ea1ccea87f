use Rattle.std.proofs.Common.{◌≤◌, ◌++◌, ◌+◌, drop, map, vec_capacity}
use Rattle.proc_table.specs.Agrees.{slots}
use Rattle.started_members.specs.Members.{processes_among}
use Rattle.sup_tree.specs.Spots.{StandAt}
use Rattle.sup_tree.specs.Tree.{all_processes, app_of}
use Rattle.sup_tree.proofs.spots.add_app.Given as goal

-- the processes of the members from here on, and of the applications after them, stand at their spots
abbrev pub invariant-loop-member : goal.invariant-loop-member
invariant-loop-member l =
    StandAt (map app_of l.apps) (processes_among (drop l.member l.members) ++ all_processes (map app_of (drop (l.place + 1) l.apps))) l.spots.items
    × (slots ≤ vec_capacity l.spots)
