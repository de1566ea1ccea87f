use Rattle.std.proofs.Common.{◌≤◌, drop, map, vec_capacity}
use Rattle.proc_table.specs.Agrees.{slots}
use Rattle.sup_tree.specs.Spots.{StandAt}
use Rattle.sup_tree.specs.Tree.{all_processes, app_of}
use Rattle.sup_tree.proofs.spots.find_again.Given as goal

-- the processes of the applications from here on stand at their spots
abbrev pub invariant-loop-place : goal.invariant-loop-place
invariant-loop-place l = StandAt (map app_of l.apps) (all_processes (map app_of (drop l.place l.apps))) l.spots.items × (slots ≤ vec_capacity l.spots)
