use Rattle.std.proofs.Common.{◌≡◌, ◌+◌, ◌≤◌, length, map, vec_len, vec_capacity}
use Rattle.std.specs.List.{AllByRecursion}
use Rattle.std.specs.Vec.Iter.{into_iter_items}
use Rattle.proc_table.specs.Free.{free_count}
use Rattle.sup_tree.specs.Starts.{HasRoom}
use Rattle.sup_tree.specs.Tree.{app_of}
use Rattle.node_start.specs.Starting.{number_to_begin}
use Rattle.node_start.proofs.StartLemmas.{Completes}
use Rattle.node_start.proofs.start.begin_each.Given as goal

-- there are slots and room for those that are left, and they complete what began
abbrev pub invariant-loop-app : goal.invariant-loop-app
invariant-loop-app g l =
    let left = into_iter_items l.app-iterator in record {
      can_next : (goal.iterator-loop-app g).can_next l.app-iterator;
      is_finite : (goal.iterator-loop-app g).is_finite l.app-iterator;
      slots : number_to_begin left ≤ free_count l.access;
      ready : AllByRecursion HasRoom left;
      room : vec_len l.started + length left ≤ vec_capacity l.started;
      began : Completes l.fn.prepared.items l.initial.access (map app_of l.started.items) left l.access;
    }
