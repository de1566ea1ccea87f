use Rattle.std.proofs.Common.{◌≡◌, ◌+◌, ◌≤◌, length, vec_len, vec_capacity}
use Rattle.std.specs.Vec.Iter.{into_iter_items}
use Rattle.proc_table.specs.Free.{free_count}
use Rattle.started_members.specs.Preparations.{to_begin}
use Rattle.started_members.proofs.BeginLemmas.{Completes}
use Rattle.started_members.proofs.begins.begin_all.Given as goal

abbrev pub invariant-loop-preparation : goal.invariant-loop-preparation
invariant-loop-preparation g l =
    let left = into_iter_items l.preparation-iterator in
    (goal.iterator-loop-preparation g).can_next l.preparation-iterator
    × (goal.iterator-loop-preparation g).is_finite l.preparation-iterator
    × (length (to_begin left) ≤ free_count l.access)
    × (vec_len l.members + length left ≤ vec_capacity l.members)
    × Completes l.fn.prepared.items l.initial.access l.members.items left l.access
