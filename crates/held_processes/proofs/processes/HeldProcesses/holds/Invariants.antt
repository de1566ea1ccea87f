use Rattle.std.proofs.Common.{◌≡◌, ℕ, ◌<◌, true, None, is_some, slice_index_or}
use Rattle.held_processes.specs.Course.{runs}
use Rattle.held_processes.specs.Operations.{modules_by_slot}
use Rattle.held_processes.proofs.processes.HeldProcesses.holds.Given as goal

abbrev pub invariant-loop-slot : goal.invariant-loop-slot
invariant-loop-slot l =
    (k : ℕ) → k < l.slot → is_some (slice_index_or l.self k None) ≡ true → runs l.users.module.now (modules_by_slot l.users.tree.now k) ≡ true → ⊥
