use Rattle.std.proofs.Common.{◌≡◌, ℕ, ◌≤◌, length, slice_index_or, None, vec_capacity}
use Rattle.proc_table.specs.Agrees.{slots}
use Rattle.sup_tree.proofs.spots.put.Given as goal

-- the spots are longer by slots without a process
abbrev pub invariant-loop : goal.invariant-loop
invariant-loop l =
    ((p : ℕ) → slice_index_or l.spots.items p None ≡ slice_index_or l.initial.spots.items p None)
    × ((length l.spots.items ≡ l.counter) × ((length l.spots.items ≤ slots) × (slots ≤ vec_capacity l.spots)))
