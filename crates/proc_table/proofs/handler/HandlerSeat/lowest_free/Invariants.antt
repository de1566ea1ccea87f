use Rattle.std.proofs.Common.{◌≡◌, ℕ, ◌<◌, slice_index_or, None}
use Rattle.proc_table.proofs.handler.HandlerSeat.lowest_free.Given as goal

-- a process can begin in none of the slots so far
abbrev pub invariant-loop-slot : goal.invariant-loop-slot
invariant-loop-slot l = (q : ℕ) → q < l.slot → slice_index_or l.self-inside.next q None ≡ None
