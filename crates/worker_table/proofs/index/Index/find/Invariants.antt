use Rattle.std.proofs.Common.{◌≡◌, ◌⊎◌, ◌<◌, ◌≤◌, ◌-◌, length, map}
use Rattle.worker_table.specs.Stored.{row_of}
use Rattle.worker_table.proofs.SearchLemmas.{IsHalved, IsNarrowed}
use Rattle.worker_table.proofs.index.Index.find.Given as goal

-- where the key can still stand, and what that has cost
abbrev pub invariant-loop-low : goal.invariant-loop-low
invariant-loop-low g l =
    IsNarrowed l.wanted (map row_of l.entries) l.low l.high
    × (l.fn.ticks ≤ l.ticks)
    × IsHalved (length (map row_of l.entries)) (l.high - l.low) (l.ticks - l.fn.ticks)
    × ((l.fn.ticks < l.ticks) ⊎ ((l.low ≡ 0) × (l.high ≡ length (map row_of l.entries))))

abbrev pub decreases-loop-low : goal.decreases-loop-low
decreases-loop-low g l = l.high - l.low
