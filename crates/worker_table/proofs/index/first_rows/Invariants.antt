use Rattle.std.proofs.Common.{◌≡◌, ◌≤◌, length, take}
use Rattle.worker_table.specs.Keys.{Pair, number_at}
use Rattle.worker_table.proofs.index.first_rows.Given as goal

-- the first of each key among the rows so far
abbrev pub invariant-loop-pair : goal.invariant-loop-pair
invariant-loop-pair l = ((wanted : Pair) → number_at wanted l.first.entries ≡ number_at wanted (take l.pair-index l.rows)) × (length l.first.entries ≤ l.pair-index)
