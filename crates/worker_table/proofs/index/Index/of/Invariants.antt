use Rattle.std.proofs.Common.{◌≡◌, ◌++◌, map}
use Rattle.worker_table.specs.Stored.{row_of}
use Rattle.worker_table.proofs.index.Index.of.Given as goal

-- the entries so far, and after them what is left of the map
abbrev pub invariant-loop-pair : goal.invariant-loop-pair
invariant-loop-pair g l = map row_of l.entries.items ++ l.pair-iterator ≡ l.initial.pair-iterator
