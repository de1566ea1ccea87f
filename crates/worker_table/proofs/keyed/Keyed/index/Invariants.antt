use Rattle.std.proofs.Common.{◌≡◌, ◌++◌, map, drop}
use Rattle.worker_table.specs.InMemory.{row_of}
use Rattle.worker_table.proofs.IndexLemmas.{keyed}
use Rattle.worker_table.proofs.keyed.Keyed.index.Given as goal

-- the rows so far that have a key, and after them those that are left
abbrev pub invariant-loop-number : goal.invariant-loop-number
invariant-loop-number g l = l.keyed.items ++ keyed l.self l.number (map row_of (drop l.number l.rows)) ≡ keyed l.self 0 (map row_of l.rows)
