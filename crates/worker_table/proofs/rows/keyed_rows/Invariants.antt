use Rattle.std.proofs.Common.{◌≡◌, ◌++◌, map}
use Rattle.worker_table.specs.InMemory.{keyed_row_of, row_of}
use Rattle.worker_table.proofs.rows.keyed_rows.Given as goal

-- the rows so far, and after them those that are left
abbrev pub invariant-loop-row : goal.invariant-loop-row
invariant-loop-row g l = map keyed_row_of l.keyed.items ++ map row_of l.row-iterator.rest.items ≡ map row_of l.fn.rows.items
