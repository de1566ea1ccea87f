use Rattle.std.proofs.Common.{◌≡◌, map, take}
use Rattle.worker_table.specs.InMemory.{keyed_row_of}
use Rattle.worker_table.proofs.rows.copied_rows.Given as goal

abbrev pub invariant-loop-row : goal.invariant-loop-row
invariant-loop-row g l = map keyed_row_of l.copied.items ≡ map keyed_row_of (take l.row-index l.rows)
