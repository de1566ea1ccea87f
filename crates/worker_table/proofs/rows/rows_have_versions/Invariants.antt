use Rattle.std.proofs.Common.{◌≡◌, map, drop}
use Rattle.std.specs.List.{list_all}
use Rattle.worker_table.specs.Headed.{row_has_version}
use Rattle.worker_table.specs.InMemory.{keyed_row_of}
use Rattle.worker_table.proofs.rows.rows_have_versions.Given as goal

abbrev pub invariant-loop-row : goal.invariant-loop-row
invariant-loop-row g l = list_all row_has_version (map keyed_row_of (drop l.row-index l.rows)) ≡ list_all row_has_version (map keyed_row_of l.rows)
