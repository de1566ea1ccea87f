use Rattle.std.proofs.Common.{◌≡◌, map, drop}
use Rattle.erl_term.specs.Value.{value_of}
use Rattle.worker_table.specs.Decide.{change_of}
use Rattle.worker_table.specs.InMemory.{old_of, keyed_row_of}
use Rattle.worker_table.proofs.rows.first_change.Given as goal

abbrev pub invariant-loop-row : goal.invariant-loop-row
invariant-loop-row g l =
    change_of (map keyed_row_of (drop l.row-index l.rows)) (old_of l.old) (value_of l.extra) l.state ≡ change_of (map keyed_row_of l.rows) (old_of l.old) (value_of l.extra) l.state
