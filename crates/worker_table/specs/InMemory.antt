-- What the parts of a worker's table stand for, without where they lie in memory.
use Rattle.std.specs.Prelude.{string_bytes}
use Rattle.erl_term.specs.Value.{value_of}
use Rattle.worker_table.specs.declared.old.Old.{Old}
use Rattle.worker_table.specs.declared.old.Old.TheVariants.{Up, Down}
use Rattle.worker_table.specs.declared.row.Row.{Row}
use Rattle.worker_table.specs.declared.row.Row.TheVariants.{On, Add, Stop, Change}
use Rattle.worker_table.specs.declared.keyed_row.KeyedRow.{KeyedRow}
use Rattle.worker_table.specs.declared.keyed_row.KeyedRow.TheVariants as keyed
use Rattle.worker_table.specs.Stored.{pair_of}
use Rattle.worker_table.specs.Table as table
use Rattle.worker_table.specs.Table.OldVersion.{up, down}
use Rattle.worker_table.specs.Table.Row.{on, add, stop, change}

abbrev pub old_of : Old → table.OldVersion
old_of (Up s) = up (string_bytes s)
old_of (Down s) = down (string_bytes s)

abbrev pub row_of : Row → table.Row
row_of (On s i n r) = on s i n r
row_of (Add i k) = add i k
row_of (Stop s i r) = stop s i r
row_of (Change old extra moves) = change (old_of old) (value_of extra) moves.items

-- a row as a table keeps it
abbrev pub keyed_row_of : {B : Type 0} → KeyedRow B → table.Row
keyed_row_of (keyed.On k n r) = on (pair_of k).0 (pair_of k).1 n r
keyed_row_of (keyed.Add k s) = add (pair_of k).1 s
keyed_row_of (keyed.Stop k r) = stop (pair_of k).0 (pair_of k).1 r
keyed_row_of (keyed.Change old extra moves) = change (old_of old) (value_of extra) moves.items
