-- What an index keeps, without where it lies in memory.
use Rattle.std.specs.Prelude.{ℕ}
use Rattle.worker_table.specs.declared.index.Entry.{Entry}
use Rattle.worker_table.specs.declared.key.Key.{Key}
use Rattle.worker_table.specs.Keys.{Pair}

abbrev pub pair_of : {B : Type 0} → Key B → Pair
pair_of k = (k.state, k.input)

abbrev pub row_of : {B : Type 0} → Entry B → Pair × ℕ
row_of e = (pair_of e.key, e.number)
