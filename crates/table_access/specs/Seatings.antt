-- A seating for a contract that is read with none chosen.
use Rattle.std.specs.Prelude.{replicate}
use Rattle.atomic_table.specs.Seated.{TableId}
use Rattle.proc_table.specs.Agrees.{slots}

-- some table of as many words and slots as the table of processes has
abbrev pub some_table : TableId
some_table = record { words = slots; slots = slots; views_name = 0; atom = 0; block = 0; offset = 0; slot_names = replicate slots 0 }
