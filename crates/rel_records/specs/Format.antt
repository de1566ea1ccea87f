-- Which records a store of which format may have.
use Rattle.std.specs.Prelude.{ℕ, Bool, false, ◌==◌, ◌||◌, not}
use Rattle.std.specs.List.{list_any}
use Rattle.rel_list.specs.Status.{is_one_shot}
use Rattle.rel_records.specs.Record.{Assignment, Imaged, Record, assigns, images}

-- the record writes the status `one_shot`
abbrev pub writes_one_shot : Record → Bool
writes_one_shot (assigns given) = list_any (λ (a : Assignment). is_one_shot a.status) given
writes_one_shot (images xs ls) = list_any (λ (x : Imaged). is_one_shot x.status) xs
writes_one_shot r = false

-- A store of format 2 may write it in its records, but in no image: a list with a one-shot is not compacted.
abbrev pub may_write_it : ℕ → Record → Bool
may_write_it format (images xs ls) = false
may_write_it format r = format == 2

-- the record may stand in a store of this format
abbrev pub allows : ℕ → Record → Bool
allows format r = may_write_it format r || not (writes_one_shot r)
