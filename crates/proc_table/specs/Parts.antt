-- What a seat knows of one slot.
use Rattle.std.specs.Prelude.{ℕ, Bool, false, List, [], length, nat_lt, slice_index_or, if◌then◌else◌, ◌∷◌}
use Rattle.proc_history.specs.Events.{HistoryEntry}

-- What a seat knows of one slot. seen: a beginning of its history. mine: its own entries in it.
-- out: the seat has the slot's value. laid: the value was taken out of the slot, and an empty one stands in its place.
pub record Part : Type 0 where
  pub seen : List HistoryEntry
  pub mine : List HistoryEntry
  pub out : Bool
  pub laid : Bool

abbrev pub part : List HistoryEntry → List HistoryEntry → Bool → Bool → Part
part seen mine out laid = record { seen = seen; mine = mine; out = out; laid = laid }

-- A pass that was joined. number: its own. lent: the passes that the first seat had lent. before: what the first knew of each
-- slot. parts: what this one knew.
pub record Guest : Type 0 where
  pub number : ℕ
  pub lent : List ℕ
  pub before : List Part
  pub parts : List Part

abbrev pub unseen : Part
unseen = part [] [] false false

abbrev pub part_of : List Part → ℕ → Part
part_of ps p = slice_index_or ps p unseen

-- a seat that was split off has seen as much, and has done nothing
abbrev pub only_seen : Part → Part
only_seen x = part x.seen [] false false

abbrev pub longer : List HistoryEntry → List HistoryEntry → List HistoryEntry
longer xs ys = if nat_lt (length xs) (length ys) then ys else xs

-- the first, with the longer beginning that either has seen
abbrev pub joined_part : Part → Part → Part
joined_part x y = part (longer x.seen y.seen) x.mine x.out x.laid

-- the same slot by slot
abbrev pub joined_parts : List Part → List Part → List Part
joined_parts [] ys = []
joined_parts xs [] = xs
joined_parts (x ∷ xs) (y ∷ ys) = joined_part x y ∷ joined_parts xs ys
