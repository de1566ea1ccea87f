-- Which row of a table comes first at a call, and by which keys it is found.
use Rattle.std.specs.Prelude.{◌≡◌, ◌≤◌, ◌==◌, ℕ, ◌+◌, Bool, false, ◌&&◌, if◌then◌else◌, List, length, min, Option, Some, None}
use Rattle.std.specs.List.{list_any, position_from}
use Rattle.std.specs.Option.{is_some}
use Rattle.worker_table.specs.Keys.{Pair, number_at}
use Rattle.worker_table.specs.declared.keyed.Keyed.{Keyed}
use Rattle.worker_table.specs.declared.keyed.Keyed.TheVariants.{ByState, ByInput}
use Rattle.worker_table.specs.Table.{Row}
use Rattle.worker_table.specs.Table.Row.{on, add, stop}

-- The key of a row in an index: a state and an input, or an input alone. Rows of the other kind have none there.
abbrev pub key_of : Keyed → Row → Option Pair
key_of ByState (on s i n r) = Some (s, i)
key_of ByState (stop s i r) = Some (s, i)
key_of ByInput (add i k) = Some (0, i)
key_of by row = None

abbrev pub is_key : Pair → Option Pair → Bool
is_key wanted None = false
is_key wanted (Some k) = (k.0 == wanted.0) && (k.1 == wanted.1)

-- the number of the first row with this key
abbrev pub first_with : Keyed → Pair → List Row → Option ℕ
first_with by wanted rows = position_from (λ r. is_key wanted (key_of by r)) 0 rows

-- the index finds under each key the first row that has it
pub record IsIndexOf (by : Keyed) (rows : List Row) (index : List (Pair × ℕ)) : Type 0 where
  pub finds : (wanted : Pair) → number_at wanted index ≡ first_with by wanted rows
  pub size : length index ≤ length rows

-- the lower of two numbers, where they are there
abbrev pub lower : Option ℕ → Option ℕ → Option ℕ
lower (Some a) (Some b) = Some (min a b)
lower (Some a) None = Some a
lower None o = o

-- whether some row has a key of this kind
abbrev pub has_keys : Keyed → List Row → Bool
has_keys by rows = list_any (λ r. is_some (key_of by r)) rows

-- How many comparisons a call makes at least: one in each index that has a key.
abbrev pub fewest_comparisons : List Row → ℕ
fewest_comparisons rows = (if has_keys ByState rows then 1 else 0) + (if has_keys ByInput rows then 1 else 0)
