-- Rows by their keys.
use Rattle.std.specs.Prelude.{ℕ, List, Option}
use Rattle.std.specs.BTreeMap.{is_at}
use Rattle.std.specs.List.Sorted.{IsStrictlySortedBy}
use Rattle.std.specs.Map.{keys_of, lookup}
use Rattle.std.specs.Ordering.{nat_cmp, ordering_then}
use Rattle.std.specs.declared.cmp.Ordering.{Ordering}

-- a state and an input
abbrev pub Pair : Type 0
Pair = ℕ × ℕ

-- by the states, and where these are equal by the inputs
abbrev pub compare_pairs : Pair → Pair → Ordering
compare_pairs p q = ordering_then (nat_cmp p.0 q.0) (nat_cmp p.1 q.1)

-- the number of the first row that has this key; each row is its key and its number
abbrev pub number_at : Pair → List (Pair × ℕ) → Option ℕ
number_at wanted rows = lookup (is_at (compare_pairs wanted)) rows

-- each key stands once, in order
abbrev pub IsRising : List (Pair × ℕ) → Type 0
IsRising rows = IsStrictlySortedBy compare_pairs (keys_of rows)
