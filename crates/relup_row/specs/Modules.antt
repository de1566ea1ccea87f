-- The set by which a module is found among those of its application.
use Rattle.std.specs.Prelude.{◌≡◌, ℕ, List, String}
use Rattle.std.specs.BTreeSet.{BTreeSet, contains_text}
use Rattle.relup_block.specs.Order.{is_among}

-- a set of these names
abbrev pub IsSetOf : {Y : Type 0} → BTreeSet (String Y) → List (List ℕ) → Type 0
IsSetOf set names = (name : List ℕ) → contains_text set name ≡ is_among name names
