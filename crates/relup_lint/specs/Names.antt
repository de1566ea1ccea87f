-- What stands under a name in rows.
use Rattle.std.specs.Prelude.{◌≡◌, ℕ, List, Option, map}
use Rattle.std.specs.BTreeMap.{BTreeMap, get_by}
use Rattle.std.specs.Borrow.{Bor}
use Rattle.std.specs.Cmp.Lexicographic.{slice_cmp}
use Rattle.std.specs.Map.{lookup}
use Rattle.std.specs.Option.{option_map}
use Rattle.std.specs.Ordering.{nat_cmp}
use Rattle.std.specs.Str.{bytes_eq}

-- the first row under a name
abbrev pub first_under : {V : Type 0} → List ℕ → List (Bor (List ℕ) × V) → Option V
first_under name rows = lookup (λ (k : Bor (List ℕ)). bytes_eq name k.now) rows

-- what a map finds under a name
abbrev pub found_under : {V : Type 0} → List ℕ → BTreeMap (Bor (List ℕ)) V → Option V
found_under name m = get_by (λ (k : Bor (List ℕ)). slice_cmp nat_cmp name k.now) m

-- the texts that references are to
abbrev pub texts : List (Bor (List ℕ)) → List (List ℕ)
texts ns = map (λ (n : Bor (List ℕ)). n.now) ns

-- rows of names, with the texts that references are to
abbrev pub row_texts : {V : Type 0} → List (Bor (List ℕ) × V) → List (List ℕ × V)
row_texts {V} rows = map (λ (r : Bor (List ℕ) × V). (r.0.now, r.1)) rows

abbrev pub version_texts : List (Bor (List ℕ) × Bor (List ℕ)) → List (List ℕ × List ℕ)
version_texts rows = map (λ (r : Bor (List ℕ) × Bor (List ℕ)). (r.0.now, r.1.now)) rows

-- The first of each name among rows is found.
abbrev pub FindsFirst : BTreeMap (Bor (List ℕ)) ℕ → List (List ℕ × ℕ) → Type 0
FindsFirst m rows = (name : List ℕ) → found_under name m ≡ lookup (bytes_eq name) rows

abbrev pub FindsFirstVersion : BTreeMap (Bor (List ℕ)) (Bor (List ℕ)) → List (List ℕ × List ℕ) → Type 0
FindsFirstVersion m rows = (name : List ℕ) → option_map (λ (v : Bor (List ℕ)). v.now) (found_under name m) ≡ lookup (bytes_eq name) rows
