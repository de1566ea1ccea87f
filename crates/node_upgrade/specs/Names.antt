-- Names that stand once each.
use Rattle.std.specs.Prelude.{◌≡◌, ℕ, Bool, List, [], ◌∷◌, map}
use Rattle.std.specs.BTreeMap.{insert_entry}
use Rattle.std.specs.Cmp.Lexicographic.{slice_cmp}
use Rattle.std.specs.List.{list_any}
use Rattle.std.specs.List.Sorted.{IsStrictlySortedBy}
use Rattle.std.specs.Ordering.{nat_cmp}
use Rattle.std.specs.Str.{bytes_eq}

-- whether the name is one of these
abbrev pub is_among : List ℕ → List (List ℕ) → Bool
is_among name names = list_any (bytes_eq name) names

-- The names are those for which the test holds, each once, in the order of their bytes.
pub record AreNamesWith (test : List ℕ → Bool) (names : List (List ℕ)) : Type 0 where
  pub ordered : IsStrictlySortedBy (slice_cmp nat_cmp) names
  pub same : (name : List ℕ) → is_among name names ≡ test name

-- a name among names in the order of their bytes, where it stands once
abbrev pub with_name : List ℕ → List (List ℕ × Unit {0}) → List (List ℕ × Unit {0})
with_name name names = insert_entry (slice_cmp nat_cmp) names name tt

abbrev pub names_in_order : List (List ℕ) → List (List ℕ × Unit {0})
names_in_order [] = []
names_in_order (n ∷ ns) = with_name n (names_in_order ns)

-- names in the order of their bytes, each once
abbrev pub sorted_names : List (List ℕ) → List (List ℕ)
sorted_names names = map (λ (n : List ℕ × Unit {0}). n.0) (names_in_order names)
