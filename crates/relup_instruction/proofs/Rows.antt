-- Terms one after another, of each of which something is read.
use Rattle.std.proofs.Common.{◌≡◌, ℕ, ◌+◌, ◌<◌, ◌≤◌, ◌++◌, List, [], ◌∷◌, length, map, drop, get_or, Option, Some, None, refl}
use Rattle.std.specs.List.{AllByRecursion}
use Rattle.std.specs.Option.{option_map}
use Rattle.erl_term.specs.declared.term.Term.{Term}
use Rattle.erl_term.specs.Value.{Value, Values, value_of, values_of, members_of}
use Rattle.rel_files.proofs.Rows as each
use Rattle.relup_instruction.specs.Parts.{all_in}

reads_each : {B : Type 0} (f : Value → Option B) → each.ReadsEach f (all_in f)
reads_each f = record { none = refl; more = λ v vs. refl }

-- one step on
pub row_more : {A B : Type 0} (f : Value → Option B) (view : A → B) (items : List Term) (i : ℕ) (item : Term) (old new : List A) (x : A) (all : Option (List B))
    → i < length items → item ≡ get_or items i item → Some (view x) ≡ f (value_of item) → new ≡ old ++ x ∷ []
    → option_map (λ rest. map view old ++ rest) (all_in f (members_of (drop i items))) ≡ all
    → option_map (λ rest. map view new ++ rest) (all_in f (members_of (drop (i + 1) items))) ≡ all
row_more f view items i item old new x all within at read grown so_far =
    each.row_more f (all_in f) (reads_each f) items i item (map view old) (map view new) (view x) all within at read (each.viewed view old new x grown) so_far

-- an item gives nothing
pub row_none : {A B : Type 0} (f : Value → Option B) (view : A → B) (items : List Term) (i : ℕ) (item : Term) (old : List A) (all : Option (List B))
    → i < length items → item ≡ get_or items i item → None ≡ f (value_of item)
    → option_map (λ rest. map view old ++ rest) (all_in f (members_of (drop i items))) ≡ all → None ≡ all
row_none f view items i item old all within at none so_far = each.row_none f (all_in f) (reads_each f) items i item (map view old) all within at none so_far

-- no step is left
pub row_all : {A B : Type 0} (f : Value → Option B) (view : A → B) (items : List Term) (i : ℕ) (read : List A) → length items ≤ i
    → option_map (λ rest. map view read ++ rest) (all_in f (members_of (drop i items))) ≡ all_in f (members_of items)
    → Some (map view read) ≡ all_in f (members_of items)
row_all f view items i read past so_far = each.row_all f (all_in f) (reads_each f) items i (map view read) past so_far

-- what is read of the terms of a row is that row, and it is read of these only
pub all_in-terms : {A : Type 0} (f : Value → Option A) (g : A → Value) (P : A → Type 0) → ((a : A) → P a → f (g a) ≡ Some a)
    → (row : List A) → AllByRecursion P row → all_in f (values_of (map g row)) ≡ Some row
all_in-terms f g P reads row h = each.each_read f (all_in f) (reads_each f) g P reads row h

pub from_all : {A : Type 0} (f : Value → Option A) (g : A → Value) (P : A → Type 0) → ((v : Value) (a : A) → f v ≡ Some a → (v ≡ g a) × P a)
    → (vs : Values) (row : List A) → all_in f vs ≡ Some row → (vs ≡ values_of (map g row)) × AllByRecursion P row
from_all f g P reads vs row e = each.from_each f (all_in f) (reads_each f) g P reads vs row e
