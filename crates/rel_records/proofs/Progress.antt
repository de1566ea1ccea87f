-- The records that were read so far.
use Rattle.std.proofs.Common.{◌≡◌, ◌⊎◌, inl, inr, ℕ, ◌+◌, ◌<◌, ◌≤◌, true, List, [], ◌∷◌, ◌++◌, map, length, take, drop, get_or, Some, Vec, refl, sym, ap, ◌∙◌, subst, arith}
use Rattle.std.specs.declared.alloc.Global.{Global}
use Rattle.std.proofs.lemmas.List.{map_push, map-append, take_more, drop_more, take-append-drop, length-take-le, length-map, take_all}
use Rattle.rel_list.specs.Releases.{Releases}
use Rattle.rel_records.specs.Limits.{has_one_permanent}
use Rattle.rel_records.specs.Record.{Record}
use Rattle.rel_records.specs.Reading.{Spells}
use Rattle.rel_records.specs.Lists.{assigned_in, MakesFrom, Makes, CannotStand, IsBadRecord, none_at_all, bad_after}
use Rattle.rel_records.proofs.FormatLemmas.{allowed_so}
use Rattle.rel_records.proofs.ListLemmas.{makes-push}
use Rattle.rel_records.proofs.RecordPlaces.{one_behind}

abbrev pub bodies_in : List (Vec ℕ Global) → List (List ℕ)
bodies_in records = map (λ (v : Vec ℕ Global). v.items) records

-- the first i records make this list: it is empty where there was none
pub record HasRead (format : ℕ) (records : List (Vec ℕ Global)) (i : ℕ) (list : Releases) : Type 0 where
  pub made : MakesFrom format [] (bodies_in (take i records)) list
  pub one : ((i ≡ 0) × (list ≡ [])) ⊎ (has_one_permanent list ≡ true)

pub begun : (format : ℕ) (records : List (Vec ℕ Global)) (list : Releases) → list ≡ [] → HasRead format records 0 list
begun format records list empty = record { made = empty; one = inl (refl, empty) }

-- one record more
pub goes_on : (format : ℕ) (records : List (Vec ℕ Global)) (i : ℕ) (v : Vec ℕ Global) (body : List ℕ) (list next : Releases) → HasRead format records i list → i < length records → v ≡ get_or records i v → body ≡ v.items
    → (r : Record) × Spells body r × (assigned_in format r list ≡ Some next) → HasRead format records (i + 1) next
goes_on format records i v body list next read within at is (r, spelled, taken) = record {
  made = subst (λ bs. MakesFrom format [] bs next) (sym more) (makes-push format [] (bodies_in (take i records)) list body r next read.made spelled taken);
  one = inr (one_behind r list next (allowed_so format r list next taken).1);
}
  where
    more : bodies_in (take (i + 1) records) ≡ bodies_in (take i records) ++ body ∷ []
    more =
        ap bodies_in (take_more records i v within) ∙ ap (λ w. bodies_in (take i records ++ w ∷ [])) (sym at) ∙ map_push (λ (w : Vec ℕ Global). w.items) (take i records) v
        ∙ ap (λ b. bodies_in (take i records) ++ b ∷ []) (sym is)

-- a record that can't stand there is the first bad one
pub bad_one : (format : ℕ) (records : List (Vec ℕ Global)) (i : ℕ) (v : Vec ℕ Global) (body : List ℕ) (list : Releases) → HasRead format records i list → i < length records → v ≡ get_or records i v → body ≡ v.items
    → CannotStand format body list → IsBadRecord format (bodies_in records) (i + 1)
bad_one format records i v body list read within at is cannot =
    subst (λ n. IsBadRecord format (bodies_in records) (n + 1)) count
    (subst (λ bs. IsBadRecord format bs (length (bodies_in (take i records)) + 1)) (sym split) (bad_after (bodies_in (take i records)) body (bodies_in (drop (i + 1) records)) list read.made cannot))
  where
    split : bodies_in records ≡ bodies_in (take i records) ++ body ∷ bodies_in (drop (i + 1) records)
    split =
        ap bodies_in (sym (take-append-drop i records) ∙ ap (λ l. take i records ++ l) (drop_more records i v within ∙ ap (λ w. w ∷ drop (i + 1) records) (sym at)))
        ∙ map-append (λ (w : Vec ℕ Global). w.items) (take i records) (v ∷ drop (i + 1) records)
        ∙ ap (λ b. bodies_in (take i records) ++ b ∷ bodies_in (drop (i + 1) records)) (sym is)

    count : length (bodies_in (take i records)) ≡ i
    count = length-map (take i records) (λ (w : Vec ℕ Global). w.items) ∙ length-take-le i records (omega (arith, within))

all_of : (records : List (Vec ℕ Global)) (i : ℕ) → length records ≤ i → take i records ≡ records
all_of records i past = take_all i records past

-- all records were read: they make the list, unless that is empty
pub made_all : (format : ℕ) (records : List (Vec ℕ Global)) (i : ℕ) (list : Releases) → HasRead format records i list → length records ≤ i → (list ≡ [] → ⊥) → Makes format (bodies_in records) list
made_all format records i list read past some =
    (subst (λ l. MakesFrom format [] (bodies_in l) list) (all_of records i past) read.made, elim read.one [ inl both ↦ absurd (some both.1) | inr one ↦ one ])

-- and where it is empty there was none
pub none_read : (format : ℕ) (records : List (Vec ℕ Global)) (i : ℕ) (list : Releases) → HasRead format records i list → length records ≤ i → list ≡ [] → IsBadRecord format (bodies_in records) 1
none_read format records i list read past empty = elim read.one [ inl both ↦ none both.0 | inr one ↦ absurd (never one) ]
  where
    none : i ≡ 0 → IsBadRecord format (bodies_in records) 1
    none zero_read = subst (λ l. IsBadRecord format (bodies_in l) 1) (ap (λ n. take n records) (sym zero_read) ∙ all_of records i past) none_at_all

    never : has_one_permanent list ≡ true → ⊥
    never one = cc (one, ap has_one_permanent empty)
