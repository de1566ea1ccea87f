-- Which row of a table comes first at a call, by what its indexes find.
use Rattle.std.proofs.Common.{◌≡◌, ◌<◌, ◌≤◌, ◌==◌, ◌+◌, ℕ, suc, Bool, true, false, cond, ◌&&◌, if◌then◌else◌, List, [], ◌∷◌, ◌++◌, map, drop, length, get_or, add-one, append_assoc, Option, Some, None, Result, Ok, Err, IfOk, option_map, unwrap_or, arith, refl, sym, ap, ◌∙◌}
use Rattle.std.proofs.Math.Seq.{drop-cons}
use Rattle.std.proofs.lemmas.List.{get_or-map, length-map}
use Rattle.std.specs.List.{find, position_from}
use Rattle.std.specs.Option.{is_some}
use Rattle.std.proofs.lemmas.Bool.Decides.{nat_tests}
use Rattle.worker_table.specs.Keys.{Pair, number_at}
use Rattle.worker_table.proofs.SearchLemmas.{same_pair}
use Rattle.worker_table.specs.declared.keyed.Keyed.{Keyed}
use Rattle.worker_table.specs.declared.keyed.Keyed.TheVariants.{ByState, ByInput}
use Rattle.worker_table.specs.declared.row.Row as row
use Rattle.worker_table.specs.InMemory.{row_of}
use Rattle.worker_table.specs.declared.step.Step.TheVariants.{Crashes}
use Rattle.worker_table.specs.Table.{Row}
use Rattle.worker_table.specs.Table.Row.{on, add, stop, change}
use Rattle.worker_table.specs.Decide.{fits_call, call_of, step_of}
use Rattle.worker_table.specs.Indexed.{IsIndexOf, first_with, has_keys, is_key, key_of, lower}

-- ---- the rows that an index has
abbrev with_key : Option Pair → ℕ → List (Pair × ℕ) → List (Pair × ℕ)
with_key None n more = more
with_key (Some k) n more = (k, n) ∷ more

-- those of these rows, the first of which has this number
abbrev pub keyed : Keyed → ℕ → List Row → List (Pair × ℕ)
keyed by n [] = []
keyed by n (r ∷ rs) = with_key (key_of by r) n (keyed by (n + 1) rs)

pub keyed_finds : (by : Keyed) (wanted : Pair) (n : ℕ) (rows : List Row) → number_at wanted (keyed by n rows) ≡ position_from (λ r. is_key wanted (key_of by r)) n rows
keyed_finds by wanted n [] = refl
keyed_finds by wanted n (r ∷ rs) = go (key_of by r) (keyed_finds by wanted (n + 1) rs)
  where
    later : Option ℕ
    later = position_from (λ x. is_key wanted (key_of by x)) (n + 1) rs

    go : (k : Option Pair) → number_at wanted (keyed by (n + 1) rs) ≡ later → number_at wanted (with_key k n (keyed by (n + 1) rs)) ≡ cond (is_key wanted k) (Some n) later
    go None rest = rest
    go (Some k) rest = ap (λ b. cond b (Some n) (number_at wanted (keyed by (n + 1) rs))) (same_pair wanted k) ∙ ap (cond (is_key wanted (Some k)) (Some n)) rest

pub keyed_size : (by : Keyed) (n : ℕ) (rows : List Row) → length (keyed by n rows) ≤ length rows
keyed_size by n [] = omega arith
keyed_size by n (r ∷ rs) = go (key_of by r) (keyed_size by (n + 1) rs)
  where
    go : (k : Option Pair) → length (keyed by (n + 1) rs) ≤ length rs → length (with_key k n (keyed by (n + 1) rs)) ≤ suc (length rs)
    go None rest = omega arith
    go (Some k) rest = omega arith

-- a row that comes next among those of a table
keyed_next : (by : Keyed) (rows : List row.Row) (i : ℕ) (r : row.Row) → i < length rows → r ≡ get_or rows i r
    → keyed by i (map row_of (drop i rows)) ≡ with_key (key_of by (row_of r)) i (keyed by (i + 1) (map row_of (drop (i + 1) rows)))
keyed_next by rows i r within is =
    ap (λ rs. keyed by i (map row_of rs)) (drop-cons rows i r within ∙ ap (λ (x : row.Row). x ∷ drop (suc i) rows) (sym is))
    ∙ ap (λ (j : ℕ). with_key (key_of by (row_of r)) i (keyed by (i + 1) (map row_of (drop j rows)))) (sym (add-one i))

module _ (by : Keyed) (rows : List row.Row) (i : ℕ) (r : row.Row) (within : i < length rows) (is : r ≡ get_or rows i r) (found : List (Pair × ℕ))
    (before : found ++ keyed by i (map row_of (drop i rows)) ≡ keyed by 0 (map row_of rows)) where
  -- it has this key
  pub next_found : (k : Pair) → Some k ≡ key_of by (row_of r) → (found ++ (k, i) ∷ []) ++ keyed by (i + 1) (map row_of (drop (i + 1) rows)) ≡ keyed by 0 (map row_of rows)
  next_found k key =
      append_assoc found ((k, i) ∷ []) (keyed by (i + 1) (map row_of (drop (i + 1) rows)))
      ∙ (ap (λ o. found ++ with_key o i (keyed by (i + 1) (map row_of (drop (i + 1) rows)))) key
      ∙ (ap (λ l. found ++ l) (sym (keyed_next by rows i r within is)) ∙ before))

  -- or none
  pub next_passed : None ≡ key_of by (row_of r) → found ++ keyed by (i + 1) (map row_of (drop (i + 1) rows)) ≡ keyed by 0 (map row_of rows)
  next_passed none =
      ap (λ o. found ++ with_key o i (keyed by (i + 1) (map row_of (drop (i + 1) rows)))) none
      ∙ (ap (λ l. found ++ l) (sym (keyed_next by rows i r within is)) ∙ before)

-- what an index of them finds
pub index_is : {E : Type 0} (by : Keyed) (rows : List Row) (found : List (Pair × ℕ)) (result : Result (List (Pair × ℕ)) E) → found ≡ keyed by 0 rows
    → IfOk result (λ index. (wanted : Pair) → number_at wanted index ≡ number_at wanted found) → IfOk result (λ index. length index ≤ length found) → IfOk result (IsIndexOf by rows)
index_is by rows found (Ok index) are finds size = record {
  finds = λ wanted. finds wanted ∙ (ap (number_at wanted) are ∙ keyed_finds by wanted 0 rows);
  size = let all = keyed_size by 0 rows in let same = ap length are in omega arith;
}
index_is by rows found (Err e) are finds size = tt

-- ---- the first row that passes one test or another
abbrev or : Bool → Bool → Bool
or true b = true
or false b = b

position_least : (test : Row → Bool) (n m : ℕ) (rows : List Row) → position_from test n rows ≡ Some m → n ≤ m
position_least test n m [] is = absurd cc
position_least test n m (r ∷ rs) is = go (test r) is (position_least test (n + 1) m rs)
  where
    go : (b : Bool) → cond b (Some n) (position_from test (n + 1) rs) ≡ Some m → (position_from test (n + 1) rs ≡ Some m → n + 1 ≤ m) → n ≤ m
    go true here later = let same : n ≡ m = cc in omega arith
    go false here later = let more = later here in omega arith

lower_first : (n : ℕ) (o : Option ℕ) → ((m : ℕ) → o ≡ Some m → n ≤ m) → Some n ≡ lower (Some n) o
lower_first n None least = refl
lower_first n (Some m) least = ap Some (let le = least m refl in grind (arith))

lower_second : (n : ℕ) (o : Option ℕ) → ((m : ℕ) → o ≡ Some m → n ≤ m) → Some n ≡ lower o (Some n)
lower_second n None least = refl
lower_second n (Some m) least = ap Some (let le = least m refl in grind (arith))

first_of_both : (p q : Row → Bool) (n : ℕ) (rows : List Row) → position_from (λ r. or (p r) (q r)) n rows ≡ lower (position_from p n rows) (position_from q n rows)
first_of_both p q n [] = refl
first_of_both p q n (r ∷ rs) = go (p r) (q r) (first_of_both p q (n + 1) rs)
  where
    ps : Option ℕ
    ps = position_from p (n + 1) rs

    qs : Option ℕ
    qs = position_from q (n + 1) rs

    behind : (test : Row → Bool) (m : ℕ) → position_from test (n + 1) rs ≡ Some m → n ≤ m
    behind test m is = let more = position_least test (n + 1) m rs is in omega arith

    go : (b c : Bool) → position_from (λ x. or (p x) (q x)) (n + 1) rs ≡ lower ps qs
        → cond (or b c) (Some n) (position_from (λ x. or (p x) (q x)) (n + 1) rs) ≡ lower (cond b (Some n) ps) (cond c (Some n) qs)
    go true true rest = lower_first n (Some n) (λ m is. let same : n ≡ m = cc in omega arith)
    go true false rest = lower_first n qs (behind q)
    go false true rest = lower_second n ps (behind p)
    go false false rest = rest

-- ---- the row that a number names
first_found : (test : Row → Bool) (n m : ℕ) (rows : List Row) (d : Row) → position_from test n rows ≡ Some m
    → (j : ℕ) × (m ≡ n + j) × (j < length rows) × (find test rows ≡ Some (get_or rows j d))
first_found test n m [] d is = absurd cc
first_found test n m (r ∷ rs) d is = go (test r) is (first_found test (n + 1) m rs d)
  where
    go : (b : Bool) → cond b (Some n) (position_from test (n + 1) rs) ≡ Some m
        → (position_from test (n + 1) rs ≡ Some m → (j : ℕ) × (m ≡ n + 1 + j) × (j < length rs) × (find test rs ≡ Some (get_or rs j d)))
        → (j : ℕ) × (m ≡ n + j) × (j < suc (length rs)) × (cond b (Some r) (find test rs) ≡ Some (get_or (r ∷ rs) j d))
    go true here later = (0, let same : n ≡ m = cc in omega arith, omega arith, refl)
    go false here later = let x = later here in (suc x.0, let is' = x.1 in omega arith, let lt = x.2 in omega arith, x.3)

none_found : (test : Row → Bool) (n : ℕ) (rows : List Row) → position_from test n rows ≡ None → find test rows ≡ None
none_found test n [] is = refl
none_found test n (r ∷ rs) is = go (test r) is (none_found test (n + 1) rs)
  where
    go : (b : Bool) → cond b (Some n) (position_from test (n + 1) rs) ≡ None → (position_from test (n + 1) rs ≡ None → find test rs ≡ None) → cond b (Some r) (find test rs) ≡ None
    go true here later = absurd cc
    go false here later = later here

-- ---- a call
fits_by_keys : (state input : ℕ) (r : Row) → fits_call state input r ≡ or (is_key (state, input) (key_of ByState r)) (is_key (0, input) (key_of ByInput r))
fits_by_keys state input (on s i n r) = go ((s == state) && (i == input))
  where
    go : (b : Bool) → b ≡ or b false
    go true = refl
    go false = refl
fits_by_keys state input (add i k) = refl
fits_by_keys state input (stop s i r) = go ((s == state) && (i == input))
  where
    go : (b : Bool) → b ≡ or b false
    go true = refl
    go false = refl
fits_by_keys state input (change o e ps) = refl

first_fitting : (rows : List Row) (state input n : ℕ) → position_from (fits_call state input) n rows ≡ position_from (λ r. or (is_key (state, input) (key_of ByState r)) (is_key (0, input) (key_of ByInput r))) n rows
first_fitting rows state input n = ap (λ (test : Row → Bool). position_from test n rows) (λ j r. fits_by_keys state input r j)

-- the lower of the two numbers is that of the first row that fits
first_is : (rows : List Row) (state input : ℕ) → position_from (fits_call state input) 0 rows ≡ lower (first_with ByState (state, input) rows) (first_with ByInput (0, input) rows)
first_is rows state input = first_fitting rows state input 0 ∙ first_of_both (λ r. is_key (state, input) (key_of ByState r)) (λ r. is_key (0, input) (key_of ByInput r)) 0 rows

-- what the indexes of a table find together
abbrev pub both_find : List Row → ℕ → ℕ → Option ℕ
both_find rows state input = lower (first_with ByState (state, input) rows) (first_with ByInput (0, input) rows)

pub both_are : (rows : List Row) (state input : ℕ) (by_state by_input : List (Pair × ℕ)) → IsIndexOf ByState rows by_state → IsIndexOf ByInput rows by_input
    → lower (number_at (state, input) by_state) (number_at (0, input) by_input) ≡ both_find rows state input
both_are rows state input by_state by_input one other =
    ap (λ o. lower o (number_at (0, input) by_input)) (one.finds (state, input)) ∙ ap (lower (first_with ByState (state, input) rows)) (other.finds (0, input))

-- the first row that fits, or none
module _ {R : Type 0} (row_of : R → Row) (rows : List R) (state input : ℕ) where
  number_found : (number : ℕ) (r : Row) → Some number ≡ both_find (map row_of rows) state input
      → (number < length rows) × (find (fits_call state input) (map row_of rows) ≡ Some (get_or (map row_of rows) number r))
  number_found number r is =
      let x = first_found (fits_call state input) 0 number (map row_of rows) r (first_is (map row_of rows) state input ∙ sym is) in
      let same : x.0 ≡ number = (let e = x.1 in omega arith) in
      let within : number < length rows = (let lt = x.2 in omega (arith, length-map rows row_of)) in
      (within, x.3 ∙ ap (λ j. Some (get_or (map row_of rows) j r)) same)

  pub number_within : (number : ℕ) → Some number ≡ both_find (map row_of rows) state input → number < length rows
  number_within number is = (number_found number (on 0 0 0 0) is).0

  pub made_by : (number : ℕ) (r : R) → Some number ≡ both_find (map row_of rows) state input → r ≡ get_or rows number r → call_of state (row_of r) ≡ step_of (map row_of rows) state input
  made_by number r is there =
      let found = number_found number (row_of r) is in
      ap (λ (q : R). call_of state (row_of q)) there
      ∙ (ap (call_of state) (sym (get_or-map row_of rows number r (row_of r) found.0))
      ∙ sym (ap (λ (o : Option Row). unwrap_or (option_map (call_of state) o) Crashes) found.1))

  pub made_by_none : None ≡ both_find (map row_of rows) state input → Crashes ≡ step_of (map row_of rows) state input
  made_by_none is =
      sym (ap (λ (o : Option Row). unwrap_or (option_map (call_of state) o) Crashes) (none_found (fits_call state input) 0 (map row_of rows) (first_is (map row_of rows) state input ∙ sym is)))

-- ---- how few comparisons a call makes
some_found : (by : Keyed) (n : ℕ) (rows : List Row) → has_keys by rows ≡ true → (wanted : Pair) × (m : ℕ) × (position_from (λ r. is_key wanted (key_of by r)) n rows ≡ Some m)
some_found by n [] has = absurd cc
some_found by n (r ∷ rs) has = go (key_of by r) has (some_found by (n + 1) rs)
  where
    itself : (k : Pair) → is_key k (Some k) ≡ true
    itself k = grind (arith, nat_tests)

    go : (o : Option Pair) → or (is_some o) (has_keys by rs) ≡ true
        → (has_keys by rs ≡ true → (wanted : Pair) × (m : ℕ) × (position_from (λ x. is_key wanted (key_of by x)) (n + 1) rs ≡ Some m))
        → (wanted : Pair) × (m : ℕ) × (cond (is_key wanted o) (Some n) (position_from (λ x. is_key wanted (key_of by x)) (n + 1) rs) ≡ Some m)
    go None is later = let x = later is in (x.0, x.1, x.2)
    go (Some k) is later = (k, n, ap (λ b. cond b (Some n) (position_from (λ x. is_key k (key_of by x)) (n + 1) rs)) (itself k))

has_entries : (wanted : Pair) (n : ℕ) (index : List (Pair × ℕ)) → number_at wanted index ≡ Some n → 0 < length index
has_entries wanted n [] is = absurd cc
has_entries wanted n (e ∷ index) is = omega arith

-- one search more
pub compares_some : (by : Keyed) (rows : List Row) (index : List (Pair × ℕ)) (before now : ℕ) → IsIndexOf by rows index → (0 < length index → before < now) → before ≤ now
    → before + (if has_keys by rows then 1 else 0) ≤ now
compares_some by rows index before now is least le = go (has_keys by rows) refl
  where
    go : (b : Bool) → has_keys by rows ≡ b → before + (if b then 1 else 0) ≤ now
    go true has =
        let x = some_found by 0 rows has in
        let more = least (has_entries x.0 x.1 index (is.finds x.0 ∙ x.2)) in
        omega arith
    go false has = omega arith
