-- What stands in the slots, one after another.
use Rattle.std.proofs.Common.{◌≡◌, ◌≢◌, ℕ, ◌+◌, ◌<◌, ◌≤◌, Bool, true, false, cond, List, [], ◌∷◌, ◌++◌, length, map, get_or, is_some, if◌then◌else◌, ap, sym, ◌∙◌, arith, length-append}
use Rattle.std.specs.Prelude.{slice_set}
use Rattle.std.specs.List.{filter, flat_map, range_with_len}
use Rattle.std.proofs.lemmas.Grind.{get_or-set_at}
use Rattle.std.proofs.lemmas.List.{flat_map_more, ext_get_or, get_or-set_other, length-set}
use native.Mathlib.Decide.{ℕ_discrete}
use mathlib.Core.Logic.{dite}
use Rattle.std.proofs.lemmas.List.FromFn.{get_or-map-range_with_len, map-range_with_len_more, filter_of_map_range_with_len_more, length-map-range_with_len}
use Rattle.node_listing.specs.Listing.{process_line, process_listing, count_line}
use Rattle.proc_history.specs.Histories.{replay}
use Rattle.proc_history.specs.Values.{nothing}
use Rattle.proc_history.specs.declared.value.Value.{Value}
use Rattle.proc_table.specs.declared.view.View.{View}
use Rattle.proc_table.specs.Agrees.{slots}
use Rattle.proc_table.specs.Views.{seen}
use Rattle.node_processes.specs.InMemory.{values_in}

abbrev pub value_of : View → ℕ → Value
value_of v p = replay (seen v p)

-- the value in its place
pub value_there : (v : View) (p : ℕ) → p < slots → get_or (values_in v) p nothing ≡ value_of v p
value_there v p inside = get_or-map-range_with_len (value_of v) 0 slots p p nothing inside (omega arith)

-- where all values are the same, so is that of a slot
pub same_value : (v w : View) (p : ℕ) → p < slots → values_in v ≡ values_in w → value_of v p ≡ value_of w p
same_value v w p inside same = sym (value_there v p inside) ∙ (ap (λ vs. get_or vs p nothing) same ∙ value_there w p inside)

-- the values of so many slots, the lowest ones
abbrev pub first_of : View → ℕ → List Value
first_of v n = map (value_of v) (range_with_len 0 n)

pub line_more : (v w : View) (n : ℕ) (old new : List ℕ) → n < slots → values_in w ≡ values_in v → new ≡ old ++ process_line (value_of w n)
    → old ≡ flat_map process_line (first_of v n) → new ≡ flat_map process_line (first_of v (n + 1))
line_more v w n old new inside same grown so_far =
    grown ∙ ((λ i. so_far i ++ process_line (same_value w v n inside same i))
    ∙ (flat_map_more process_line [] (first_of v n) (value_of v n) ∙ ap (flat_map process_line) (sym (map-range_with_len_more (value_of v) 0 n n (omega arith)))))

abbrev pub stands : Value → Bool
stands v = is_some v.now

pub count_more : (v w : View) (n old new : ℕ) → n < slots → values_in w ≡ values_in v → new ≡ old + (if stands (value_of w n) then 1 else 0)
    → old ≡ length (filter stands (first_of v n)) → new ≡ length (filter stands (first_of v (n + 1)))
count_more v w n old new inside same grown so_far =
    grown ∙ ((λ i. so_far i + (if stands (same_value w v n inside same i) then 1 else 0))
    ∙ (one (stands (value_of v n)) ∙ ap length (sym (filter_of_map_range_with_len_more stands (value_of v) 0 n n (omega arith)))))
  where
    one : (b : Bool) → length (filter stands (first_of v n)) + (if b then 1 else 0) ≡ length (filter stands (first_of v n) ++ cond b (value_of v n ∷ []) [])
    one true = sym (length-append (filter stands (first_of v n)) (value_of v n ∷ []))
    one false = sym (length-append (filter stands (first_of v n)) [])

filter_within : {X : Type 0} (test : X → Bool) (xs : List X) → length (filter test xs) ≤ length xs
filter_within test [] = omega arith
filter_within test (x ∷ xs) = go (test x) (filter_within test xs)
  where
    go : (b : Bool) → length (filter test xs) ≤ length xs → length (cond b (x ∷ filter test xs) (filter test xs)) ≤ length (x ∷ xs)
    go true rest = omega (arith, rest)
    go false rest = omega (arith, rest)

-- no more stand in so many slots than there are
pub count_within : (v : View) (n count : ℕ) → count ≡ length (filter stands (first_of v n)) → count ≤ n
count_within v n count is =
    let most = filter_within stands (first_of v n) in
    let all = length-map-range_with_len (value_of v) 0 n in
    omega (arith, is, most, all)

pub same_values : (v w : View) → ((q : ℕ) → value_of w q ≡ value_of v q) → values_in w ≡ values_in v
same_values v w each = λ i. map (λ q. each q i) (range_with_len 0 slots)

-- the values when one was put in its place
pub value_set : (v w : View) (p : ℕ) (x : Value) → p < slots → value_of w p ≡ x → ((q : ℕ) → q ≢ p → value_of w q ≡ value_of v q) → values_in w ≡ slice_set (values_in v) p x
value_set v w p x inside here others =
    let long = length-map-range_with_len (value_of w) 0 slots in
    let before = length-map-range_with_len (value_of v) 0 slots in
    let kept = length-set (values_in v) p x in
    ext_get_or nothing (values_in w) (slice_set (values_in v) p x) (long ∙ sym (kept ∙ before))
    (λ q within. let there : q < slots = omega (arith, within, long) in dite (ℕ_discrete q p)
    (λ e. ap (λ k. get_or (values_in w) k nothing) e ∙ (value_there w p inside ∙ (here ∙ sym (get_or-set_at (values_in v) p q x nothing e (omega (arith, inside, before))))))
    (λ ne. value_there w q there ∙ (others q ne ∙ (sym (value_there v q there) ∙ sym (get_or-set_other (values_in v) p q x nothing ne)))))

-- all lines are there, and the last one, which reports how many there are
pub all_slots : (v : View) (n count : ℕ) (lines text : List ℕ) → n ≡ slots → lines ≡ flat_map process_line (first_of v n) → count ≡ length (filter stands (first_of v n))
    → text ≡ lines ++ count_line count → text ≡ process_listing (values_in v)
all_slots v n count lines text all so_far counted grown =
    grown ∙ ((λ i. so_far i ++ count_line (counted i)) ∙ ap (λ k. process_listing (first_of v k)) all)
