-- How deep a walk goes.
use Rattle.std.proofs.Common.{◌≡◌, ℕ, zero, suc, ◌+◌, Bool, true, false, List, [], ◌∷◌, length, nat_le, Option, None, Some, refl, sym, ap, subst, ◌∙◌, arith, add-zero}
use Rattle.std.specs.List.{list_all, sum_by}
use Rattle.std.specs.Option.{option_or, option_map_or}
use Rattle.std.proofs.lemmas.List.Sums.{sum_by-cons}
use Rattle.mod_table.specs.declared.table.Table.{Table}
use Rattle.mod_table.specs.declared.table.Table.TheVariants.{Worker, Super}
use Rattle.mod_table.specs.Table.{ChildSpec, SuperTable}
use Rattle.mod_table.specs.Tables.{Tables, first_of, child_table}
use Rattle.rel_check.specs.Walk.{missing_at, missing_below, processes_from, is_within}
use Rattle.rel_check.specs.Laws.{IsBelow, DeeperFindsTheSame, WithinItselfIsTooDeep}
use Rattle.rel_check.specs.Laws.IsBelow.{child, further}
use Rattle.rel_check.proofs.Members.{passes}
use Rattle.rel_files.proofs.Options.{both, both_true}

-- lists of which each member passes a test

same_first : {C Y : Type 0} (f g : C → Option Y) (test : C → Bool) → ((c : C) → test c ≡ true → f c ≡ g c) → (cs : List C) → list_all test cs ≡ true → first_of f cs ≡ first_of g cs
same_first f g test same [] all = refl
same_first f g test same (c ∷ cs) all =
    let parts = both (test c) (list_all test cs) all in
    let here = same c parts.0 in
    let later = same_first f g test same cs parts.1 in
    λ j. option_or (here j) (later j)

same_sum : {C : Type 0} (f g : C → ℕ) (test : C → Bool) → ((c : C) → test c ≡ true → f c ≡ g c) → (cs : List C) → list_all test cs ≡ true → sum_by f cs ≡ sum_by g cs
same_sum f g test same [] all = refl
same_sum f g test same (c ∷ cs) all =
    let parts = both (test c) (list_all test cs) all in
    let here = same c parts.0 in
    let later = same_sum f g test same cs parts.1 in
    sum_by-cons f c cs ∙ ((λ j. here j + later j) ∙ sym (sum_by-cons g c cs))

all_too : {C : Type 0} (p q : C → Bool) → ((c : C) → p c ≡ true → q c ≡ true) → (cs : List C) → list_all p cs ≡ true → list_all q cs ≡ true
all_too p q too [] all = refl
all_too p q too (c ∷ cs) all =
    let parts = both (p c) (list_all p cs) all in
    both_true (q c) (list_all q cs) (too c parts.0) (all_too p q too cs parts.1)

-- one supervisor deeper

missing_child : (tables : Tables) (n : ℕ) → ((t : Table) → is_within n tables t ≡ true → missing_below (suc n) tables t ≡ missing_below n tables t)
    → (m : List ℕ) (o : Option Table) → option_map_or (is_within n tables) o true ≡ true → missing_at (missing_below (suc n) tables) m o ≡ missing_at (missing_below n tables) m o
missing_child tables n same m None fits = refl
missing_child tables n same m (Some t) fits = same t fits

missing_same : (tables : Tables) (n : ℕ) (t : Table) → is_within n tables t ≡ true → missing_below (suc n) tables t ≡ missing_below n tables t
unfolding missing_below is_within
missing_same tables zero (Worker w) fits = refl
missing_same tables zero (Super s) fits = absurd cc
missing_same tables (suc n) (Worker w) fits = refl
missing_same tables (suc n) (Super s) fits =
    same_first (λ (c : ChildSpec). missing_at (missing_below (suc n) tables) c.start (child_table tables c)) (λ (c : ChildSpec). missing_at (missing_below n tables) c.start (child_table tables c))
    (λ (c : ChildSpec). option_map_or (is_within n tables) (child_table tables c) true)
    (λ c here. missing_child tables n (missing_same tables n) c.start (child_table tables c) here) s.children (both (nat_le (length s.children) 64) _ fits).1

-- a number of what is below a child
number_child : (tables : Tables) (n : ℕ) (f g : Table → ℕ) → ((t : Table) → is_within n tables t ≡ true → f t ≡ g t)
    → (o : Option Table) → option_map_or (is_within n tables) o true ≡ true → option_map_or f o 0 ≡ option_map_or g o 0
number_child tables n f g same None fits = refl
number_child tables n f g same (Some t) fits = same t fits

processes_same : (tables : Tables) (n : ℕ) (t : Table) → is_within n tables t ≡ true → processes_from (suc n) tables t ≡ processes_from n tables t
unfolding processes_from is_within
processes_same tables zero (Worker w) fits = refl
processes_same tables zero (Super s) fits = absurd cc
processes_same tables (suc n) (Worker w) fits = refl
processes_same tables (suc n) (Super s) fits =
    same_sum (λ (c : ChildSpec). option_map_or (processes_from (suc n) tables) (child_table tables c) 0) (λ (c : ChildSpec). option_map_or (processes_from n tables) (child_table tables c) 0)
    (λ (c : ChildSpec). option_map_or (is_within n tables) (child_table tables c) true)
    (λ c here. number_child tables n (processes_from (suc n) tables) (processes_from n tables) (processes_same tables n) (child_table tables c) here) s.children (both (nat_le (length s.children) 64) _ fits).1

within_child : (tables : Tables) (n : ℕ) → ((t : Table) → is_within n tables t ≡ true → is_within (suc n) tables t ≡ true)
    → (o : Option Table) → option_map_or (is_within n tables) o true ≡ true → option_map_or (is_within (suc n) tables) o true ≡ true
within_child tables n too None fits = refl
within_child tables n too (Some t) fits = too t fits

within_too : (tables : Tables) (n : ℕ) (t : Table) → is_within n tables t ≡ true → is_within (suc n) tables t ≡ true
unfolding is_within
within_too tables zero (Worker w) fits = refl
within_too tables zero (Super s) fits = absurd cc
within_too tables (suc n) (Worker w) fits = refl
within_too tables (suc n) (Super s) fits =
    let parts = both (nat_le (length s.children) 64) (list_all (λ (c : ChildSpec). option_map_or (is_within n tables) (child_table tables c) true) s.children) fits in
    both_true (nat_le (length s.children) 64) _ parts.0
    (all_too (λ (c : ChildSpec). option_map_or (is_within n tables) (child_table tables c) true) (λ (c : ChildSpec). option_map_or (is_within (suc n) tables) (child_table tables c) true)
    (λ c here. within_child tables n (within_too tables n) (child_table tables c) here) s.children parts.1)

-- and so many deeper

IsSame : Tables → ℕ → Table → ℕ → Type 0
IsSame tables n t m =
    (missing_below m tables t ≡ missing_below n tables t)
    × (processes_from m tables t ≡ processes_from n tables t)
    × (is_within m tables t ≡ true)

deeper : (tables : Tables) (n : ℕ) (t : Table) (m : ℕ) → IsSame tables n t m → IsSame tables n t (suc m)
unfolding IsSame
deeper tables n t m (missing, processes, within) =
    (missing_same tables m t within ∙ missing, processes_same tables m t within ∙ processes, within_too tables m t within)

same_at : (tables : Tables) (n k : ℕ) (t : Table) → is_within n tables t ≡ true → IsSame tables n t (n + k)
unfolding IsSame
same_at tables n zero t fits = subst (IsSame tables n t) (sym (add-zero n)) (refl, refl, fits)
same_at tables n (suc k) t fits = subst (IsSame tables n t) (let e : suc (n + k) ≡ n + suc k = omega arith in e) (deeper tables n t (n + k) (same_at tables n k t fits))

pub deeper_same : DeeperFindsTheSame
unfolding IsSame
deeper_same tables n k t fits = same_at tables n k t fits

-- what is below a supervisor keeps within one less
below_is_within : (tables : Tables) (s t : SuperTable) → IsBelow tables s t → (n : ℕ) → is_within (suc n) tables (Super s) ≡ true → is_within n tables (Super t) ≡ true
unfolding is_within
below_is_within tables _ _ (child s t c member is) n fits =
    let here = passes (λ (c : ChildSpec). option_map_or (is_within n tables) (child_table tables c) true) s.children c member (both (nat_le (length s.children) 64) _ fits).1 in
    ap (λ o. option_map_or (is_within n tables) o true) (sym is) ∙ here
below_is_within tables _ _ (further s t u first second) n fits =
    below_is_within tables t u second n (within_too tables n (Super t) (below_is_within tables s t first n fits))

never_within : (tables : Tables) (s : SuperTable) → IsBelow tables s s → (n : ℕ) → is_within n tables (Super s) ≡ true → ⊥
unfolding is_within
never_within tables s below zero fits = absurd cc
never_within tables s below (suc n) fits = never_within tables s below n (below_is_within tables s s below n fits)

is_false : (b : Bool) → (b ≡ true → ⊥) → b ≡ false
is_false true never = absurd (never refl)
is_false false never = refl

pub itself_too_deep : WithinItselfIsTooDeep
itself_too_deep tables s below n = is_false (is_within n tables (Super s)) (never_within tables s below n)
