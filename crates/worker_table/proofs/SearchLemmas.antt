-- A binary search, by the rows among which the key can still stand.
use Rattle.std.proofs.Common.{◌≡◌, ◌⊎◌, ◌<◌, ◌≤◌, ◌+◌, ◌*◌, ◌/◌, ◌^◌, ◌==◌, ◌&&◌, ℕ, suc, List, length, map, get_or, Some, None, inl, inr, ⊎_elim, arith, subst, sym, ap, ◌∙◌}
use Rattle.std.proofs.Math.Nat.{mul-le-mul_right, mul_assoc, pow-succ'}
use Rattle.std.proofs.lemmas.Cmp.{eq_by_cmp_equiv, nat_cmp_total, on_total, then_total}
use Rattle.std.proofs.lemmas.Map.Entries.{lookup_from_place, lookup_at_gap}
use Rattle.std.proofs.lemmas.Bool.{cases_lt, cases_order}
use Rattle.std.proofs.lemmas.Bool.Decides.{nat_tests}
use Rattle.std.proofs.lemmas.Map.Keys.{IsDistinct-from_sorted, Less-from_sorted}
use Rattle.std.proofs.lemmas.Map.Lookups.{exact_pairs, exact_unsigned}
use Rattle.std.proofs.lemmas.Option.{get_or_from_slice_get, slice_get-map, slice_get_past, slice_get-get_or}
use Rattle.std.proofs.lemmas.Nat.{pow_below}
use Rattle.std.specs.BTreeMap.{is_at}
use Rattle.std.specs.Cmp.{IsTotalOrder, tied_then}
use Rattle.std.specs.List.{slice_get}
use Rattle.std.specs.Map.{keys_of}
use Rattle.std.specs.Option.{option_map}
use Rattle.std.specs.Ordering.{is_eq, nat_cmp, ordering_reverse}
use Rattle.std.specs.declared.cmp.Ordering.TheVariants.{Less, Equal, Greater}
use Rattle.worker_table.specs.declared.index.Entry.{Entry}
use Rattle.worker_table.specs.Stored.{row_of}
use Rattle.worker_table.specs.Keys.{Pair, compare_pairs, number_at, IsRising}

-- The key stands among the rows from `low` up to `high`, if anywhere.
pub record IsNarrowed (wanted : Pair) (rows : List (Pair × ℕ)) (low high : ℕ) : Type 0 where
  pub ordered : low ≤ high
  pub within : high ≤ length rows
  pub below : (j : ℕ) (r : Pair × ℕ) → j < low → slice_get rows j ≡ Some r → compare_pairs wanted r.0 ≡ Greater
  pub above : (j : ℕ) (r : Pair × ℕ) → high ≤ j → slice_get rows j ≡ Some r → compare_pairs wanted r.0 ≡ Less

-- After so many comparisons so many of the rows are left.
pub record IsHalved (rows left spent : ℕ) : Type 0 where
  pub halved : left * 2 ^ spent ≤ rows
  pub cost : 2 ^ spent ≤ 2 * rows + 1

pub pairs_total : IsTotalOrder compare_pairs
pairs_total = then_total (on_total (λ (p : Pair). p.0) nat_cmp_total) (on_total (λ (p : Pair). p.1) nat_cmp_total)

-- ---- numbers
cases_behind : (i j : ℕ) → i ≤ j → (i ≡ j) ⊎ (i < j)
cases_behind i j le = ⊎_elim inl (⊎_elim inr (λ more. absurd (omega arith))) (cases_order i j)

pow_up : (i j : ℕ) → i ≤ j → 2 ^ i ≤ 2 ^ j
pow_up i j le = ⊎_elim (λ same. omega (arith, ap (λ n. 2 ^ n) same)) (λ less. omega (arith, pow_below i j less)) (cases_behind i j le)

-- the entry at a place, as code reads it
abbrev pub entry_at : {B : Type 0} → List (Entry B) → ℕ → Entry B
entry_at entries at = get_or entries at (record { key = record { state = 0; input = 0; of = record {} }; number = 0 })

pub row_at : {B : Type 0} (entries : List (Entry B)) (at : ℕ) → at < length entries → slice_get (map row_of entries) at ≡ Some (row_of (entry_at entries at))
row_at entries at within = slice_get-map row_of entries at ∙ ap (option_map row_of) (slice_get-get_or entries at _ within)

-- ---- what a search costs
-- one comparison more leaves at most half
pub halve : (rows left part spent : ℕ) → 0 < left → part ≤ left / 2 → IsHalved rows left spent → IsHalved rows part (suc spent)
halve rows left part spent some half h = record {
  halved = subst (λ n. part * n ≤ rows) (sym (pow-succ' 2 spent)) (subst (λ n. n ≤ rows) (mul_assoc part 2 (2 ^ spent)) (omega (arith, twice, h.halved)));
  cost = subst (λ n. n ≤ 2 * rows + 1) (sym (pow-succ' 2 spent)) (omega (arith, once, h.halved));
}
  where
    twice : part * 2 * 2 ^ spent ≤ left * 2 ^ spent
    twice = mul-le-mul_right (2 ^ spent) (omega arith)

    once : 1 * 2 ^ spent ≤ left * 2 ^ spent
    once = mul-le-mul_right (2 ^ spent) (omega arith)

-- where rows are left, fewer than 64 were spent
pub spares_one : (rows left spent : ℕ) → rows < 2 ^ 64 → 0 < left → IsHalved rows left spent → spent < 64
spares_one rows left spent few some h = ⊎_elim (λ less. less) (λ more. absurd (omega (arith, once, h.halved, pow_up 64 spent more, few))) (cases_lt spent 64)
  where
    once : 1 * 2 ^ spent ≤ left * 2 ^ spent
    once = mul-le-mul_right (2 ^ spent) (omega arith)

pub spends_few : (rows left spent : ℕ) → rows < 2 ^ 64 → IsHalved rows left spent → spent ≤ 64
spends_few rows left spent few h = ⊎_elim (λ less. omega arith) (λ more. absurd (omega (arith, h.cost, pow_up 65 spent more, few))) (cases_lt spent 65)

-- for callers: 13 comparisons are enough for 4,096 rows
pub takes_few : (rows spent : ℕ) → rows ≤ 4096 → 2 ^ spent ≤ 2 * rows + 1 → spent ≤ 13
takes_few rows spent few cost = ⊎_elim (λ less. omega arith) (λ more. absurd (omega (arith, cost, pow_up 14 spent more, few))) (cases_lt spent 14)

-- ---- rows in order
rises : (rows : List (Pair × ℕ)) (i j : ℕ) (q r : Pair × ℕ) → IsRising rows → i < j → slice_get rows i ≡ Some q → slice_get rows j ≡ Some r → compare_pairs q.0 r.0 ≡ Less
rises rows i j q r rising less first second =
    let key : (k : ℕ) (x : Pair × ℕ) → slice_get rows k ≡ Some x → slice_get (keys_of rows) k ≡ Some x.0 =
    λ k x is. slice_get-map (λ (e : Pair × ℕ). e.0) rows k ∙ ap (option_map (λ (e : Pair × ℕ). e.0)) is in
    let ks = keys_of rows in
    let within : j < length ks = ⊎_elim (λ inside. inside) (λ past. absurd (let none = sym (slice_get_past ks j past) ∙ key j r second in cc)) (cases_lt j (length ks)) in
    let found = Less-from_sorted compare_pairs ks i j q.0 rising less within in
    ap (λ (p : Pair). compare_pairs p r.0) (sym (get_or_from_slice_get ks i q.0 q.0 (key i q first)))
    ∙ (ap (λ (p : Pair). compare_pairs (get_or ks i q.0) p) (sym (get_or_from_slice_get ks j r.0 q.0 (key j r second))) ∙ found)

turned : (p q : Pair) → compare_pairs p q ≡ Greater → compare_pairs q p ≡ Less
turned p q is = IsTotalOrder.antisymm pairs_total q p ∙ ap ordering_reverse is

turned_back : (p q : Pair) → compare_pairs p q ≡ Less → compare_pairs q p ≡ Greater
turned_back p q is = IsTotalOrder.antisymm pairs_total q p ∙ ap ordering_reverse is

equal_numbers : (a b : ℕ) → is_eq (nat_cmp a b) ≡ (b == a)
equal_numbers a b = grind (arith, nat_tests)

-- for callers: a key is the one that is wanted
pub same_pair : (p q : Pair) → is_at (compare_pairs p) q ≡ ((q.0 == p.0) && (q.1 == p.1))
same_pair p q = sym (tied_then (nat_cmp p.0 q.0) (nat_cmp p.1 q.1)) ∙ (ap (λ b. b && is_eq (nat_cmp p.1 q.1)) (equal_numbers p.0 q.0) ∙ ap (λ b. (q.0 == p.0) && b) (equal_numbers p.1 q.1))

-- ---- where a search ends
pub found : (wanted : Pair) (rows : List (Pair × ℕ)) (at : ℕ) (r : Pair × ℕ) → IsRising rows → slice_get rows at ≡ Some r → compare_pairs wanted r.0 ≡ Equal → Some r.1 ≡ number_at wanted rows
found wanted rows at r rising is same =
    let exact : wanted ≡ r.0 = exact_pairs nat_cmp nat_cmp exact_unsigned exact_unsigned wanted r.0 same in
    sym (ap (λ (p : Pair). number_at p rows) exact
    ∙ lookup_from_place (eq_by_cmp_equiv pairs_total) rows at r.0 r.1 (IsDistinct-from_sorted compare_pairs (keys_of rows) rising) is)

pub missed : (wanted : Pair) (rows : List (Pair × ℕ)) (at : ℕ) → IsRising rows → IsNarrowed wanted rows at at → None ≡ number_at wanted rows
missed wanted rows at rising narrow = sym (lookup_at_gap pairs_total wanted rows at rising narrow.below (λ r is. narrow.above at r (omega arith) is))

-- ---- how it goes on
pub go_below : (wanted : Pair) (rows : List (Pair × ℕ)) (low high at : ℕ) (r : Pair × ℕ) → IsRising rows → IsNarrowed wanted rows low high → low ≤ at → at < high
    → slice_get rows at ≡ Some r → compare_pairs wanted r.0 ≡ Less → IsNarrowed wanted rows low at
go_below wanted rows low high at r rising narrow from to is less = record {
  ordered = from;
  within = let all = narrow.within in omega arith;
  below = narrow.below;
  above = λ j q behind there. ⊎_elim
      (λ same. let one : r ≡ q = cc in subst (λ (x : Pair × ℕ). compare_pairs wanted x.0 ≡ Less) one less)
      (λ other. IsTotalOrder.trans pairs_total wanted r.0 q.0 less (rises rows at j r q rising (omega arith) is there))
      (cases_behind at j behind);
}

pub go_above : (wanted : Pair) (rows : List (Pair × ℕ)) (low high at : ℕ) (r : Pair × ℕ) → IsRising rows → IsNarrowed wanted rows low high → low ≤ at → at < high
    → slice_get rows at ≡ Some r → compare_pairs wanted r.0 ≡ Greater → IsNarrowed wanted rows (at + 1) high
go_above wanted rows low high at r rising narrow from to is more = record {
  ordered = omega arith;
  within = narrow.within;
  below = λ j q before there. ⊎_elim
      (λ same. let one : r ≡ q = cc in subst (λ (x : Pair × ℕ). compare_pairs wanted x.0 ≡ Greater) one more)
      (λ other. turned_back q.0 wanted (IsTotalOrder.trans pairs_total q.0 r.0 wanted (rises rows j at q r rising (omega arith) there is) (turned wanted r.0 more)))
      (cases_behind j at (omega arith));
  above = narrow.above;
}
