-- The first row of each key, as rows come one by one.
use Rattle.std.proofs.Common.{◌≡◌, ℕ, Bool, true, false, cond, List, [], ◌∷◌, ◌++◌, Option, Some, None, refl, subst, sym, ap, ◌∙◌}
use Rattle.std.proofs.lemmas.Cmp.{tied_itself}
use Rattle.std.proofs.lemmas.Map.Lookups.{exact_pairs, exact_unsigned}
use Rattle.std.specs.BTreeMap.{is_at}
use Rattle.std.specs.Map.{lookup}
use Rattle.std.specs.Option.{is_some}
use Rattle.std.specs.Ordering.{is_eq, nat_cmp}
use Rattle.std.specs.declared.cmp.Ordering.{Ordering}
use Rattle.std.specs.declared.cmp.Ordering.TheVariants.{Less, Equal, Greater}
use Rattle.worker_table.specs.Keys.{Pair, compare_pairs, number_at}
use Rattle.worker_table.proofs.SearchLemmas.{pairs_total}

tied : (o : Ordering) → is_eq o ≡ true → o ≡ Equal
tied Less is = absurd cc
tied Equal is = refl
tied Greater is = absurd cc

-- a key that passes is the one that is wanted
same_key : (wanted p : Pair) → is_at (compare_pairs wanted) p ≡ true → wanted ≡ p
same_key wanted p passes = exact_pairs nat_cmp nat_cmp exact_unsigned exact_unsigned wanted p (tied (compare_pairs wanted p) passes)

-- ---- one row more
found_before : (test : Pair → Bool) (rows : List (Pair × ℕ)) (r : Pair × ℕ) (n : ℕ) → lookup test rows ≡ Some n → lookup test (rows ++ r ∷ []) ≡ Some n
found_before test [] r n is = absurd cc
found_before test (q ∷ rows) r n is = go (test q.0) is (found_before test rows r n)
  where
    go : (b : Bool) → cond b (Some q.1) (lookup test rows) ≡ Some n → (lookup test rows ≡ Some n → lookup test (rows ++ r ∷ []) ≡ Some n)
        → cond b (Some q.1) (lookup test (rows ++ r ∷ [])) ≡ Some n
    go true here later = here
    go false here later = later here

none_before : (test : Pair → Bool) (rows : List (Pair × ℕ)) (r : Pair × ℕ) → lookup test rows ≡ None → lookup test (rows ++ r ∷ []) ≡ cond (test r.0) (Some r.1) None
none_before test [] r is = refl
none_before test (q ∷ rows) r is = go (test q.0) is (none_before test rows r)
  where
    go : (b : Bool) → cond b (Some q.1) (lookup test rows) ≡ None → (lookup test rows ≡ None → lookup test (rows ++ r ∷ []) ≡ cond (test r.0) (Some r.1) None)
        → cond b (Some q.1) (lookup test (rows ++ r ∷ [])) ≡ cond (test r.0) (Some r.1) None
    go true here later = absurd cc
    go false here later = later here

-- another key finds what it found
other : (wanted : Pair) (rows : List (Pair × ℕ)) (r : Pair × ℕ) → is_at (compare_pairs wanted) r.0 ≡ false → number_at wanted (rows ++ r ∷ []) ≡ number_at wanted rows
other wanted rows r apart = go (number_at wanted rows) refl
  where
    go : (o : Option ℕ) → number_at wanted rows ≡ o → number_at wanted (rows ++ r ∷ []) ≡ number_at wanted rows
    go (Some n) is = found_before (is_at (compare_pairs wanted)) rows r n is ∙ sym is
    go None is = none_before (is_at (compare_pairs wanted)) rows r is ∙ (ap (λ b. cond b (Some r.1) None) apart ∙ sym is)

-- a row whose key was there changes nothing
pub kept : (wanted : Pair) (rows : List (Pair × ℕ)) (r : Pair × ℕ) (n : ℕ) → number_at r.0 rows ≡ Some n → number_at wanted (rows ++ r ∷ []) ≡ number_at wanted rows
kept wanted rows r n there = go (is_at (compare_pairs wanted) r.0) refl
  where
    go : (b : Bool) → is_at (compare_pairs wanted) r.0 ≡ b → number_at wanted (rows ++ r ∷ []) ≡ number_at wanted rows
    go true passes = subst (λ p. number_at p (rows ++ r ∷ []) ≡ number_at p rows) (sym (same_key wanted r.0 passes)) (found_before (is_at (compare_pairs r.0)) rows r n there ∙ sym there)
    go false apart = other wanted rows r apart

-- one whose key was not there is found under it
pub noted : (wanted : Pair) (rows : List (Pair × ℕ)) (r : Pair × ℕ) → number_at r.0 rows ≡ None
    → number_at wanted (rows ++ r ∷ []) ≡ cond (is_at (compare_pairs r.0) wanted) (Some r.1) (number_at wanted rows)
noted wanted rows r absent = go (is_at (compare_pairs r.0) wanted) refl
  where
    itself : is_at (compare_pairs r.0) r.0 ≡ true
    itself = ap is_eq (tied_itself pairs_total r.0)

    apart : is_at (compare_pairs r.0) wanted ≡ false → (b : Bool) → is_at (compare_pairs wanted) r.0 ≡ b → b ≡ false
    apart differs true passes =
        let back = subst (λ p. is_at (compare_pairs r.0) p ≡ false) (same_key wanted r.0 passes) differs in
        absurd (let clash = sym itself ∙ back in cc)
    apart differs false is = refl

    go : (b : Bool) → is_at (compare_pairs r.0) wanted ≡ b → number_at wanted (rows ++ r ∷ []) ≡ cond b (Some r.1) (number_at wanted rows)
    go true passes = subst (λ p. number_at p (rows ++ r ∷ []) ≡ Some r.1) (same_key r.0 wanted passes)
        (none_before (is_at (compare_pairs r.0)) rows r absent ∙ ap (λ b. cond b (Some r.1) None) itself)
    go false differs = other wanted rows r (apart differs (is_at (compare_pairs wanted) r.0) refl)

pub none_of : (o : Option ℕ) → false ≡ is_some o → o ≡ None
none_of (Some n) is = absurd cc
none_of None is = refl

pub some_of : (o : Option ℕ) → true ≡ is_some o → (n : ℕ) × (o ≡ Some n)
some_of (Some n) is = (n, refl)
some_of None is = absurd cc
