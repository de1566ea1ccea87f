-- The first row under each name, as rows come one by one.
use Rattle.std.proofs.Common.{◌≡◌, ℕ, Bool, true, false, cond, List, [], ◌∷◌, ◌++◌, Option, Some, None, Bor, refl, subst, sym, ap, ◌∙◌, true≢false}
use Rattle.std.proofs.lemmas.Slice.Eq.{bytes_eq-Decides}
use Rattle.std.specs.Map.{lookup}
use Rattle.std.specs.Option.{is_some}
use Rattle.std.specs.Str.{bytes_eq}
use Rattle.relup_lint.specs.Names.{first_under}

found_before : {K V : Type 0} (test : K → Bool) (rows : List (K × V)) (r : K × V) (v : V) → lookup test rows ≡ Some v → lookup test (rows ++ r ∷ []) ≡ Some v
found_before test [] r v is = absurd cc
found_before {K} {V} test (q ∷ rows) r v is = go (test q.0) is (found_before test rows r v)
  where
    go : (b : Bool) → cond b (Some q.1) (lookup test rows) ≡ Some v → (lookup test rows ≡ Some v → lookup test (rows ++ r ∷ []) ≡ Some v)
        → cond b (Some q.1) (lookup test (rows ++ r ∷ [])) ≡ Some v
    go true here later = here
    go false here later = later here

none_before : {K V : Type 0} (test : K → Bool) (rows : List (K × V)) (r : K × V) → lookup test rows ≡ None → lookup test (rows ++ r ∷ []) ≡ cond (test r.0) (Some r.1) None
none_before test [] r is = refl
none_before {K} {V} test (q ∷ rows) r is = go (test q.0) is (none_before test rows r)
  where
    go : (b : Bool) → cond b (Some q.1) (lookup test rows) ≡ None → (lookup test rows ≡ None → lookup test (rows ++ r ∷ []) ≡ cond (test r.0) (Some r.1) None)
        → cond b (Some q.1) (lookup test (rows ++ r ∷ [])) ≡ cond (test r.0) (Some r.1) None
    go true here later = absurd cc
    go false here later = later here

-- a name is equal to another exactly where the other is equal to it
swapped : (a b : List ℕ) → bytes_eq a b ≡ bytes_eq b a
swapped a b = go (bytes_eq a b) (bytes_eq b a) refl refl
  where
    go : (x y : Bool) → bytes_eq a b ≡ x → bytes_eq b a ≡ y → x ≡ y
    go true true p q = refl
    go false false p q = refl
    go true false p q =
        let same : a ≡ b = (bytes_eq-Decides a b).0 p in
        absurd (true≢false (sym p ∙ (subst (λ (c : List ℕ). bytes_eq a b ≡ bytes_eq c a) same (subst (λ (c : List ℕ). bytes_eq a b ≡ bytes_eq a c) (sym same) refl)) ∙ q))
    go false true p q =
        let same : b ≡ a = (bytes_eq-Decides b a).0 q in
        absurd (true≢false (sym q ∙ (subst (λ (c : List ℕ). bytes_eq b a ≡ bytes_eq c b) same (subst (λ (c : List ℕ). bytes_eq b a ≡ bytes_eq b c) (sym same) refl)) ∙ p))

-- another name finds what it found
other : {V : Type 0} (wanted : List ℕ) (rows : List (Bor (List ℕ) × V)) (r : Bor (List ℕ) × V) → bytes_eq wanted r.0.now ≡ false → first_under wanted (rows ++ r ∷ []) ≡ first_under wanted rows
other {V} wanted rows r apart = go (first_under wanted rows) refl
  where
    go : (o : Option V) → first_under wanted rows ≡ o → first_under wanted (rows ++ r ∷ []) ≡ first_under wanted rows
    go (Some v) is = found_before (λ (k : Bor (List ℕ)). bytes_eq wanted k.now) rows r v is ∙ sym is
    go None is = none_before (λ (k : Bor (List ℕ)). bytes_eq wanted k.now) rows r is ∙ (ap (λ b. cond b (Some r.1) None) apart ∙ sym is)

-- a row whose name was there changes nothing
pub kept : {V : Type 0} (wanted : List ℕ) (rows : List (Bor (List ℕ) × V)) (r : Bor (List ℕ) × V) (v : V) → first_under r.0.now rows ≡ Some v → first_under wanted (rows ++ r ∷ []) ≡ first_under wanted rows
kept wanted rows r v there = go (bytes_eq wanted r.0.now) refl
  where
    go : (b : Bool) → bytes_eq wanted r.0.now ≡ b → first_under wanted (rows ++ r ∷ []) ≡ first_under wanted rows
    go true passes =
        let same : wanted ≡ r.0.now = (bytes_eq-Decides wanted r.0.now).0 passes in
        subst (λ (n : List ℕ). first_under n (rows ++ r ∷ []) ≡ first_under n rows) (sym same)
        (found_before (λ (k : Bor (List ℕ)). bytes_eq r.0.now k.now) rows r v there ∙ sym there)
    go false apart = other wanted rows r apart

-- one whose name was not there is found under it
pub noted : {V : Type 0} (wanted : List ℕ) (rows : List (Bor (List ℕ) × V)) (r : Bor (List ℕ) × V) → first_under r.0.now rows ≡ None
    → first_under wanted (rows ++ r ∷ []) ≡ cond (bytes_eq r.0.now wanted) (Some r.1) (first_under wanted rows)
noted wanted rows r absent = go (bytes_eq wanted r.0.now) refl
  where
    go : (b : Bool) → bytes_eq wanted r.0.now ≡ b → first_under wanted (rows ++ r ∷ []) ≡ cond (bytes_eq r.0.now wanted) (Some r.1) (first_under wanted rows)
    go true passes =
        let same : wanted ≡ r.0.now = (bytes_eq-Decides wanted r.0.now).0 passes in
        let none : first_under wanted rows ≡ None = subst (λ (n : List ℕ). first_under n rows ≡ None) (sym same) absent in
        none_before (λ (k : Bor (List ℕ)). bytes_eq wanted k.now) rows r none
        ∙ ap (λ b. cond b (Some r.1) None) passes
        ∙ ap (λ b. cond b (Some r.1) (first_under wanted rows)) (sym (swapped r.0.now wanted ∙ passes))
    go false apart = other wanted rows r apart ∙ ap (λ b. cond b (Some r.1) (first_under wanted rows)) (sym (swapped r.0.now wanted ∙ apart))

pub none_of : {V : Type 0} (o : Option V) → false ≡ is_some o → o ≡ None
none_of (Some v) is = absurd cc
none_of None is = refl

pub some_of : {V : Type 0} (o : Option V) → true ≡ is_some o → (v : V) × (o ≡ Some v)
some_of (Some v) is = (v, refl)
some_of None is = absurd cc
