-- Members of lists, and tests of them.
use Rattle.std.proofs.Common.{◌≡◌, Bool, true, List, [], ◌∷◌, Contains, ◌⊎◌, inl, inr, subst, arith}
use Rattle.std.specs.List.{list_all}
use Rattle.std.proofs.lemmas.List.Elements.{Contains-get_or, Contains-append_right, Contains-push_cases, Contains-append_cases}
use Rattle.rel_files.proofs.Options.{both}

pub no_member : {X : Type 0} (y : X) → Contains {X = X} [] y → ⊥
no_member y (k, below, is) = omega arith

pub first_member : {X : Type 0} (x : X) (xs : List X) → Contains (x ∷ xs) x
first_member x xs = Contains-get_or (x ∷ xs) 0 x (omega arith)

pub later_member : {X : Type 0} (x : X) (xs : List X) (y : X) → Contains xs y → Contains (x ∷ xs) y
later_member x xs y member = Contains-append_right (x ∷ []) xs y member

-- a member is the first, or one of those after it
pub member_cases : {X : Type 0} (x : X) (xs : List X) (y : X) → Contains (x ∷ xs) y → (x ≡ y) ⊎ Contains xs y
member_cases {X} x xs y is = go (Contains-append_cases (x ∷ []) xs y is)
  where
    only : Contains {X = X} [] y ⊎ (x ≡ y) → (x ≡ y) ⊎ Contains xs y
    only (inl none) = absurd (no_member y none)
    only (inr same) = inl same

    go : Contains (x ∷ []) y ⊎ Contains xs y → (x ≡ y) ⊎ Contains xs y
    go (inl first) = only (Contains-push_cases [] x y first)
    go (inr later) = inr later

-- where each member passes a test, this one does
pub passes : {X : Type 0} (test : X → Bool) (xs : List X) (y : X) → Contains xs y → list_all test xs ≡ true → test y ≡ true
passes test [] y member all = absurd (no_member y member)
passes test (x ∷ xs) y member all = go (member_cases x xs y member) (both (test x) (list_all test xs) all) (λ later. passes test xs y later)
  where
    go : (x ≡ y) ⊎ Contains xs y → (test x ≡ true) × (list_all test xs ≡ true) → (Contains xs y → list_all test xs ≡ true → test y ≡ true) → test y ≡ true
    go (inl same) parts rest = subst (λ z. test z ≡ true) same parts.0
    go (inr later) parts rest = rest later parts.1
