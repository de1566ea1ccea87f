-- How two places in a list lie to each other.
use Rattle.std.proofs.Common.{◌≡◌, ◌⊎◌, inl, inr, List, [], ◌∷◌, ◌++◌, refl, sym}

-- two places in a list are one place
pub record AreSame {A : Type 0} (x a y b : List A) (i j : A) : Type 0 where
  pub before : x ≡ y
  pub here : i ≡ j
  pub after : a ≡ b

-- the second stands after the first
pub record IsBefore {A : Type 0} (x a y b : List A) (i j : A) : Type 0 where
  pub between : List A
  pub further : y ≡ x ++ (i ∷ between)
  pub behind : a ≡ between ++ (j ∷ b)

-- places in one list are one, or one of them stands after the other
pub places : {A : Type 0} (x a y b : List A) (i j : A) → x ++ (i ∷ a) ≡ y ++ (j ∷ b) → AreSame x a y b i j ⊎ (IsBefore x a y b i j ⊎ IsBefore y b x a j i)
places [] a [] b i j e = inl (record { before = refl; here = (cc); after = (cc) })
places [] a (k ∷ y) b i j e = inr (inl (record { between = y; further = (cc); behind = (cc) }))
places (k ∷ x) a [] b i j e = inr (inr (record { between = x; further = (cc); behind = (cc) }))
places (k ∷ x) a (l ∷ y) b i j e =
    let first : k ≡ l = cc in
    let rest : x ++ (i ∷ a) ≡ y ++ (j ∷ b) = cc in
    further first (places x a y b i j rest)
  where
    further : k ≡ l → AreSame x a y b i j ⊎ (IsBefore x a y b i j ⊎ IsBefore y b x a j i)
        → AreSame (k ∷ x) a (l ∷ y) b i j ⊎ (IsBefore (k ∷ x) a (l ∷ y) b i j ⊎ IsBefore (l ∷ y) b (k ∷ x) a j i)
    further first (inl s) = inl (record { before = (λ n. first n ∷ s.before n); here = s.here; after = s.after })
    further first (inr (inl s)) = inr (inl (record { between = s.between; further = (λ n. sym first n ∷ s.further n); behind = s.behind }))
    further first (inr (inr s)) = inr (inr (record { between = s.between; further = (λ n. first n ∷ s.further n); behind = s.behind }))
