-- Each version that a release has of an application is asked.
use Rattle.std.proofs.Common.{◌≡◌, ℕ, true, false, List, [], ◌∷◌, ◌++◌, Option, None, Some, ◌⊎◌, inl, inr, ⊎_elim, refl, sym, subst}
use Rattle.std.specs.List.{cons_option, filter_map}
use Rattle.std.specs.Str.{bytes_eq}
use Rattle.std.proofs.lemmas.Bool.{cases_Bool}
use Rattle.std.proofs.lemmas.Slice.Eq.{bytes_eq-Decides}
use Rattle.appup_plain.specs.Plain.{IsAsked}
use Rattle.relup_row.specs.Release.{RelupAppForm, RelupReleaseForm}
use Rattle.relup_by_patterns.specs.Plain.{other_vsn, versions_in, asked}

asked_first : (v : List ℕ) (xs ys : List (List ℕ)) → IsAsked v xs → IsAsked v (xs ++ ys)
asked_first v [] ys h = absurd h
asked_first v (x ∷ xs) ys h = ⊎_elim (λ is. inl is) (λ later. inr (asked_first v xs ys later)) h

asked_last : (v : List ℕ) (xs ys : List (List ℕ)) → IsAsked v ys → IsAsked v (xs ++ ys)
asked_last v [] ys h = h
asked_last v (x ∷ xs) ys h = inr (asked_last v xs ys h)

is_other : (a b : RelupAppForm) → b.name ≡ a.name → (b.vsn ≡ a.vsn → ⊥) → other_vsn a b ≡ Some b.vsn
is_other a b named differs =
    ⊎_elim
    (λ (same : bytes_eq b.vsn a.vsn ≡ true). absurd (differs ((bytes_eq-Decides b.vsn a.vsn).0 same)))
    (λ (other : bytes_eq b.vsn a.vsn ≡ false). rw ((bytes_eq-Decides b.name a.name).1 named, other))
    (cases_Bool (bytes_eq b.vsn a.vsn))

in_apps : (a b : RelupAppForm) (front back : List RelupAppForm) → other_vsn a b ≡ Some b.vsn → IsAsked b.vsn (filter_map (other_vsn a) (front ++ (b ∷ back)))
in_apps a b [] back is =
    let P : Option (List ℕ) → Type 0 = λ o. IsAsked b.vsn (cons_option o (filter_map (other_vsn a) back)) in
    subst P (sym is) (inl refl)
in_apps a b (c ∷ front) back is = go (other_vsn a c) (in_apps a b front back is)
  where
    go : (o : Option (List ℕ)) → IsAsked b.vsn (filter_map (other_vsn a) (front ++ (b ∷ back)))
        → IsAsked b.vsn (cons_option o (filter_map (other_vsn a) (front ++ (b ∷ back))))
    go None h = h
    go (Some v) h = inr h

pub in_releases : (a b : RelupAppForm) (before after : List RelupReleaseForm) (r : RelupReleaseForm) (front back : List RelupAppForm)
    → r.apps ≡ front ++ (b ∷ back) → b.name ≡ a.name → (b.vsn ≡ a.vsn → ⊥) → IsAsked b.vsn (asked a (before ++ (r ∷ after)))
in_releases a b [] after r front back is named differs =
    let P : List RelupAppForm → Type 0 = λ apps. IsAsked b.vsn (filter_map (other_vsn a) apps) in
    asked_first b.vsn (versions_in a r) (asked a after) (subst P (sym is) (in_apps a b front back (is_other a b named differs)))
in_releases a b (s ∷ before) after r front back is named differs =
    asked_last b.vsn (versions_in a s) (asked a (before ++ (r ∷ after))) (in_releases a b before after r front back is named differs)
