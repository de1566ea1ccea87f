-- One after another, where the first refusal counts.
use Rattle.std.proofs.Common.{◌≡◌, inl, inr, ◌++◌, List, [], ◌∷◌, Result, Ok, Err, refl, sym, ap, subst, ◌∙◌, append_assoc}
use Rattle.std.proofs.lemmas.List.{append-nil}
use Rattle.rel_unpack.specs.Refusal.{Refusal}
use Rattle.rel_unpack.specs.Order.{Outcome, Each}

-- what was given before, and then this outcome
abbrev pub behind : {B : Type 0} → List B → Result (List B) Refusal → Result (List B) Refusal
behind done (Ok bs) = Ok (done ++ bs)
behind done (Err e) = Err e

-- Each outcome of those from this place on is one of all, after what was given so far.
pub record AreDoneTo {A B : Type 0} (P : A → Outcome B) (all later : List A) (done : List B) : Type 0 where
  pub turn : (r : Result (List B) Refusal) → Each P later r → Each P all (behind done r)

pub at_first : {A B : Type 0} (P : A → Outcome B) (all : List A) (done : List B) → done ≡ [] → AreDoneTo P all all done
at_first {A} {B} P all done none = subst (λ (l : List B). AreDoneTo P all all l) (sym none) (record { turn = go })
  where
    go : (r : Result (List B) Refusal) → Each P all r → Each P all (behind [] r)
    go (Ok bs) e = e
    go (Err x) e = e

pub one_more : {A B : Type 0} (P : A → Outcome B) (all now later : List A) (a : A) (done new : List B) (b : B) → now ≡ a ∷ later → P a (Ok b) → new ≡ done ++ b ∷ []
    → AreDoneTo P all now done → AreDoneTo P all later new
one_more {A} {B} P all now later a done new b split here grown so_far = record { turn = go }
  where
    go : (r : Result (List B) Refusal) → Each P later r → Each P all (behind new r)
    go (Ok bs) e =
        subst (λ (l : List B). Each P all (Ok l)) (sym (append_assoc done (b ∷ []) bs) ∙ ap (λ (l : List B). l ++ bs) (sym grown))
        (so_far.turn (Ok (b ∷ bs)) (subst (λ (l : List A). Each P l (Ok (b ∷ bs))) (sym split) (b, here, (bs, e, refl))))
    go (Err x) e = so_far.turn (Err x) (subst (λ (l : List A). Each P l (Err x)) (sym split) (inr (b, here, inl e)))

pub refused : {A B : Type 0} (P : A → Outcome B) (all now later : List A) (a : A) (done : List B) (x : Refusal) → now ≡ a ∷ later → P a (Err x)
    → AreDoneTo P all now done → Each P all (Err x)
refused {A} {B} P all now later a done x split here so_far = so_far.turn (Err x) (subst (λ (l : List A). Each P l (Err x)) (sym split) (inl here))

pub at_last : {A B : Type 0} (P : A → Outcome B) (all now : List A) (done : List B) → now ≡ [] → AreDoneTo P all now done → Each P all (Ok done)
at_last {A} {B} P all now done none so_far =
    subst (λ (l : List B). Each P all (Ok l)) (append-nil done) (so_far.turn (Ok []) (subst (λ (l : List A). Each P l (Ok [])) (sym none) refl))
