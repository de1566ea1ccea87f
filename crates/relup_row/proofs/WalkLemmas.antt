-- What is made of a list that is gone through item by item.
use Rattle.std.proofs.Common.{◌≡◌, refl, sym, ap, ap₂, ◌∙◌, ℕ, ◌+◌, ◌<◌, ◌≤◌, List, [], ◌∷◌, ◌++◌, length, map, take, get_or, Option, None, Some, option_to_list}
use Rattle.std.specs.List.{AllZip, cons_option}
use Rattle.std.proofs.lemmas.List.{map_push, take_more, take_all}

-- What is made of the items before a place, with what is made of the one there.
pub one_made : {A B F : Type 0} (of : B → F) (form : A → F) (items : List A) (i : ℕ) (item : A) (made new : List B) (b : B) → i < length items → item ≡ get_or items i item
    → of b ≡ form item → new ≡ made ++ (b ∷ []) → map of made ≡ map form (take i items) → map of new ≡ map form (take (i + 1) items)
one_made of form items i item made new b within at is grown so_far =
    ap (map of) grown
    ∙ (map_push of made b
    ∙ (ap₂ (λ fs f. fs ++ (f ∷ [])) so_far (is ∙ ap form at)
    ∙ (sym (map_push form (take i items) (get_or items i item)) ∙ ap (map form) (sym (take_more items i item within)))))

pub all_made : {A B F : Type 0} (of : B → F) (form : A → F) (items : List A) (i : ℕ) (made : List B) → length items ≤ i → map of made ≡ map form (take i items) → map of made ≡ map form items
all_made of form items i made past so_far = so_far ∙ ap (map form) (take_all i items past)

-- what a step may give, before what follows
pub before_rest : {B : Type 0} (o : Option B) (bs : List B) → cons_option o bs ≡ option_to_list o ++ bs
before_rest None bs = refl
before_rest (Some b) bs = refl

-- Copies stand for what is copied.
pub all_cloned : {A B : Type 0} (of : A → B) (items copies : List A) → AllZip (λ x y. of y ≡ of x) items copies → map of copies ≡ map of items
all_cloned of [] [] all = refl
all_cloned of [] (y ∷ ys) all = absurd all
all_cloned of (x ∷ xs) [] all = absurd all
all_cloned of (x ∷ xs) (y ∷ ys) all = ap₂ (λ b bs. b ∷ bs) all.0 (all_cloned of xs ys all.1)
