-- What is left of a script.
use Rattle.std.proofs.Common.{◌≡◌, refl, ap, Bool, true, false, cond, List, [], ◌∷◌, map}
use Rattle.std.specs.Prelude.{filter}

-- What is left of some items stands for what is left of those that they stand for.
pub left_of : {A B : Type 0} (f : A → B) (p : B → Bool) (xs : List A) → map f (filter (λ x. p (f x)) xs) ≡ filter p (map f xs)
left_of f p [] = refl
left_of {A} {B} f p (x ∷ xs) = go (p (f x)) (left_of f p xs)
  where
    go : (b : Bool) → map f (filter (λ y. p (f y)) xs) ≡ filter p (map f xs)
        → map f (cond b (x ∷ filter (λ y. p (f y)) xs) (filter (λ y. p (f y)) xs)) ≡ cond b (f x ∷ filter p (map f xs)) (filter p (map f xs))
    go true later = ap (λ ys. f x ∷ ys) later
    go false later = later

-- what stands for what stands for some items
pub twice : {A B C : Type 0} (f : A → B) (g : B → C) (xs : List A) → map (λ x. g (f x)) xs ≡ map g (map f xs)
twice f g [] = refl
twice f g (x ∷ xs) = ap (λ ys. g (f x) ∷ ys) (twice f g xs)

-- what is left of a row that begins with one item more
pub one_kept : {A : Type 0} (p : A → Bool) (x : A) (xs : List A) → p x ≡ true → filter p (x ∷ xs) ≡ x ∷ filter p xs
one_kept p x xs is = ap (λ b. cond b (x ∷ filter p xs) (filter p xs)) is

pub one_left_out : {A : Type 0} (p : A → Bool) (x : A) (xs : List A) → p x ≡ false → filter p (x ∷ xs) ≡ filter p xs
one_left_out p x xs is = ap (λ b. cond b (x ∷ filter p xs) (filter p xs)) is
