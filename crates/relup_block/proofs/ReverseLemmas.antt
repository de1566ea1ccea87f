-- What stands for a list stands for its reverse in reverse.
use Rattle.std.proofs.Common.{◌≡◌, refl, ap, sym, ◌∙◌, List, [], ◌∷◌, ◌++◌, map, reverse}
use Rattle.std.proofs.lemmas.List.{map-append, reverse-append}

map_reverse : {A B : Type 0} (f : A → B) (xs : List A) → map f (reverse xs) ≡ reverse (map f xs)
map_reverse f [] = refl
map_reverse f (x ∷ xs) =
    ap (map f) (reverse-append (x ∷ []) xs)
    ∙ (map-append f (reverse xs) (x ∷ [])
    ∙ (ap (λ ys. ys ++ (f x ∷ [])) (map_reverse f xs)
    ∙ sym (reverse-append (f x ∷ []) (map f xs))))

pub backwards : {A B : Type 0} (f : A → B) (xs ys : List A) (zs : List B) → ys ≡ reverse xs → map f xs ≡ zs → map f ys ≡ reverse zs
backwards f xs ys zs turned same = ap (map f) turned ∙ (map_reverse f xs ∙ ap reverse same)
