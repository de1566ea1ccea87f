-- Beginnings of one list.
use Rattle.std.proofs.Common.{◌≡◌, ◌≤◌, List, [], ◌∷◌, ◌++◌, length, refl, ap, sym, ◌∙◌, arith, append_assoc, append-nil}
use mathlib.Core.List.{IsPrefix}

pub prefix_self : {A : Type 0} (xs : List A) → IsPrefix xs xs
prefix_self xs = ([], append-nil xs)

pub prefix_more : {A : Type 0} (xs ys : List A) → IsPrefix xs (xs ++ ys)
prefix_more xs ys = (ys, refl)

pub prefix_trans : {A : Type 0} (xs ys zs : List A) → IsPrefix xs ys → IsPrefix ys zs → IsPrefix xs zs
prefix_trans xs ys zs p q = (p.0 ++ q.0, sym (append_assoc xs p.0 q.0) ∙ (ap (λ w. w ++ q.0) p.1 ∙ q.1))

-- of two beginnings of one list the shorter begins the longer
pub prefix_shorter : {A : Type 0} (xs ys zs : List A) → IsPrefix xs zs → IsPrefix ys zs → length xs ≤ length ys → IsPrefix xs ys
prefix_shorter [] ys zs p q le = (ys, refl)
prefix_shorter (x ∷ xs) [] zs p q le = absurd (omega arith)
prefix_shorter (x ∷ xs) (y ∷ ys) [] p q le = absurd (cc (p.1))
prefix_shorter (x ∷ xs) (y ∷ ys) (z ∷ zs) p q le =
    let heads : x ≡ y = cc (p.1, q.1) in
    let rest = prefix_shorter xs ys zs (p.0, cc (p.1)) (q.0, cc (q.1)) (omega arith) in
    (rest.0, cc (heads, rest.1))

-- two lists that begin each other are one
pub prefix_both : {A : Type 0} (xs ys : List A) → IsPrefix xs ys → IsPrefix ys xs → xs ≡ ys
prefix_both [] [] p q = refl
prefix_both [] (y ∷ ys) p q = absurd (cc (q.1))
prefix_both (x ∷ xs) [] p q = absurd (cc (p.1))
prefix_both (x ∷ xs) (y ∷ ys) p q =
    let heads : x ≡ y = cc (p.1) in
    let rest = prefix_both xs ys (p.0, cc (p.1)) (q.0, cc (q.1)) in cc (heads, rest)
