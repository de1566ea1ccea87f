-- Texts with commas between them.
use Rattle.std.proofs.Common.{◌≡◌, ℕ, ◌+◌, ◌<◌, ◌≤◌, zero, suc, List, [], ◌∷◌, ◌++◌, length, map, get_or, take, if◌then◌else◌, Result, Ok, Err, OnOk, is_ok, refl, ap, sym, ◌∙◌, append_assoc, append-nil, arith}
use Rattle.std.proofs.lemmas.List.{take_all}
use Rattle.std.proofs.lemmas.List.{take_more, map-append, length-map, length-take}
use Rattle.erl_term.specs.declared.term.Term.{Term}
use Rattle.erl_term.specs.Value.{value_of, members_of}
use Rattle.erl_term.specs.Printing.{with_commas, text_of, texts_of}

-- one more text, after others
pub with_commas-more : (t : List ℕ) (ts : List (List ℕ)) (s : List ℕ) → with_commas ((t ∷ ts) ++ s ∷ []) ≡ with_commas (t ∷ ts) ++ 44 ∷ s
with_commas-more t [] s = refl
with_commas-more t (u ∷ us) s = ap (λ x. t ++ (44 ∷ x)) (with_commas-more u us s) ∙ sym (append_assoc t (44 ∷ with_commas (u ∷ us)) (44 ∷ s))

more : (ts : List (List ℕ)) (s : List ℕ) → 0 < length ts → with_commas (ts ++ s ∷ []) ≡ with_commas ts ++ 44 ∷ s
more [] s h = absurd (omega arith)
more (t ∷ ts) s h = with_commas-more t ts s

-- the texts with that of the next member
with_commas-next : {X : Type 0} (f : X → List ℕ) (xs : List X) (i : ℕ) (d : X) → i < length xs → 0 < i →
    with_commas (map f (take (i + 1) xs)) ≡ with_commas (map f (take i xs)) ++ 44 ∷ f (get_or xs i d)
with_commas-next f xs i d h e =
    let some : 0 < length (map f (take i xs)) = simp (length-map, length-take) (omega arith) in
    ap with_commas (ap (map f) (take_more xs i d h) ∙ map-append f (take i xs) (get_or xs i d ∷ [])) ∙ more (map f (take i xs)) (f (get_or xs i d)) some

-- the texts of terms one after another
pub texts_of-members_of : (ts : List Term) → texts_of (members_of ts) ≡ map (λ t. text_of (value_of t)) ts
texts_of-members_of [] = refl
texts_of-members_of (t ∷ ts) = ap (λ x. text_of (value_of t) ∷ x) (texts_of-members_of ts)

-- the first text is written out of the first member
pub prints-first : {X : Type 0} (f : X → List ℕ) (xs : List X) (i : ℕ) (d : X) → i < length xs → i ≡ 0 → (old out mid new : List ℕ) →
    out ≡ old ++ with_commas (map f (take i xs)) → mid ≡ out → new ≡ mid ++ f (get_or xs i d) → new ≡ old ++ with_commas (map f (take (i + 1) xs))
prints-first f [] i d h z old out mid new e m n = absurd (omega arith)
prints-first f (x ∷ xs) zero d h z old out mid new e m n = n ∙ ap (λ y. y ++ f x) (m ∙ e ∙ append-nil old)
prints-first f (x ∷ xs) (suc i) d h z old out mid new e m n = absurd (omega arith)

-- the next text is written out of the next member, after a comma
pub prints-next : {X : Type 0} (f : X → List ℕ) (xs : List X) (i : ℕ) (d : X) → i < length xs → 0 < i → (old out mid new : List ℕ) →
    out ≡ old ++ with_commas (map f (take i xs)) → mid ≡ out ++ 44 ∷ [] → new ≡ mid ++ f (get_or xs i d) → new ≡ old ++ with_commas (map f (take (i + 1) xs))
prints-next f xs i d h z old out mid new e m n =
    let some = with_commas (map f (take i xs)) in
    let text = f (get_or xs i d) in
    n ∙ ap (λ y. y ++ text) m ∙ append_assoc out (44 ∷ []) text ∙ ap (λ y. y ++ 44 ∷ text) e ∙ append_assoc old some (44 ∷ text) ∙ sym (ap (λ y. old ++ y) (with_commas-next f xs i d h z))

-- all the texts are written, and then the end
pub prints-end : {X T E : Type 0} (r : Result T E) (f : X → List ℕ) (xs : List X) (i : ℕ) → length xs ≤ i → (begin end old mid out new : List ℕ) →
    mid ≡ old ++ begin → out ≡ mid ++ with_commas (map f (take i xs)) → new ≡ (if is_ok r then out ++ end else out)
    → OnOk r (new ≡ old ++ (begin ++ (with_commas (map f xs) ++ end)))
prints-end (Ok v) f xs i h begin end old mid out new m o n =
    let texts = with_commas (map f xs) in
    let all : out ≡ (old ++ begin) ++ texts = o ∙ (λ j. m j ++ with_commas (map f (take_all i xs h j))) in
    n ∙ ap (λ y. y ++ end) all ∙ append_assoc (old ++ begin) texts end ∙ append_assoc old begin (texts ++ end)
prints-end (Err e) f xs i h begin end old mid out new m o n = tt

-- numbers that fit bytes are small, whatever stands after them
pub all_bytes : (bs : List ℕ) → ((i : ℕ) → get_or bs i 0 < 256) → (k d : ℕ) → k < length bs → get_or bs k d < 256
all_bytes [] h k d l = absurd (omega arith)
all_bytes (b ∷ bs) h zero d l = h zero
all_bytes (b ∷ bs) h (suc k) d l = all_bytes bs (λ i. h (suc i)) k d (omega arith)
