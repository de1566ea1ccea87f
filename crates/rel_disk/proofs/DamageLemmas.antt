-- Calls that did nothing, and a write in two parts.
use Rattle.std.proofs.Common.{◌≡◌, ◌⊎◌, inl, inr, ℕ, ◌+◌, ◌-◌, ◌<◌, ◌≤◌, min, List, [], ◌++◌, length, take, drop, sym, ap, ◌∙◌, arith, append_assoc, take-append-drop, length-take, length-drop}
use Rattle.std.proofs.lemmas.Bool.{cases_lt}
use Rattle.std.proofs.lemmas.List.{append-nil, take_all, drop_all, drop-drop, take_at, take_rest}
use Rattle.rel_disk.specs.Damage.{overwritten, Torn, Cut, Follows}

-- a write that did nothing
pub torn_same : (at n : ℕ) (bytes : List ℕ) → Torn at n bytes bytes
torn_same at n bytes = record {
  middle = take n (drop at bytes);
  tail = [];
  long = length-take n (drop at bytes) ∙ ap (λ (k : ℕ). min n k) (length-drop at bytes);
  is = sym (
      ap (λ (l : List ℕ). take at bytes ++ (take n (drop at bytes) ++ l)) (append-nil (drop (at + n) bytes) ∙ sym (drop-drop n at bytes))
      ∙ ap (λ (l : List ℕ). take at bytes ++ l) (take-append-drop n (drop at bytes))
      ∙ take-append-drop at bytes);
}

-- a cut that did nothing
pub cut_same : (n : ℕ) (bytes : List ℕ) → Cut n bytes bytes
cut_same n bytes = record { tail = drop n bytes; is = sym (take-append-drop n bytes) }

-- the images after a call that did nothing are those before it
pub follows_torn : (at n : ℕ) (images : List ℕ → Type 0) → Follows (Torn at n) images images
follows_torn at n images c image = (c, image, torn_same at n c)

pub follows_cut : (n : ℕ) (images : List ℕ → Type 0) → Follows (Cut n) images images
follows_cut n images c image = (c, image, cut_same n c)

-- a write over what is there, and then past the end
pub overwritten-append : (at inside : ℕ) (bytes old : List ℕ) → at ≤ length old → inside ≡ min (length bytes) (length old - at)
    → overwritten at (take inside bytes) old ++ drop inside bytes ≡ overwritten at bytes old
overwritten-append at inside bytes old within is =
    append_assoc (take at old) (take inside bytes ++ drop (at + length (take inside bytes)) old) (drop inside bytes)
    ∙ ap (λ (l : List ℕ). take at old ++ l) (append_assoc (take inside bytes) (drop (at + length (take inside bytes)) old) (drop inside bytes) ∙ parts (cases_lt (length bytes) (length old - at)))
  where
    size : length (take inside bytes) ≡ inside
    size = length-take inside bytes ∙ omega arith

    parts : (length bytes < length old - at) ⊎ (length old - at ≤ length bytes)
        → take inside bytes ++ (drop (at + length (take inside bytes)) old ++ drop inside bytes) ≡ bytes ++ drop (at + length bytes) old
    parts (inl before_end) =
        let all : take inside bytes ≡ bytes = take_all inside bytes (omega arith) in
        let none : drop inside bytes ≡ [] = drop_all inside bytes (omega arith) in
        ap (λ (l : List ℕ). l ++ (drop (at + length l) old ++ drop inside bytes)) all
        ∙ ap (λ (l : List ℕ). bytes ++ (drop (at + length bytes) old ++ l)) none
        ∙ ap (λ (l : List ℕ). bytes ++ l) (append-nil (drop (at + length bytes) old))
    parts (inr to_end) =
        let none : drop (at + length (take inside bytes)) old ≡ [] = drop_all _ old (omega (arith, size)) in
        let nothing : drop (at + length bytes) old ≡ [] = drop_all _ old (omega arith) in
        ap (λ (l : List ℕ). take inside bytes ++ (l ++ drop inside bytes)) none
        ∙ take-append-drop inside bytes
        ∙ sym (append-nil bytes)
        ∙ ap (λ (l : List ℕ). bytes ++ l) (sym nothing)

-- the same of a list that is put back in its place and then appended to
pub overwritten-in_two : (at inside n : ℕ) (bytes old seen part all : List ℕ) → at ≤ length old → inside ≡ min (length bytes) (length old - at) → length part ≡ n → seen ≡ old
    → part ≡ overwritten at (take inside bytes) seen → all ≡ take n (part ++ drop (length part) old) ++ take (length bytes - inside) (drop inside bytes)
    → all ≡ overwritten at bytes old
overwritten-in_two at inside n bytes old seen part all within is counts same written appended =
    appended
    ∙ ap (λ (l : List ℕ). l ++ take (length bytes - inside) (drop inside bytes)) (take_at part (drop (length part) old) n counts)
    ∙ ap (λ (l : List ℕ). part ++ l) (take_rest bytes inside)
    ∙ ap (λ (l : List ℕ). l ++ drop inside bytes) (written ∙ ap (λ (l : List ℕ). overwritten at (take inside bytes) l) same)
    ∙ overwritten-append at inside bytes old within is
