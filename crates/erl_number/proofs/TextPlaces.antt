-- Bytes and characters of a text, at their places.
use Rattle.std.proofs.Common.{inl, inr, ◌≡◌, ℕ, ◌+◌, ◌-◌, ◌<◌, ◌≤◌, ◌/◌, Bool, true, false, ◌&&◌, nat_lt, List, [], ◌∷◌, ◌++◌, length, take, drop, get_or, slice_get, Some, refl, sym, ◌∙◌, ap, subst, arith, append-nil, append_assoc}
use lib.Utf8.{encode, scalar, scalars, scalar_cases}
use Rattle.std.proofs.Math.Seq.{take-append_seam}
use Rattle.std.proofs.lemmas.List.{length-append, length-drop, drop_more, drop-append-le, get_or_append_left}
use Rattle.std.proofs.lemmas.Bool.Decides.{nat_tests}
use Rattle.std.proofs.lemmas.Str.{chars-encodes, scalars-chars, chars_past_char, IsCharBoundary-past_char, length-encode, len_utf8_bounds, IsCharBoundary-after_ascii}
use Rattle.std.proofs.lemmas.Option.{slice_get_within, get_or_from_slice_get}
use Rattle.std.specs.Char.{IsScalar, len_utf8}
use Rattle.std.specs.Str.{IsUtf8, IsCharBoundary, chars, continuation_len}
use Rattle.erl_number.specs.Escapes.{itself, first_of}
use Rattle.erl_number.specs.Escapes.Character.{means}
use Rattle.erl_number.specs.Views.{seal}
use Rattle.erl_number.proofs.Parts.{byte_valid}

-- after a byte that is a character of its own the text may be cut
pub byte_cut : (valid : List ℕ) (b : Bool) (at x : ℕ) → IsUtf8 valid → slice_get (valid ++ seal b) at ≡ Some x → x < 128 → IsCharBoundary valid (at + 1)
byte_cut valid b at x utf8 e small =
    let byte : get_or (valid ++ seal b) at 0 ≡ x = get_or_from_slice_get (valid ++ seal b) at x 0 e in
    let (within, same) = byte_valid valid b at (slice_get_within (valid ++ seal b) at x e) (omega arith) in
    IsCharBoundary-after_ascii valid at utf8 within (omega (arith, same, byte))

pub byte_within : (valid : List ℕ) (b : Bool) (at x : ℕ) → slice_get (valid ++ seal b) at ≡ Some x → x ≤ 255 → at < length valid
byte_within valid b at x e small =
    let byte : get_or (valid ++ seal b) at 0 ≡ x = get_or_from_slice_get (valid ++ seal b) at x 0 e in
    let (within, same) = byte_valid valid b at (slice_get_within (valid ++ seal b) at x e) (omega arith) in
    within

-- the first byte of a character says how many follow
continuation_len-encode : (c : ℕ) → c < 0x11_0000 → continuation_len (get_or (encode c) 0 0) + 1 ≡ length (encode c)
unfolding encode
continuation_len-encode c small = go (nat_lt c 128) (nat_lt c 2048) (nat_lt c 65536) refl refl refl
  where
    go : (x y z : Bool) → nat_lt c 128 ≡ x → nat_lt c 2048 ≡ y → nat_lt c 65536 ≡ z → continuation_len (get_or (encode c) 0 0) + 1 ≡ length (encode c)
    go true y z e f g = rw (e, e) refl
    go false true z e f g =
        let high : nat_lt (192 + c / 64) 128 ≡ false = grind (arith, nat_tests) in
        let two : nat_lt (192 + c / 64) 224 ≡ true = grind (arith, nat_tests) in
        rw (e, f, high, two) refl
    go false false true e f g =
        let high : nat_lt (224 + c / 4096) 128 ≡ false = grind (arith, nat_tests) in
        let above : nat_lt (224 + c / 4096) 224 ≡ false = grind (arith, nat_tests) in
        let three : nat_lt (224 + c / 4096) 240 ≡ true = grind (arith, nat_tests) in
        rw (e, f, g, high, above, three) refl
    go false false false e f g =
        let high : nat_lt (240 + c / 262144) 128 ≡ false = grind (arith, nat_tests) in
        let above : nat_lt (240 + c / 262144) 224 ≡ false = grind (arith, nat_tests) in
        let four : nat_lt (240 + c / 262144) 240 ≡ false = grind (arith, nat_tests) in
        rw (e, f, g, high, above, four) refl

scalar_small : (c : ℕ) → IsScalar c → c < 0x11_0000
scalar_small c e = elim (scalar_cases c e) [ inl low ↦ omega arith | inr high ↦ high.1 ]

-- the bytes of a character, and more, as the character itself
itself-encode : (c x : ℕ) (xs rest : List ℕ) → IsScalar c → x ∷ xs ≡ encode c ++ rest → itself x xs ≡ means c (length (encode c))
itself-encode c x xs rest s e =
    let (some, long) = len_utf8_bounds c in
    let first : x ≡ get_or (encode c) 0 0 = ap (λ ys. get_or ys 0 0) e ∙ get_or_append_left (encode c) rest 0 0 (omega (arith, length-encode c)) in
    let size : continuation_len x + 1 ≡ length (encode c) = ap (λ y. continuation_len y + 1) first ∙ continuation_len-encode c (scalar_small c s) in
    let bytes : take (continuation_len x + 1) (x ∷ xs) ≡ encode c = (λ j. take (size j) (e j)) ∙ take-append_seam (encode c) rest in
    let one : chars (encode c) ≡ c ∷ [] = ap chars (sym (append-nil (encode c))) ∙ chars-encodes (c ∷ []) (rw s refl) in
    (λ j. first_of (chars (bytes j)) (size j)) ∙ ap (λ cs. first_of cs (length (encode c))) one

scalar_first : (c : ℕ) (bs rest : List ℕ) → IsUtf8 bs → bs ≡ encode c ++ rest → IsScalar c
scalar_first c bs rest utf8 e = left (scalar c) (scalars (chars rest)) (sym (ap scalars (chars_past_char bs rest c utf8 e)) ∙ scalars-chars bs utf8)
  where
    left : (x y : Bool) → (x && y) ≡ true → x ≡ true
    left true y e = refl
    left false y e = e

-- the place after a character, counted from the end
pub place_behind : (valid : List ℕ) (at c : ℕ) (rest : List ℕ) → at < length valid → drop at valid ≡ encode c ++ rest → length valid - length rest ≡ at + len_utf8 c
place_behind valid at c rest l e =
    let long : length (drop at valid) ≡ length (encode c) + length rest = ap length e ∙ length-append (encode c) rest in
    omega (arith, length-drop at valid, length-encode c)

-- the character that begins at a place of a text
pub itself_at : (valid : List ℕ) (b : Bool) (at c : ℕ) (rest : List ℕ) → at < length valid → IsUtf8 (drop at valid) → drop at valid ≡ encode c ++ rest
    → itself (get_or (valid ++ seal b) at 0) (drop (at + 1) (valid ++ seal b)) ≡ means c ((length valid - length rest) - at)
itself_at valid b at c rest l utf8 e =
    let within : at < length (valid ++ seal b) = omega (arith, length-append valid (seal b)) in
    let bytes : get_or (valid ++ seal b) at 0 ∷ drop (at + 1) (valid ++ seal b) ≡ encode c ++ (rest ++ seal b) =
    sym (drop_more (valid ++ seal b) at 0 within) ∙ (drop-append-le at valid (seal b) (omega arith) ∙ (ap (λ ys. ys ++ seal b) e ∙ append_assoc (encode c) rest (seal b))) in
    let size : length (encode c) ≡ (length valid - length rest) - at = omega (arith, place_behind valid at c rest l e, length-encode c) in
    itself-encode c (get_or (valid ++ seal b) at 0) (drop (at + 1) (valid ++ seal b)) (rest ++ seal b) (scalar_first c (drop at valid) rest utf8 e) bytes ∙ ap (means c) size

-- after it the text may be cut
pub character_cut : (valid : List ℕ) (at c : ℕ) (rest : List ℕ) → at < length valid → IsUtf8 (drop at valid) → drop at valid ≡ encode c ++ rest
    → (at < length valid - length rest) × IsCharBoundary valid (length valid - length rest)
character_cut valid at c rest l utf8 e =
    let place = place_behind valid at c rest l e in
    let (some, long) = len_utf8_bounds c in
    ((omega arith), subst (λ to. IsCharBoundary valid to) (sym place) (IsCharBoundary-past_char valid rest at c (omega arith) utf8 e))
