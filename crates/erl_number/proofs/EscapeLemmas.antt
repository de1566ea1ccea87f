-- What stands after a backslash, byte by byte.
use Rattle.std.proofs.Common.{◌≡◌, ℕ, ◌+◌, ◌*◌, ◌-◌, ◌<◌, ◌≤◌, ◌^◌, ◌%◌, Bool, true, false, ◌&&◌, ◌||◌, if◌then◌else◌, nat_lt, nat_le, eqb, List, [], ◌∷◌, length, drop, get_or, Option, Some, None, slice_get, refl, sym, ◌∙◌, ap, arith}
use Rattle.std.specs.Char.{is_digit, digit_value}
use Rattle.std.specs.Str.Parse.{digits_value}
use Rattle.std.proofs.lemmas.List.{drop-drop}
use Rattle.std.proofs.lemmas.Bool.Decides.{nat_tests}
use Rattle.std.proofs.lemmas.Option.{get_or_from_slice_get}
use Rattle.erl_number.specs.Escapes.{Character, leading, is_in, with_next, scalar, octal, braced, paired, hexadecimal, caret, letter_character, by_name, escape}
use Rattle.erl_number.specs.Escapes.Character.{means, senseless, unfinished}
use Rattle.erl_number.specs.Numbers.{spelled_by}
use Rattle.erl_number.specs.Scanned.{byte_in, digit_in, digits_here, capped}
use Rattle.erl_number.proofs.Runs.{drop_some, drop_none}
use Rattle.erl_number.proofs.DigitRows.{slice_get_byte, bare_digits, digit_is_bare}

-- what the next byte decides
pub next_none : (bytes : List ℕ) (at : ℕ) (decide : ℕ → List ℕ → Character) → byte_in (slice_get bytes at) ≡ None → with_next (drop at bytes) decide ≡ unfinished
next_none bytes at decide none = go (slice_get bytes at) refl none
  where
    over : (b : Bool) (x : ℕ) (c : Character) → (if b then None else Some x) ≡ None → (if b then unfinished else c) ≡ unfinished
    over true x c e = refl
    over false x c e = absurd cc

    go : (o : Option ℕ) → slice_get bytes at ≡ o → byte_in o ≡ None → with_next (drop at bytes) decide ≡ unfinished
    go None e none = ap (λ xs. with_next xs decide) (drop_none bytes at e)
    go (Some x) e none = ap (λ xs. with_next xs decide) (drop_some bytes at x e) ∙ over (nat_lt 255 x) x (decide x (drop (at + 1) bytes)) none

pub next_some : (bytes : List ℕ) (at x : ℕ) (decide : ℕ → List ℕ → Character) → byte_in (slice_get bytes at) ≡ Some x
    → with_next (drop at bytes) decide ≡ decide x (drop (at + 1) bytes)
next_some bytes at x decide e =
    let byte = slice_get_byte (slice_get bytes at) x e in
    ap (λ xs. with_next xs decide) (drop_some bytes at x byte) ∙ under (nat_lt 255 x) (decide x (drop (at + 1) bytes)) (sym (ap byte_in byte) ∙ e)
  where
    under : (b : Bool) (c : Character) → (if b then None else Some x) ≡ Some x → (if b then unfinished else c) ≡ c
    under true c e = absurd cc
    under false c e = refl

-- digits at a place
pub record IsDigitAt (base : ℕ) (bytes : List ℕ) (at d : ℕ) : Type 0 where
  pub byte : ℕ
  pub stands : slice_get bytes at ≡ Some byte
  pub digit : is_digit byte base ≡ true
  pub value : digit_value byte ≡ d

pub digit_at : (base : ℕ) (bytes : List ℕ) (at d : ℕ) → digit_in base (slice_get bytes at) ≡ Some d → IsDigitAt base bytes at d
digit_at base bytes at d e = go (slice_get bytes at) refl e
  where
    inside : (b : Bool) (x : ℕ) → is_digit x base ≡ b → (if b then Some (digit_value x) else None) ≡ Some d → slice_get bytes at ≡ Some x → IsDigitAt base bytes at d
    inside true x t e s = record { byte = x; stands = s; digit = t; value = (cc) }
    inside false x t e s = absurd cc

    go : (o : Option ℕ) → slice_get bytes at ≡ o → digit_in base o ≡ Some d → IsDigitAt base bytes at d
    go None s e = absurd cc
    go (Some x) s e = inside (is_digit x base) x refl e s

-- no digit at a place
pub no_digit : (base : ℕ) (bytes : List ℕ) (at x : ℕ) → digit_in base (slice_get bytes at) ≡ None → slice_get bytes at ≡ Some x → is_digit x base ≡ false
no_digit base bytes at x e s = go (is_digit x base) refl (sym (ap (digit_in base) s) ∙ e)
  where
    go : (b : Bool) → is_digit x base ≡ b → (if b then Some (digit_value x) else None) ≡ None → is_digit x base ≡ false
    go true t e = absurd cc
    go false t e = t

digits_end : (base : ℕ) (bytes : List ℕ) (at : ℕ) → digit_in base (slice_get bytes at) ≡ None → leading (λ c. is_digit c base) (drop at bytes) ≡ []
digits_end base bytes at e = go (slice_get bytes at) refl
  where
    go : (o : Option ℕ) → slice_get bytes at ≡ o → leading (λ c. is_digit c base) (drop at bytes) ≡ []
    go None s = ap (leading (λ c. is_digit c base)) (drop_none bytes at s)
    go (Some x) s = ap (leading (λ c. is_digit c base)) (drop_some bytes at x s) ∙ rw (no_digit base bytes at x e s) refl

digits_more : (base : ℕ) (bytes : List ℕ) (at d : ℕ) (i : IsDigitAt base bytes at d) → leading (λ c. is_digit c base) (drop at bytes) ≡ i.byte ∷ leading (λ c. is_digit c base) (drop (at + 1) bytes)
digits_more base bytes at d i = ap (leading (λ c. is_digit c base)) (drop_some bytes at i.byte i.stands) ∙ rw (i.digit) refl

abbrev octal_digits : List ℕ → List ℕ
octal_digits xs = leading (λ c. is_digit c 8) xs

-- one, two and three octal digits
pub octal_one : (bytes : List ℕ) (at a code size : ℕ) → digit_in 8 (slice_get bytes at) ≡ Some a → digit_in 8 (slice_get bytes (at + 1)) ≡ None
    → code ≡ a → size ≡ 1 → scalar code size ≡ octal (drop at bytes)
octal_one bytes at a code size ea none is one =
    let i = digit_at 8 bytes at a ea in
    let row : octal_digits (drop at bytes) ≡ i.byte ∷ [] = digits_more 8 bytes at a i ∙ ap (λ xs. i.byte ∷ xs) (digits_end 8 bytes (at + 1) none) in
    let value : code ≡ digits_value 8 (i.byte ∷ []) = omega (arith, i.value) in
    rw row (λ j. scalar (value j) (one j))

pub octal_two : (bytes : List ℕ) (at a b code size : ℕ) → digit_in 8 (slice_get bytes at) ≡ Some a → digit_in 8 (slice_get bytes (at + 1)) ≡ Some b
    → digit_in 8 (slice_get bytes (at + 2)) ≡ None → code ≡ a * 8 + b → size ≡ 2 → scalar code size ≡ octal (drop at bytes)
octal_two bytes at a b code size ea eb none is two =
    let i = digit_at 8 bytes at a ea in
    let k = digit_at 8 bytes (at + 1) b eb in
    let place : (at + 1) + 1 ≡ at + 2 = omega arith in
    let row : octal_digits (drop at bytes) ≡ i.byte ∷ k.byte ∷ [] =
    digits_more 8 bytes at a i ∙ ap (λ xs. i.byte ∷ xs) (digits_more 8 bytes (at + 1) b k
    ∙ ap (λ xs. k.byte ∷ xs) (ap (λ p. octal_digits (drop p bytes)) place ∙ digits_end 8 bytes (at + 2) none)) in
    let value : code ≡ digits_value 8 (i.byte ∷ k.byte ∷ []) = omega (arith, i.value, k.value) in
    rw row (λ j. scalar (value j) (two j))

pub octal_three : (bytes : List ℕ) (at a b c code size : ℕ) → digit_in 8 (slice_get bytes at) ≡ Some a → digit_in 8 (slice_get bytes (at + 1)) ≡ Some b
    → digit_in 8 (slice_get bytes (at + 2)) ≡ Some c → code ≡ (a * 8 + b) * 8 + c → size ≡ 3 → scalar code size ≡ octal (drop at bytes)
octal_three bytes at a b c code size ea eb ec is three =
    let i = digit_at 8 bytes at a ea in
    let k = digit_at 8 bytes (at + 1) b eb in
    let m = digit_at 8 bytes (at + 2) c ec in
    let place : (at + 1) + 1 ≡ at + 2 = omega arith in
    let row : octal_digits (drop at bytes) ≡ i.byte ∷ k.byte ∷ m.byte ∷ octal_digits (drop (at + 2 + 1) bytes) =
    digits_more 8 bytes at a i ∙ ap (λ xs. i.byte ∷ xs) (digits_more 8 bytes (at + 1) b k
    ∙ ap (λ xs. k.byte ∷ xs) (ap (λ p. octal_digits (drop p bytes)) place ∙ digits_more 8 bytes (at + 2) c m)) in
    let value : code ≡ digits_value 8 (i.byte ∷ k.byte ∷ m.byte ∷ []) = omega (arith, i.value, k.value, m.value) in
    rw row (λ j. scalar (value j) (three j))

-- after `x`
pub hexadecimal_end : (bytes : List ℕ) (at : ℕ) → byte_in (slice_get bytes (at + 1)) ≡ None → unfinished ≡ hexadecimal (drop (at + 1) bytes)
hexadecimal_end bytes at e = sym (next_none bytes (at + 1) _ e)

pub hexadecimal_brace : (bytes : List ℕ) (at x : ℕ) → byte_in (slice_get bytes (at + 1)) ≡ Some x → x ≡ 123 → braced (drop (at + 2) bytes) ≡ hexadecimal (drop (at + 1) bytes)
hexadecimal_brace bytes at x e is =
    let place : at + 2 ≡ (at + 1) + 1 = omega arith in
    ap (λ p. braced (drop p bytes)) place ∙ sym (next_some bytes (at + 1) x _ e ∙ rw is refl)

pub hexadecimal_pair : (bytes : List ℕ) (at x d : ℕ) → byte_in (slice_get bytes (at + 1)) ≡ Some x → digit_in 16 (slice_get bytes (at + 1)) ≡ Some d
    → paired (get_or bytes (at + 1) 0) (drop (at + 2) bytes) ≡ hexadecimal (drop (at + 1) bytes)
hexadecimal_pair bytes at x d e digit =
    let i = digit_at 16 bytes (at + 1) d digit in
    let byte = slice_get_byte (slice_get bytes (at + 1)) x e in
    let same : i.byte ≡ x = cc in
    let passes : is_digit x 16 ≡ true = ap (λ y. is_digit y 16) (sym same) ∙ i.digit in
    let first : get_or bytes (at + 1) 0 ≡ x = get_or_from_slice_get bytes (at + 1) x 0 byte in
    let place : at + 2 ≡ (at + 1) + 1 = omega arith in
    (λ j. paired (first j) (drop (place j) bytes)) ∙ sym (next_some bytes (at + 1) x _ e ∙ rw (no_brace x passes, passes) refl)
  where
    no_brace : (y : ℕ) → is_digit y 16 ≡ true → eqb y 123 ≡ false
    no_brace y p = go (eqb y 123) refl
      where
        go : (b : Bool) → eqb y 123 ≡ b → eqb y 123 ≡ false
        go false t = t
        go true t = let is : y ≡ 123 = grind (arith, nat_tests) in absurd (brace (sym (ap (λ z. is_digit z 16) is) ∙ p))
          where
            brace : false ≡ true → ⊥
            brace e = cc

pub hexadecimal_other : (bytes : List ℕ) (at x : ℕ) → byte_in (slice_get bytes (at + 1)) ≡ Some x → eqb x 123 ≡ false → digit_in 16 (slice_get bytes (at + 1)) ≡ None
    → senseless ≡ hexadecimal (drop (at + 1) bytes)
hexadecimal_other bytes at x e other none =
    let fails = no_digit 16 bytes (at + 1) x none (slice_get_byte (slice_get bytes (at + 1)) x e) in
    sym (next_some bytes (at + 1) x _ e ∙ rw (other, fails) refl)

-- after `x` and a hexadecimal digit
pub paired_end : (bytes : List ℕ) (at x : ℕ) → byte_in (slice_get bytes at) ≡ None → unfinished ≡ paired x (drop at bytes)
paired_end bytes at x e = sym (next_none bytes at _ e)

pub paired_digit : (bytes : List ℕ) (at first a b code size : ℕ) → digit_in 16 (slice_get bytes first) ≡ Some a → digit_in 16 (slice_get bytes at) ≡ Some b
    → code ≡ a * 16 + b → size ≡ 3 → means code size ≡ paired (get_or bytes first 0) (drop at bytes)
paired_digit bytes at first a b code size ea eb is three =
    let i = digit_at 16 bytes first a ea in
    let k = digit_at 16 bytes at b eb in
    let x : get_or bytes first 0 ≡ i.byte = get_or_from_slice_get bytes first i.byte 0 i.stands in
    let byte : byte_in (slice_get bytes at) ≡ Some k.byte = ap byte_in k.stands ∙ rw (digit_small k.byte (nat_lt 255 k.byte) refl k.digit) refl in
    let value : code ≡ digits_value 16 (get_or bytes first 0 ∷ k.byte ∷ []) = omega (arith, i.value, k.value, ap digit_value x) in
    (λ j. means (value j) (three j)) ∙ sym (next_some bytes at k.byte _ byte ∙ rw (k.digit) refl)
  where
    digit_small : (y : ℕ) (b : Bool) → nat_lt 255 y ≡ b → is_digit y 16 ≡ true → nat_lt 255 y ≡ false
    digit_small y false e p = e
    digit_small y true e p =
        let a : nat_lt y 48 ≡ false = grind (arith, nat_tests) in
        let b : nat_lt y 58 ≡ false = grind (arith, nat_tests) in
        let c : nat_lt y 65 ≡ false = grind (arith, nat_tests) in
        let d : nat_lt y 91 ≡ false = grind (arith, nat_tests) in
        let f : nat_lt y 97 ≡ false = grind (arith, nat_tests) in
        let g : nat_lt y 123 ≡ false = grind (arith, nat_tests) in
        let none : is_digit y 16 ≡ false = rw (a, b, c, d, f, g) refl in
        absurd (cc)

pub paired_other : (bytes : List ℕ) (at x y : ℕ) → byte_in (slice_get bytes at) ≡ Some y → digit_in 16 (slice_get bytes at) ≡ None → senseless ≡ paired x (drop at bytes)
paired_other bytes at x y e none = sym (next_some bytes at y _ e ∙ rw (no_digit 16 bytes at y none (slice_get_byte (slice_get bytes at) y e)) refl)

-- after `^`
pub caret_end : (bytes : List ℕ) (at : ℕ) → byte_in (slice_get bytes at) ≡ None → unfinished ≡ caret (drop at bytes)
caret_end bytes at e = sym (next_none bytes at _ e)

pub caret_letter : (bytes : List ℕ) (at x code size : ℕ) → byte_in (slice_get bytes at) ≡ Some x → (is_in 64 95 x || is_in 97 122 x) ≡ true
    → code ≡ x % 32 → size ≡ 2 → means code size ≡ caret (drop at bytes)
caret_letter bytes at x code size e inside is two = (λ j. means (is j) (two j)) ∙ sym (next_some bytes at x _ e ∙ rw inside refl)

pub caret_other : (bytes : List ℕ) (at x : ℕ) → byte_in (slice_get bytes at) ≡ Some x → (is_in 64 95 x || is_in 97 122 x) ≡ false → senseless ≡ caret (drop at bytes)
caret_other bytes at x e outside = sym (next_some bytes at x _ e ∙ rw outside refl)

-- digits that nothing joins
hex_row : (base : ℕ) (xs : List ℕ) → digits_here false base xs ≡ leading (λ c. is_digit c base) xs
hex_row base [] = refl
hex_row base (x ∷ xs) = go (is_digit x base) (hex_row base xs)
  where
    go : (b : Bool) → digits_here false base xs ≡ leading (λ c. is_digit c base) xs
        → (if b || false then x ∷ digits_here false base xs else []) ≡ (if b then x ∷ leading (λ c. is_digit c base) xs else [])
    go true e = ap (λ ys. x ∷ ys) e
    go false e = refl

hex_bare : (base : ℕ) (xs : List ℕ) → base ≤ 36 → bare_digits (leading (λ c. is_digit c base) xs) ≡ leading (λ c. is_digit c base) xs
hex_bare base [] high = refl
hex_bare base (x ∷ xs) high = go (is_digit x base) refl (hex_bare base xs high)
  where
    go : (b : Bool) → is_digit x base ≡ b → bare_digits (leading (λ c. is_digit c base) xs) ≡ leading (λ c. is_digit c base) xs
        → bare_digits (if b then x ∷ leading (λ c. is_digit c base) xs else []) ≡ (if b then x ∷ leading (λ c. is_digit c base) xs else [])
    go true t e =
        let small : digit_value x < base = grind (arith, nat_tests) in
        rw (digit_is_bare base x high small) (ap (λ ys. x ∷ ys) e)
    go false t e = refl

-- no character has so large a number
scalar-capped : (n size : ℕ) → scalar (capped n) size ≡ scalar n size
scalar-capped n size = go (nat_lt (2 ^ 63) n) refl
  where
    large : (m : ℕ) → 2 ^ 63 < m → scalar m size ≡ senseless
    large m l =
        let a : nat_lt m 0xD800 ≡ false = grind (arith, nat_tests) in
        let b : nat_le m 0x10FFFF ≡ false = grind (arith, nat_tests) in
        let c : nat_le 0xE000 m ≡ true = grind (arith, nat_tests) in
        rw (a, c, b) refl

    go : (b : Bool) → nat_lt (2 ^ 63) n ≡ b → scalar (capped n) size ≡ scalar n size
    go false e = let same : capped n ≡ n = grind (arith, nat_tests) in ap (λ m. scalar m size) same
    go true e =
        let l : 2 ^ 63 < n = grind (arith, nat_tests) in
        let k : 2 ^ 63 < capped n = omega arith in
        large (capped n) k ∙ sym (large n l)

abbrev hex_digits : List ℕ → List ℕ
hex_digits xs = leading (λ c. is_digit c 16) xs

-- hexadecimal digits at a place: how many, and where they end
pub record IsHex (bytes : List ℕ) (at to : ℕ) : Type 0 where
  pub behind : drop (length (hex_digits (drop at bytes))) (drop at bytes) ≡ drop to bytes
  pub count : to ≡ at + length (hex_digits (drop at bytes))

pub hex_here : (bytes : List ℕ) (at to : ℕ) → to ≡ at + length (digits_here false 16 (drop at bytes)) → IsHex bytes at to
hex_here bytes at to e =
    let count : to ≡ at + length (hex_digits (drop at bytes)) = e ∙ ap (λ xs. at + length xs) (hex_row 16 (drop at bytes)) in
    record { behind = drop-drop (length (hex_digits (drop at bytes))) at bytes ∙ ap (λ p. drop p bytes) (sym count); count = count }

-- digits in braces
pub braced_end : (bytes : List ℕ) (at to : ℕ) → IsHex bytes at to → byte_in (slice_get bytes to) ≡ None → unfinished ≡ braced (drop at bytes)
braced_end bytes at to h e = sym (rw (h.behind) (next_none bytes to _ e))

pub braced_other : (bytes : List ℕ) (at to x : ℕ) → IsHex bytes at to → byte_in (slice_get bytes to) ≡ Some x → (x ≡ 125 → ⊥) → senseless ≡ braced (drop at bytes)
braced_other bytes at to x h e differs =
    let other : eqb x 125 ≡ false = grind (arith, nat_tests) in
    sym (rw (h.behind) (next_some bytes to x _ e ∙ rw other refl))

pub braced_empty : (bytes : List ℕ) (at to x : ℕ) → IsHex bytes at to → byte_in (slice_get bytes to) ≡ Some x → to ≤ at → senseless ≡ braced (drop at bytes)
braced_empty bytes at to x h e none =
    let few : nat_lt 0 (length (hex_digits (drop at bytes))) ≡ false = grind (arith, nat_tests, h.count) in
    sym (rw (h.behind) (next_some bytes to x _ e ∙ rw few (neither _ _ (eqb x 125))))
  where
    neither : (a c : Character) (b : Bool) → (if b && false then a else c) ≡ c
    neither a c true = refl
    neither a c false = refl

pub braced_closed : (bytes : List ℕ) (at to code size : ℕ) → IsHex bytes at to → byte_in (slice_get bytes to) ≡ Some 125 → at < to
    → code ≡ capped (spelled_by 16 (digits_here false 16 (drop at bytes))) → size ≡ (to - at) + 3 → scalar code size ≡ braced (drop at bytes)
braced_closed bytes at to code size h e some is long =
    let row : digits_here false 16 (drop at bytes) ≡ hex_digits (drop at bytes) = hex_row 16 (drop at bytes) in
    let bare : bare_digits (hex_digits (drop at bytes)) ≡ hex_digits (drop at bytes) = hex_bare 16 (drop at bytes) (omega arith) in
    let more : nat_lt 0 (length (hex_digits (drop at bytes))) ≡ true = grind (arith, nat_tests, h.count) in
    let count : size ≡ length (hex_digits (drop at bytes)) + 3 = omega (arith, h.count) in
    (λ j. scalar (is j) (count j))
    ∙ (scalar-capped (spelled_by 16 (digits_here false 16 (drop at bytes))) (length (hex_digits (drop at bytes)) + 3)
    ∙ (ap (λ ds. scalar (digits_value 16 ds) (length (hex_digits (drop at bytes)) + 3)) (ap bare_digits row ∙ bare)
    ∙ sym (rw (h.behind) (next_some bytes to 125 _ e ∙ rw more refl))))

-- after a backslash
pub escape_end : (bytes : List ℕ) (at : ℕ) → byte_in (slice_get bytes at) ≡ None → unfinished ≡ escape (drop at bytes)
escape_end bytes at e = sym (next_none bytes at _ e)

pub escape_octal : (bytes : List ℕ) (at d : ℕ) → digit_in 8 (slice_get bytes at) ≡ Some d → octal (drop at bytes) ≡ escape (drop at bytes)
escape_octal bytes at d e =
    let i = digit_at 8 bytes at d e in
    let row = drop_some bytes at i.byte i.stands in
    ap octal row ∙ sym (ap escape row ∙ rw (small i.byte i.digit, i.digit) refl)
  where
    small : (x : ℕ) → is_digit x 8 ≡ true → nat_lt 255 x ≡ false
    small x e = grind (arith, nat_tests)

pub escape_hexadecimal : (bytes : List ℕ) (at x : ℕ) → byte_in (slice_get bytes at) ≡ Some x → x ≡ 120 → hexadecimal (drop (at + 1) bytes) ≡ escape (drop at bytes)
escape_hexadecimal bytes at x e is = sym (next_some bytes at x _ e ∙ rw is refl)

pub escape_caret : (bytes : List ℕ) (at x : ℕ) → byte_in (slice_get bytes at) ≡ Some x → x ≡ 94 → caret (drop (at + 1) bytes) ≡ escape (drop at bytes)
escape_caret bytes at x e is = sym (next_some bytes at x _ e ∙ rw is refl)

pub escape_name : (bytes : List ℕ) (at x : ℕ) → byte_in (slice_get bytes at) ≡ Some x → digit_in 8 (slice_get bytes at) ≡ None → (x ≡ 120 → ⊥) → (x ≡ 94 → ⊥)
    → by_name (letter_character x) x (drop (at + 1) bytes) ≡ escape (drop at bytes)
escape_name bytes at x e none not_x not_caret =
    let other : eqb x 120 ≡ false = grind (arith, nat_tests) in
    let another : eqb x 94 ≡ false = grind (arith, nat_tests) in
    let fails = no_digit 8 bytes at x none (slice_get_byte (slice_get bytes at) x e) in
    sym (next_some bytes at x _ e ∙ rw (fails, other, another) refl)

-- a byte that stands for another character is one of its own
pub named_small : (x c : ℕ) → letter_character x ≡ Some c → x < 128
named_small x c e = go (nat_lt x 128) refl
  where
    go : (b : Bool) → nat_lt x 128 ≡ b → x < 128
    go true t = grind (arith, nat_tests)
    go false t =
        let other : (y : ℕ) → y < 128 → eqb x y ≡ false = λ y l. differs y l in
        let none : letter_character x ≡ None = rw (
          other 98 (omega arith),
          other 100 (omega arith),
          other 101 (omega arith),
          other 102 (omega arith),
          other 110 (omega arith),
          other 114 (omega arith),
          other 115 (omega arith),
          other 116 (omega arith),
          other 118 (omega arith),
        ) refl in
        absurd (cc)
      where
        differs : (y : ℕ) → y < 128 → eqb x y ≡ false
        differs y l = grind (arith, nat_tests)
