-- Numbers without their sign, byte by byte.
use Rattle.std.proofs.Common.{inl, inr, ◌⊎◌, ◌≡◌, ℕ, suc, ◌+◌, ◌-◌, ◌<◌, ◌≤◌, ◌^◌, Bool, true, false, ◌&&◌, ◌||◌, if◌then◌else◌, nat_lt, nat_le, eqb, List, [], ◌∷◌, length, drop, get_or, Option, Some, None, slice_get, refl, sym, ◌∙◌, ap, arith}
use Rattle.std.specs.Char.{is_digit}
use Rattle.std.specs.Str.{bytes_eq}
use Rattle.std.proofs.lemmas.List.{drop-drop}
use Rattle.std.proofs.lemmas.Bool.Decides.{nat_tests}
use Rattle.std.proofs.lemmas.Option.{get_or_from_slice_get}
use Rattle.erl_number.specs.declared.fault.TermFault.TheVariants.{BadToken, BadNumber, Unsupported}
use Rattle.erl_number.specs.declared.run.Run.TheVariants.{InDigits, InText}
use Rattle.erl_number.specs.Escapes.{leading, is_in, itself, escape}
use Rattle.erl_number.specs.Escapes.Character.{means, senseless, unfinished}
use Rattle.erl_number.specs.Numbers.{begins, more_digits, digit_row, spelled_by, goes_on_as_float, unless_float, is_alphanumeric, in_base, behind_base, behind_digits, digits_numeral, ended, character_number, character_numeral, numeral}
use Rattle.erl_number.specs.Numbers.Numeral.{whole, faulty, cut_off}
use Rattle.erl_number.specs.Scanned.{goes_on_with, stands_at, digits_here, capped, capped_numeral}
use Rattle.erl_number.specs.declared.text.At.{At}
use Rattle.erl_number.specs.declared.text.At.TheVariants.{Byte, NotUtf8, End}
use Rattle.erl_number.proofs.Runs.{drop_some, drop_none}

-- the first byte of a number
pub numeral_none : (start at : ℕ) (bytes : List ℕ) → slice_get bytes at ≡ None → cut_off ≡ numeral start at (drop at bytes)
numeral_none start at bytes e = sym (ap (numeral start at) (drop_none bytes at e))

begins_some : (base at x : ℕ) (bytes : List ℕ) → slice_get bytes at ≡ Some x → begins (λ y. is_digit y base) (drop at bytes) ≡ is_digit x base
begins_some base at x bytes e = ap (begins (λ y. is_digit y base)) (drop_some bytes at x e)

pub numeral_digit : (start at x : ℕ) (bytes : List ℕ) → slice_get bytes at ≡ Some x → begins (λ y. is_digit y 10) (drop at bytes) ≡ true
    → digits_numeral start at (drop at bytes) ≡ numeral start at (drop at bytes)
numeral_digit start at x bytes e digit =
    let passes : is_digit x 10 ≡ true = sym (begins_some 10 at x bytes e) ∙ digit in
    ap (digits_numeral start at) (drop_some bytes at x e) ∙ sym (ap (numeral start at) (drop_some bytes at x e) ∙ rw passes refl)

pub numeral_character : (start at x : ℕ) (bytes : List ℕ) → slice_get bytes at ≡ Some x → x ≡ 36 → character_numeral (at + 1) (drop (at + 1) bytes) ≡ numeral start at (drop at bytes)
numeral_character start at x bytes e is = sym (ap (numeral start at) (drop_some bytes at x e) ∙ rw is refl)

pub numeral_other : (start at x : ℕ) (bytes : List ℕ) → slice_get bytes at ≡ Some x → begins (λ y. is_digit y 10) (drop at bytes) ≡ false → (x ≡ 36 → ⊥)
    → faulty (BadToken at) ≡ numeral start at (drop at bytes)
numeral_other start at x bytes e none differs =
    let fails : is_digit x 10 ≡ false = sym (begins_some 10 at x bytes e) ∙ none in
    let other : eqb x 36 ≡ false = grind (arith, nat_tests) in
    sym (ap (numeral start at) (drop_some bytes at x e) ∙ rw (fails, other) refl)

-- a full stop and a digit
pub float_some : (at x : ℕ) (bytes : List ℕ) → slice_get bytes at ≡ Some x → goes_on_as_float (drop at bytes) ≡ (eqb x 46 && begins (λ y. is_digit y 10) (drop (at + 1) bytes))
float_some at x bytes e = ap goes_on_as_float (drop_some bytes at x e)

pub float_none : (at : ℕ) (bytes : List ℕ) → slice_get bytes at ≡ None → goes_on_as_float (drop at bytes) ≡ false
float_none at bytes e = ap goes_on_as_float (drop_none bytes at e)

-- the digits of a number
more_digits-here : (base : ℕ) (xs : List ℕ) → more_digits base xs ≡ digits_here true base xs
more_digits-here base [] = refl
more_digits-here base (x ∷ xs) = ap (λ ys. if is_digit x base || (eqb x 95 && begins (λ y. is_digit y base) xs) then x ∷ ys else []) (more_digits-here base xs)

-- what begins with a digit is no `_`
no_joint : (x : ℕ) → is_digit x 36 ≡ true → eqb x 95 ≡ false
no_joint x p = go (eqb x 95) refl
  where
    none : true ≡ false → ⊥
    none e = cc

    go : (b : Bool) → eqb x 95 ≡ b → eqb x 95 ≡ false
    go false e = e
    go true e = let is : x ≡ 95 = grind (arith, nat_tests) in absurd (none (sym p ∙ ap (λ y. is_digit y 36) is))

pub digit_row-here : (base : ℕ) (xs : List ℕ) → begins (λ y. is_digit y 36) xs ≡ true → digit_row base xs ≡ digits_here true base xs
digit_row-here base [] p = refl
digit_row-here base (x ∷ xs) p = go (is_digit x base) refl
  where
    go : (b : Bool) → is_digit x base ≡ b → digit_row base (x ∷ xs) ≡ digits_here true base (x ∷ xs)
    go true e = rw e (ap (λ ys. x ∷ ys) (more_digits-here base xs))
    go false e = rw (e, no_joint x p) refl

alphanumeric_begins : (base : ℕ) (xs : List ℕ) → base ≤ 36 → begins (λ y. is_digit y base) xs ≡ true → begins (λ y. is_digit y 36) xs ≡ true
alphanumeric_begins base [] high p = p
alphanumeric_begins base (x ∷ xs) high p = grind (arith, nat_tests)

-- decimal digits at a place, and where they end
pub record IsRow (start at to : ℕ) (bytes row : List ℕ) : Type 0 where
  pub is : digits_numeral start at (drop at bytes) ≡ behind_digits start at row (drop to bytes)
  pub count : to ≡ at + length row

pub row_here : (start at to : ℕ) (bytes : List ℕ) → begins (λ y. is_digit y 10) (drop at bytes) ≡ true → to ≡ at + length (digits_here true 10 (drop at bytes))
    → IsRow start at to bytes (digits_here true 10 (drop at bytes))
row_here start at to bytes p e =
    let row : digit_row 10 (drop at bytes) ≡ digits_here true 10 (drop at bytes) = digit_row-here 10 (drop at bytes) (alphanumeric_begins 10 (drop at bytes) (omega arith) p) in
    record {
      is =
          ap (λ r. behind_digits start at r (drop (length r) (drop at bytes))) row
          ∙ ap (behind_digits start at (digits_here true 10 (drop at bytes))) (drop-drop (length (digits_here true 10 (drop at bytes))) at bytes ∙ ap (λ p. drop p bytes) (sym e));
      count = e;
    }

-- a base that is too large stays so
is_in-capped : (b : ℕ) → is_in 2 36 (capped b) ≡ is_in 2 36 b
is_in-capped b = go (nat_lt (2 ^ 63) b) refl
  where
    large : (m : ℕ) → 2 ^ 63 < m → is_in 2 36 m ≡ false
    large m l =
        let a : nat_le m 36 ≡ false = grind (arith, nat_tests) in
        let c : nat_le 2 m ≡ true = grind (arith, nat_tests) in
        rw (a, c) refl

    go : (t : Bool) → nat_lt (2 ^ 63) b ≡ t → is_in 2 36 (capped b) ≡ is_in 2 36 b
    go false e = let same : capped b ≡ b = grind (arith, nat_tests) in ap (is_in 2 36) same
    go true e =
        let l : 2 ^ 63 < b = grind (arith, nat_tests) in
        let k : 2 ^ 63 < capped b = omega arith in
        large (capped b) k ∙ sym (large b l)

in_base-outside : (start base size : ℕ) (xs : List ℕ) → is_in 2 36 base ≡ false
    → in_base start base size xs ≡ unless_float start (drop (length (leading (goes_on_with InDigits) xs)) xs) (faulty (BadNumber start))
in_base-outside start base size xs e = rw e refl

small_base : (b : ℕ) → is_in 2 36 b ≡ true → capped b ≡ b
small_base b e = go (nat_le b 36) refl
  where
    none : (x : Bool) → (x && false) ≡ true → ⊥
    none true e = cc
    none false e = cc

    go : (t : Bool) → nat_le b 36 ≡ t → capped b ≡ b
    go true t = grind (arith, nat_tests)
    go false t = absurd (none (nat_le 2 b) (sym (ap (λ y. nat_le 2 b && y) t) ∙ e))

in_base-capped : (start base size : ℕ) (xs : List ℕ) → in_base start (capped base) size xs ≡ in_base start base size xs
in_base-capped start base size xs = go (is_in 2 36 base) refl
  where
    go : (t : Bool) → is_in 2 36 base ≡ t → in_base start (capped base) size xs ≡ in_base start base size xs
    go true e = ap (λ b. in_base start b size xs) (small_base base e)
    go false e = in_base-outside start (capped base) size xs (is_in-capped base ∙ e) ∙ sym (in_base-outside start base size xs e)

behind_base-capped : (start base size at : ℕ) (xs : List ℕ) → behind_base start (capped base) size at xs ≡ behind_base start base size at xs
behind_base-capped start base size at [] = refl
behind_base-capped start base size at (x ∷ xs) = ap (λ n. if is_alphanumeric x then n else faulty (BadToken at)) (in_base-capped start base size (x ∷ xs))

-- after decimal digits
pub digits_base : (start at to number : ℕ) (bytes row : List ℕ) → IsRow start at to bytes row → slice_get bytes to ≡ Some 35 → number ≡ capped (spelled_by 10 row)
    → behind_base start number ((to + 1) - at) (to + 1) (drop (to + 1) bytes) ≡ digits_numeral start at (drop at bytes)
digits_base start at to number bytes row r e is =
    let size : (to + 1) - at ≡ length row + 1 = omega (arith, r.count) in
    let place : to + 1 ≡ at + length row + 1 = omega (arith, r.count) in
    (λ j. behind_base start (is j) (size j) (place j) (drop (to + 1) bytes))
    ∙ (behind_base-capped start (spelled_by 10 row) (length row + 1) (at + length row + 1) (drop (to + 1) bytes)
    ∙ sym (r.is ∙ ap (behind_digits start at row) (drop_some bytes to 35 e)))

plain_digits : (start at to : ℕ) (bytes row : List ℕ) → (slice_get bytes to ≡ Some 35 → ⊥)
    → behind_digits start at row (drop to bytes) ≡ unless_float start (drop to bytes) (whole (spelled_by 10 row) (length row))
plain_digits start at to bytes row differs = go (slice_get bytes to) refl
  where
    go : (o : Option ℕ) → slice_get bytes to ≡ o → behind_digits start at row (drop to bytes) ≡ unless_float start (drop to bytes) (whole (spelled_by 10 row) (length row))
    go None e = rw (drop_none bytes to e) refl
    go (Some x) e =
        let other : eqb x 35 ≡ false = decided (eqb x 35) refl in
        rw (drop_some bytes to x e, other) refl
      where
        decided : (t : Bool) → eqb x 35 ≡ t → eqb x 35 ≡ false
        decided false t = t
        decided true t = let is : x ≡ 35 = grind (arith, nat_tests) in absurd (differs (e ∙ ap (λ y. Some y) is))

pub digits_float : (start at to : ℕ) (bytes row : List ℕ) → IsRow start at to bytes row → (slice_get bytes to ≡ Some 35 → ⊥) → goes_on_as_float (drop to bytes) ≡ true
    → faulty (Unsupported start) ≡ capped_numeral (digits_numeral start at (drop at bytes))
digits_float start at to bytes row r differs float =
    sym (ap capped_numeral (r.is ∙ (plain_digits start at to bytes row differs ∙ ap (λ b. if b then faulty (Unsupported start) else whole (spelled_by 10 row) (length row)) float)))

pub digits_whole : (start at to number : ℕ) (bytes row : List ℕ) → IsRow start at to bytes row → (slice_get bytes to ≡ Some 35 → ⊥) → goes_on_as_float (drop to bytes) ≡ false
    → number ≡ capped (spelled_by 10 row) → whole number (to - at) ≡ capped_numeral (digits_numeral start at (drop at bytes))
digits_whole start at to number bytes row r differs plain is =
    let size : to - at ≡ length row = omega (arith, r.count) in
    (λ j. whole (is j) (size j))
    ∙ sym (ap capped_numeral (r.is ∙ (plain_digits start at to bytes row differs ∙ ap (λ b. if b then faulty (Unsupported start) else whole (spelled_by 10 row) (length row)) plain)))

-- after a base
pub base_end : (start base size at : ℕ) (bytes : List ℕ) → slice_get bytes at ≡ None → cut_off ≡ capped_numeral (behind_base start base size at (drop at bytes))
base_end start base size at bytes e = sym (ap (λ xs. capped_numeral (behind_base start base size at xs)) (drop_none bytes at e))

pub base_bad : (start base size at x : ℕ) (bytes : List ℕ) → slice_get bytes at ≡ Some x → begins (λ y. is_digit y 36) (drop at bytes) ≡ false
    → faulty (BadToken at) ≡ capped_numeral (behind_base start base size at (drop at bytes))
base_bad start base size at x bytes e none =
    let fails : is_digit x 36 ≡ false = sym (begins_some 36 at x bytes e) ∙ none in
    sym (ap (λ xs. capped_numeral (behind_base start base size at xs)) (drop_some bytes at x e) ∙ rw fails refl)

pub base_digits : (start base size at x : ℕ) (bytes : List ℕ) → slice_get bytes at ≡ Some x → begins (λ y. is_digit y 36) (drop at bytes) ≡ true
    → in_base start base size (drop at bytes) ≡ behind_base start base size at (drop at bytes)
base_digits start base size at x bytes e digit =
    let passes : is_digit x 36 ≡ true = sym (begins_some 36 at x bytes e) ∙ digit in
    ap (in_base start base size) (drop_some bytes at x e) ∙ sym (ap (behind_base start base size at) (drop_some bytes at x e) ∙ rw passes refl)

-- all that may stand in a row of digits are digits of the base, if as many are
whole_row : (base : ℕ) (xs : List ℕ) → base ≤ 36 → length (digits_here true base xs) ≡ length (leading (goes_on_with InDigits) xs) → digits_here true base xs ≡ leading (goes_on_with InDigits) xs
whole_row base [] high e = refl
whole_row base (x ∷ xs) high e = go (is_digit x base) (eqb x 95 && begins (λ y. is_digit y base) xs) (goes_on_with InDigits x) refl refl refl e (whole_row base xs high)
  where
    go : (a b p : Bool) → is_digit x base ≡ a → (eqb x 95 && begins (λ y. is_digit y base) xs) ≡ b → goes_on_with InDigits x ≡ p
        → length (if a || b then x ∷ digits_here true base xs else []) ≡ length (if p then x ∷ leading (goes_on_with InDigits) xs else [])
        → (length (digits_here true base xs) ≡ length (leading (goes_on_with InDigits) xs) → digits_here true base xs ≡ leading (goes_on_with InDigits) xs)
        → (if a || b then x ∷ digits_here true base xs else []) ≡ (if p then x ∷ leading (goes_on_with InDigits) xs else [])
    go true b true ea eb ep e more = ap (λ ys. x ∷ ys) (more (omega arith))
    go false true true ea eb ep e more = ap (λ ys. x ∷ ys) (more (omega arith))
    go false false true ea eb ep e more = absurd (omega arith)
    go true b false ea eb ep e more = absurd (omega arith)
    go false true false ea eb ep e more = absurd (omega arith)
    go false false false ea eb ep e more = refl

bytes_eq_self : (xs : List ℕ) → bytes_eq xs xs ≡ true
bytes_eq_self [] = refl
bytes_eq_self (x ∷ xs) = let same : eqb x x ≡ true = grind (arith, nat_tests) in rw (same, bytes_eq_self xs) refl

bytes_eq_length : (xs ys : List ℕ) → bytes_eq xs ys ≡ true → length xs ≡ length ys
bytes_eq_length [] [] e = refl
bytes_eq_length [] (y ∷ ys) e = absurd cc
bytes_eq_length (x ∷ xs) [] e = absurd cc
bytes_eq_length (x ∷ xs) (y ∷ ys) e = go (eqb x y) (bytes_eq xs ys) e (bytes_eq_length xs ys)
  where
    go : (a b : Bool) → (a && b) ≡ true → (b ≡ true → length xs ≡ length ys) → suc (length xs) ≡ suc (length ys)
    go true b e f = ap suc (f e)
    go false b e f = absurd cc

-- after it, digits of the base alone, or others too
in_base-row : (start base size : ℕ) (bytes : List ℕ) (at end : ℕ) → end ≡ at + length (leading (goes_on_with InDigits) (drop at bytes)) → goes_on_as_float (drop end bytes) ≡ false → (b : Bool)
    → (is_in 2 36 base && bytes_eq (digit_row base (drop at bytes)) (leading (goes_on_with InDigits) (drop at bytes))) ≡ b
    → in_base start base size (drop at bytes)
    ≡ (if b then whole (spelled_by base (leading (goes_on_with InDigits) (drop at bytes))) (size + length (leading (goes_on_with InDigits) (drop at bytes))) else faulty (BadNumber start))
in_base-row start base size bytes at end e plain b is =
    let behind : drop (length (leading (goes_on_with InDigits) (drop at bytes))) (drop at bytes) ≡ drop end bytes =
    drop-drop (length (leading (goes_on_with InDigits) (drop at bytes))) at bytes ∙ ap (λ p. drop p bytes) (sym e) in
    ap (λ c. unless_float start (drop (length (leading (goes_on_with InDigits) (drop at bytes))) (drop at bytes))
    (if c then whole (spelled_by base (leading (goes_on_with InDigits) (drop at bytes))) (size + length (leading (goes_on_with InDigits) (drop at bytes))) else faulty (BadNumber start))) is
    ∙ rw (behind, plain) refl

inside_base : (base : ℕ) → 2 ≤ base → base ≤ 36 → is_in 2 36 base ≡ true
inside_base base low high =
    let a : nat_le 2 base ≡ true = grind (arith, nat_tests) in
    let b : nat_le base 36 ≡ true = grind (arith, nat_tests) in
    rw (a, b) refl

pub in_base_whole : (start base size at end to number to_size : ℕ) (bytes : List ℕ) → 2 ≤ base → base ≤ 36 → begins (λ y. is_digit y 36) (drop at bytes) ≡ true
    → end ≡ at + length (leading (goes_on_with InDigits) (drop at bytes)) → goes_on_as_float (drop end bytes) ≡ false
    → to ≡ at + length (digits_here true base (drop at bytes)) → number ≡ capped (spelled_by base (digits_here true base (drop at bytes))) → to ≡ end → to_size ≡ size + (to - at)
    → whole number to_size ≡ capped_numeral (in_base start base size (drop at bytes))
in_base_whole start base size at end to number to_size bytes low high p e plain t n same s =
    let row : digits_here true base (drop at bytes) ≡ leading (goes_on_with InDigits) (drop at bytes) = whole_row base (drop at bytes) high (omega arith) in
    let all : (is_in 2 36 base && bytes_eq (digit_row base (drop at bytes)) (leading (goes_on_with InDigits) (drop at bytes))) ≡ true =
    ap (λ b. b && bytes_eq (digit_row base (drop at bytes)) (leading (goes_on_with InDigits) (drop at bytes))) (inside_base base low high)
    ∙ (ap (λ r. bytes_eq r (leading (goes_on_with InDigits) (drop at bytes))) (digit_row-here base (drop at bytes) p ∙ row) ∙ bytes_eq_self (leading (goes_on_with InDigits) (drop at bytes))) in
    let value : number ≡ capped (spelled_by base (leading (goes_on_with InDigits) (drop at bytes))) = n ∙ ap (λ r. capped (spelled_by base r)) row in
    let long : to_size ≡ size + length (leading (goes_on_with InDigits) (drop at bytes)) = omega (arith, ap length row) in
    (λ j. whole (value j) (long j)) ∙ sym (ap capped_numeral (in_base-row start base size bytes at end e plain true all))

pub in_base_bad : (start base size at end to : ℕ) (bytes : List ℕ) → 2 ≤ base → base ≤ 36 → begins (λ y. is_digit y 36) (drop at bytes) ≡ true
    → end ≡ at + length (leading (goes_on_with InDigits) (drop at bytes)) → goes_on_as_float (drop end bytes) ≡ false
    → to ≡ at + length (digits_here true base (drop at bytes)) → (to ≡ end → ⊥) → faulty (BadNumber start) ≡ capped_numeral (in_base start base size (drop at bytes))
in_base_bad start base size at end to bytes low high p e plain t differs =
    let row = digit_row-here base (drop at bytes) p in
    let some : bytes_eq (digit_row base (drop at bytes)) (leading (goes_on_with InDigits) (drop at bytes)) ≡ false = decided (bytes_eq (digit_row base (drop at bytes)) (leading (goes_on_with InDigits) (drop at bytes))) refl in
    let all : (is_in 2 36 base && bytes_eq (digit_row base (drop at bytes)) (leading (goes_on_with InDigits) (drop at bytes))) ≡ false =
    ap (λ b. b && bytes_eq (digit_row base (drop at bytes)) (leading (goes_on_with InDigits) (drop at bytes))) (inside_base base low high) ∙ some in
    sym (ap capped_numeral (in_base-row start base size bytes at end e plain false all))
  where
    decided : (b : Bool) → bytes_eq (digit_row base (drop at bytes)) (leading (goes_on_with InDigits) (drop at bytes)) ≡ b
        → bytes_eq (digit_row base (drop at bytes)) (leading (goes_on_with InDigits) (drop at bytes)) ≡ false
    decided false t = t
    decided true s =
        let same = bytes_eq_length (digit_row base (drop at bytes)) (leading (goes_on_with InDigits) (drop at bytes)) s in
        absurd (differs (omega (arith, same, ap length (digit_row-here base (drop at bytes) p))))

-- where the text ends
pub ended-run : (at end : ℕ) (bytes : List ℕ) → end ≡ at + length (leading (goes_on_with InText) (drop at bytes)) → ended at (drop at bytes) ≡ ended end (drop end bytes)
ended-run at end bytes e =
    let behind : drop (length (leading (goes_on_with InText) (drop at bytes))) (drop at bytes) ≡ drop end bytes =
    drop-drop (length (leading (goes_on_with InText) (drop at bytes))) at bytes ∙ ap (λ p. drop p bytes) (sym e) in
    past at (drop at bytes) ∙ (λ j. ended (sym e j) (behind j))
  where
    past : (p : ℕ) (xs : List ℕ) → ended p xs ≡ ended (p + length (leading (goes_on_with InText) xs)) (drop (length (leading (goes_on_with InText) xs)) xs)
    past p [] = refl
    past p (x ∷ xs) = go (nat_le x 255) refl (past (p + 1) xs)
      where
        go : (b : Bool) → nat_le x 255 ≡ b → ended (p + 1) xs ≡ ended ((p + 1) + length (leading (goes_on_with InText) xs)) (drop (length (leading (goes_on_with InText) xs)) xs)
            → ended p (x ∷ xs) ≡ ended (p + length (if b then x ∷ leading (goes_on_with InText) xs else [])) (drop (length (if b then x ∷ leading (goes_on_with InText) xs else [])) (x ∷ xs))
        go true t e =
            let small : nat_lt 255 x ≡ false = grind (arith, nat_tests) in
            let place : (p + 1) + length (leading (goes_on_with InText) xs) ≡ p + suc (length (leading (goes_on_with InText) xs)) = omega arith in
            rw small (e ∙ ap (λ q. ended q (drop (length (leading (goes_on_with InText) xs)) xs)) place)
        go false t e = let same : p ≡ p + 0 = omega arith in ap (λ q. ended q (x ∷ xs)) same

-- the byte after a run is none of it
behind_run : (p : ℕ → Bool) (xs : List ℕ) (x : ℕ) (ys : List ℕ) → drop (length (leading p xs)) xs ≡ x ∷ ys → p x ≡ false
behind_run p [] x ys e = absurd cc
behind_run p (z ∷ zs) x ys e = go (p z) refl e (behind_run p zs x ys)
  where
    go : (b : Bool) → p z ≡ b → drop (length (if b then z ∷ leading p zs else [])) (z ∷ zs) ≡ x ∷ ys → (drop (length (leading p zs)) zs ≡ x ∷ ys → p x ≡ false) → p x ≡ false
    go true t e more = more e
    go false t e more = let is : z ≡ x = cc in sym (ap p is) ∙ t

pub ended_some : (at end x : ℕ) (bytes : List ℕ) → end ≡ at + length (leading (goes_on_with InText) (drop at bytes)) → slice_get bytes end ≡ Some x → faulty (BadToken end) ≡ ended at (drop at bytes)
ended_some at end x bytes e s =
    let behind = drop-drop (length (leading (goes_on_with InText) (drop at bytes))) at bytes ∙ (ap (λ p. drop p bytes) (sym e) ∙ drop_some bytes end x s) in
    let large : nat_le x 255 ≡ false = behind_run (goes_on_with InText) (drop at bytes) x (drop (end + 1) bytes) behind in
    let over : nat_lt 255 x ≡ true = grind (arith, nat_tests) in
    sym (ended-run at end bytes e ∙ (ap (ended end) (drop_some bytes end x s) ∙ rw over refl))

pub ended_none : (at end : ℕ) (bytes : List ℕ) → end ≡ at + length (leading (goes_on_with InText) (drop at bytes)) → slice_get bytes end ≡ None → cut_off ≡ ended at (drop at bytes)
ended_none at end bytes e s = sym (ended-run at end bytes e ∙ ap (ended end) (drop_none bytes end s))

-- after `$`
pub character_none : (at : ℕ) (bytes : List ℕ) → slice_get bytes at ≡ None → cut_off ≡ capped_numeral (character_numeral at (drop at bytes))
character_none at bytes e = sym (ap (λ xs. capped_numeral (character_numeral at xs)) (drop_none bytes at e))

pub character_bad : (at x : ℕ) (bytes : List ℕ) → slice_get bytes at ≡ Some x → 255 < x → faulty (BadToken at) ≡ capped_numeral (character_numeral at (drop at bytes))
character_bad at x bytes e large =
    let over : nat_lt 255 x ≡ true = grind (arith, nat_tests) in
    sym (ap (λ xs. capped_numeral (character_numeral at xs)) (drop_some bytes at x e) ∙ rw over refl)

-- a character's number is small
pub character_number-means : (size at c n code long : ℕ) (xs : List ℕ) → c < 2 ^ 32 → code ≡ c → long ≡ size + n → whole code long ≡ capped_numeral (character_number size at xs (means c n))
character_number-means size at c n code long xs small is l = let same : code ≡ capped c = omega arith in λ j. whole (same j) (l j)

itself_plain : (at x : ℕ) (bytes : List ℕ) → slice_get bytes at ≡ Some x → x ≤ 255 → (x ≡ 92 → ⊥)
    → character_numeral at (drop at bytes) ≡ character_number 1 at (drop (at + 1) bytes) (itself x (drop (at + 1) bytes))
itself_plain at x bytes e small differs =
    let under : nat_lt 255 x ≡ false = grind (arith, nat_tests) in
    let other : eqb x 92 ≡ false = grind (arith, nat_tests) in
    ap (character_numeral at) (drop_some bytes at x e) ∙ rw (under, other) refl

pub character_itself : (at x c to code long : ℕ) (bytes : List ℕ) → slice_get bytes at ≡ Some x → x ≤ 255 → (x ≡ 92 → ⊥)
    → itself (get_or bytes at 0) (drop (at + 1) bytes) ≡ means c (to - at) → c < 2 ^ 32 → code ≡ c → long ≡ 1 + (to - at)
    → whole code long ≡ capped_numeral (character_numeral at (drop at bytes))
character_itself at x c to code long bytes e small differs is fits same l =
    let byte : get_or bytes at 0 ≡ x = get_or_from_slice_get bytes at x 0 e in
    character_number-means 1 at c (to - at) code long (drop (at + 1) bytes) fits same l
    ∙ sym (ap capped_numeral (itself_plain at x bytes e small differs
    ∙ ap (character_number 1 at (drop (at + 1) bytes)) (ap (λ y. itself y (drop (at + 1) bytes)) (sym byte) ∙ is)))

-- after `$` and a backslash
character_escape : (at : ℕ) (bytes : List ℕ) → slice_get bytes at ≡ Some 92 → character_numeral at (drop at bytes) ≡ character_number 2 at (drop (at + 1) bytes) (escape (drop (at + 1) bytes))
character_escape at bytes e = ap (character_numeral at) (drop_some bytes at 92 e)

pub escape_means : (at next c n code long : ℕ) (bytes : List ℕ) → slice_get bytes at ≡ Some 92 → next ≡ at + 1 → means c n ≡ escape (drop next bytes) → c < 2 ^ 32 → code ≡ c
    → long ≡ 2 + n → whole code long ≡ capped_numeral (character_numeral at (drop at bytes))
escape_means at next c n code long bytes e k is fits same l =
    character_number-means 2 at c n code long (drop (at + 1) bytes) fits same l
    ∙ sym (ap capped_numeral (character_escape at bytes e ∙ ap (character_number 2 at (drop (at + 1) bytes)) (sym (is ∙ ap (λ p. escape (drop p bytes)) k))))

pub escape_senseless : (at next : ℕ) (bytes : List ℕ) → slice_get bytes at ≡ Some 92 → next ≡ at + 1 → senseless ≡ escape (drop next bytes)
    → faulty (BadToken at) ≡ capped_numeral (character_numeral at (drop at bytes))
escape_senseless at next bytes e k is =
    sym (ap capped_numeral (character_escape at bytes e ∙ ap (character_number 2 at (drop (at + 1) bytes)) (sym (is ∙ ap (λ p. escape (drop p bytes)) k))))

capped_ended : (at : ℕ) (xs : List ℕ) → capped_numeral (ended at xs) ≡ ended at xs
capped_ended at [] = refl
capped_ended at (x ∷ xs) = go (nat_lt 255 x) (capped_ended (at + 1) xs)
  where
    go : (b : Bool) → capped_numeral (ended (at + 1) xs) ≡ ended (at + 1) xs → capped_numeral (if b then faulty (BadToken at) else ended (at + 1) xs) ≡ (if b then faulty (BadToken at) else ended (at + 1) xs)
    go true e = refl
    go false e = e

pub escape_unfinished : (at next : ℕ) (bytes : List ℕ) → slice_get bytes at ≡ Some 92 → next ≡ at + 1 → unfinished ≡ escape (drop next bytes)
    → ended next (drop next bytes) ≡ capped_numeral (character_numeral at (drop at bytes))
escape_unfinished at next bytes e k is =
    ap (λ p. ended p (drop p bytes)) k
    ∙ sym (ap capped_numeral (character_escape at bytes e ∙ ap (character_number 2 at (drop (at + 1) bytes)) (sym (is ∙ ap (λ p. escape (drop p bytes)) k)))
    ∙ capped_ended (at + 1) (drop (at + 1) bytes))

-- where the bytes are no longer UTF-8

pub bad_digit : (base at : ℕ) (bytes : List ℕ) → base ≤ 36 → slice_get bytes at ≡ Some 256 → begins (λ y. is_digit y base) (drop at bytes) ≡ false
bad_digit base at bytes l e = let none : is_digit 256 base ≡ false = grind (arith, nat_tests) in begins_some base at 256 bytes e ∙ none

pub ended_there : (at end : ℕ) (bytes : List ℕ) (there : At) → (there ≡ End → ⊥) → end ≡ at + length (leading (goes_on_with InText) (drop at bytes)) → stands_at there ≡ slice_get bytes end
    → faulty (BadToken end) ≡ ended at (drop at bytes)
ended_there at end bytes (Byte x) differs e h = ended_some at end x bytes e (sym h)
ended_there at end bytes NotUtf8 differs e h = ended_some at end 256 bytes e (sym h)
ended_there at end bytes End differs e h = absurd (differs refl)

pub float_there : (at : ℕ) (bytes : List ℕ) (there : At) → (there ≡ NotUtf8) ⊎ (there ≡ End) → stands_at there ≡ slice_get bytes at → goes_on_as_float (drop at bytes) ≡ false
float_there at bytes there (inl is) e = float_some at 256 bytes (sym e ∙ ap stands_at is)
float_there at bytes there (inr is) e = float_none at bytes (sym e ∙ ap stands_at is)
