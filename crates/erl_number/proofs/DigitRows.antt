-- Digits in a row, and the number that they spell.
use Rattle.std.proofs.Common.{◌≡◌, ℕ, suc, ◌+◌, ◌*◌, ◌<◌, ◌≤◌, ◌^◌, Bool, true, false, ◌&&◌, not, if◌then◌else◌, nat_lt, eqb, List, [], ◌∷◌, length, drop, filter, Option, Some, None, slice_get, refl, sym, ◌∙◌, ap, arith}
use Rattle.std.proofs.Math.Nat.{mul-le-mul_left}
use Rattle.std.specs.Prelude.{is_some}
use Rattle.std.specs.Char.{is_digit, digit_value}
use Rattle.std.specs.Str.Parse.{digits_value_after}
use Rattle.std.proofs.lemmas.Bool.Decides.{nat_tests}
use Rattle.erl_number.specs.Numbers.{begins}
use Rattle.erl_number.specs.Scanned.{byte_in, digit_in, digits_here, capped}
use Rattle.erl_number.proofs.Runs.{drop_some, drop_none}

-- a byte, where it is one
pub slice_get_byte : (o : Option ℕ) (x : ℕ) → byte_in o ≡ Some x → o ≡ Some x
slice_get_byte None x e = absurd cc
slice_get_byte (Some y) x e = go (nat_lt 255 y) e
  where
    go : (b : Bool) → (if b then None else Some y) ≡ Some x → Some y ≡ Some x
    go true e = absurd cc
    go false e = e

some_if : (b : Bool) (x : ℕ) → is_some (if b then Some x else None) ≡ b
some_if true x = refl
some_if false x = refl

pub begins-digit : (base : ℕ) (bytes : List ℕ) (at : ℕ) → begins (λ x. is_digit x base) (drop at bytes) ≡ is_some (digit_in base (slice_get bytes at))
begins-digit base bytes at = go (slice_get bytes at) refl
  where
    go : (o : Option ℕ) → slice_get bytes at ≡ o → begins (λ x. is_digit x base) (drop at bytes) ≡ is_some (digit_in base o)
    go None e = ap (begins (λ x. is_digit x base)) (drop_none bytes at e)
    go (Some x) e = ap (begins (λ x. is_digit x base)) (drop_some bytes at x e) ∙ sym (some_if (is_digit x base) (digit_value x))

-- one more byte of a row
pub row_digit : (joined : Bool) (base : ℕ) (bytes : List ℕ) (at x : ℕ) → slice_get bytes at ≡ Some x → digit_value x < base
    → digits_here joined base (drop at bytes) ≡ x ∷ digits_here joined base (drop (at + 1) bytes)
row_digit joined base bytes at x e small =
    let digit : is_digit x base ≡ true = grind (arith, nat_tests) in
    ap (digits_here joined base) (drop_some bytes at x e) ∙ rw digit refl

pub row_joint : (joined : Bool) (base : ℕ) (bytes : List ℕ) (at x : ℕ) → slice_get bytes at ≡ Some x → base ≤ digit_value x
    → (joined && (eqb x 95 && begins (λ y. is_digit y base) (drop (at + 1) bytes))) ≡ true
    → digits_here joined base (drop at bytes) ≡ x ∷ digits_here joined base (drop (at + 1) bytes)
row_joint joined base bytes at x e large joint =
    let digit : is_digit x base ≡ false = grind (arith, nat_tests) in
    ap (digits_here joined base) (drop_some bytes at x e) ∙ rw (digit, joint) refl

pub joint_is : (joined more : Bool) (x : ℕ) → (joined && (eqb x 95 && more)) ≡ true → x ≡ 95
joint_is joined more x e = go joined (eqb x 95) refl e
  where
    go : (a b : Bool) → eqb x 95 ≡ b → (a && (b && more)) ≡ true → x ≡ 95
    go true true f e = grind (arith, nat_tests)
    go true false f e = absurd cc
    go false b f e = absurd cc

pub row_stops : (joined : Bool) (base : ℕ) (bytes : List ℕ) (at x : ℕ) → slice_get bytes at ≡ Some x → base ≤ digit_value x
    → (joined && (eqb x 95 && begins (λ y. is_digit y base) (drop (at + 1) bytes))) ≡ false → digits_here joined base (drop at bytes) ≡ []
row_stops joined base bytes at x e large no_joint =
    let digit : is_digit x base ≡ false = grind (arith, nat_tests) in
    ap (digits_here joined base) (drop_some bytes at x e) ∙ rw (digit, no_joint) refl

-- the row ends where no byte stands
pub row_end : (joined : Bool) (base : ℕ) (bytes : List ℕ) (at : ℕ) → byte_in (slice_get bytes at) ≡ None → base ≤ 36 → digits_here joined base (drop at bytes) ≡ []
row_end joined base bytes at none high = go (slice_get bytes at) refl none
  where
    and_false : (b : Bool) → (b && false) ≡ false
    and_false true = refl
    and_false false = refl

    beyond : (x : ℕ) (b : Bool) → nat_lt 255 x ≡ b → (if b then None else Some x) ≡ None → 255 < x
    beyond x true e none = grind (arith, nat_tests)
    beyond x false e none = absurd cc

    value : (x : ℕ) → 255 < x → digit_value x ≡ 36
    value x l =
        let a : nat_lt x 48 ≡ false = grind (arith, nat_tests) in
        let b : nat_lt x 58 ≡ false = grind (arith, nat_tests) in
        let c : nat_lt x 65 ≡ false = grind (arith, nat_tests) in
        let d : nat_lt x 91 ≡ false = grind (arith, nat_tests) in
        let e : nat_lt x 97 ≡ false = grind (arith, nat_tests) in
        let f : nat_lt x 123 ≡ false = grind (arith, nat_tests) in
        rw (a, b, c, d, e, f) refl

    go : (o : Option ℕ) → slice_get bytes at ≡ o → byte_in o ≡ None → digits_here joined base (drop at bytes) ≡ []
    go None e none = ap (digits_here joined base) (drop_none bytes at e)
    go (Some x) e none =
        let l : 255 < x = beyond x (nat_lt 255 x) refl none in
        let other : eqb x 95 ≡ false = grind (arith, nat_tests) in
        row_stops joined base bytes at x e (omega (arith, value x l)) (rw other (and_false joined))

-- a number with more digits is no smaller
digits_value_after_ge : (base n : ℕ) (xs : List ℕ) → 1 ≤ base → n ≤ digits_value_after base n xs
digits_value_after_ge base n [] l = omega arith
digits_value_after_ge base n (x ∷ xs) l =
    let more : n * 1 ≤ n * base = mul-le-mul_left n l in
    omega (arith, more, digits_value_after_ge base (n * base + digit_value x) xs l)

-- a number that is too large stays so
pub capped_after : (base n : ℕ) (xs : List ℕ) → 1 ≤ base → capped (digits_value_after base (capped n) xs) ≡ capped (digits_value_after base n xs)
capped_after base n xs l = go (nat_lt (2 ^ 63) n) refl
  where
    go : (b : Bool) → nat_lt (2 ^ 63) n ≡ b → capped (digits_value_after base (capped n) xs) ≡ capped (digits_value_after base n xs)
    go false e = let same : capped n ≡ n = grind (arith, nat_tests) in ap (λ m. capped (digits_value_after base m xs)) same
    go true e =
        let large : 2 ^ 63 < n = grind (arith, nat_tests) in
        omega (arith, digits_value_after_ge base n xs l, digits_value_after_ge base (capped n) xs l)

-- the digits without the bytes that join them
abbrev pub bare_digits : List ℕ → List ℕ
bare_digits row = filter (λ x. not (eqb x 95)) row

pub digit_is_bare : (base x : ℕ) → base ≤ 36 → digit_value x < base → eqb x 95 ≡ false
digit_is_bare base x high small = go (eqb x 95) refl
  where
    go : (b : Bool) → eqb x 95 ≡ b → eqb x 95 ≡ false
    go false e = e
    go true e = let is : x ≡ 95 = grind (arith, nat_tests) in let value : digit_value x ≡ 36 = ap digit_value is in absurd (omega arith)

-- one more digit, or a byte that joins two
pub number_digit : (base n m d x : ℕ) (rest : List ℕ) → 2 ≤ base → base ≤ 36 → d < base → d ≡ digit_value x → m ≡ capped (n * base + d)
    → capped (digits_value_after base m (bare_digits rest)) ≡ capped (digits_value_after base n (bare_digits (x ∷ rest)))
number_digit base n m d x rest low high small is value =
    let bare : eqb x 95 ≡ false = digit_is_bare base x high (omega arith) in
    ap (λ k. capped (digits_value_after base k (bare_digits rest))) value
    ∙ (capped_after base (n * base + d) (bare_digits rest) (omega arith) ∙ (ap (λ e. capped (digits_value_after base (n * base + e) (bare_digits rest))) is ∙ rw bare refl))

pub number_joint : (base n m x : ℕ) (rest : List ℕ) → x ≡ 95 → m ≡ n
    → capped (digits_value_after base m (bare_digits rest)) ≡ capped (digits_value_after base n (bare_digits (x ∷ rest)))
number_joint base n m x rest is same = rw (is, same) refl

-- how a row goes on over a byte: what it spells, and how long it is
pub spelled_over : (base n m x : ℕ) (row rest : List ℕ) (total : ℕ) → row ≡ x ∷ rest
    → capped (digits_value_after base m (bare_digits rest)) ≡ capped (digits_value_after base n (bare_digits (x ∷ rest)))
    → capped (digits_value_after base n (bare_digits row)) ≡ total → capped (digits_value_after base m (bare_digits rest)) ≡ total
spelled_over base n m x row rest total e step is = step ∙ (ap (λ ys. capped (digits_value_after base n (bare_digits ys))) (sym e) ∙ is)

pub counted_over : (at from x total : ℕ) (row rest : List ℕ) → row ≡ x ∷ rest → at + length row ≡ from + total → (at + 1) + length rest ≡ from + total
counted_over at from x total row rest e is = let long : length row ≡ suc (length rest) = ap length e in omega arith

-- how it ends
pub spelled_end : (base n : ℕ) (row : List ℕ) (total : ℕ) → row ≡ [] → n ≤ 2 ^ 63 + 1 → capped (digits_value_after base n (bare_digits row)) ≡ total → n ≡ total
spelled_end base n row total e small is =
    let same : capped (digits_value_after base n (bare_digits row)) ≡ capped n = ap (λ ys. capped (digits_value_after base n (bare_digits ys))) e in
    omega (arith, same)

pub counted_end : (at from total : ℕ) (row : List ℕ) → row ≡ [] → at + length row ≡ from + total → at ≡ from + total
counted_end at from total row e is = let long : length row ≡ 0 = ap length e in omega arith
