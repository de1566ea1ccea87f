-- Numbers without their sign (Erlang Reference Manual, Data Types, Number), and those with it that 64 bits hold.
use Rattle.std.specs.Prelude.{ℕ, ℤ, pos, negsuc, ◌+◌, ◌^◌, Bool, false, ◌&&◌, ◌||◌, not, List, [], ◌∷◌, length, drop, filter, nat_lt, ◌==◌, if◌then◌else◌}
use Rattle.std.specs.Char.{is_digit}
use Rattle.std.specs.Str.{bytes_eq}
use Rattle.std.specs.Str.Parse.{digits_value}
use Rattle.erl_number.specs.declared.fault.TermFault.{TermFault}
use Rattle.erl_number.specs.declared.fault.TermFault.TheVariants.{BadToken, BadNumber, Unsupported}
use Rattle.erl_number.specs.Escapes.{Character, is_in, leading, itself, escape}
use Rattle.erl_number.specs.Escapes.Character.{means, senseless, unfinished}

-- A number of so many bytes, bytes with a fault, or bytes that end within.
pub data Numeral : Type 0 where
  whole : ℕ → ℕ → Numeral
  faulty : TermFault → Numeral
  cut_off : Numeral

-- the first byte passes
abbrev pub begins : (ℕ → Bool) → List ℕ → Bool
begins p [] = false
begins p (x ∷ xs) = p x

-- digits after the first: between two of them `_` may stand
abbrev pub more_digits : ℕ → List ℕ → List ℕ
more_digits base [] = []
more_digits base (x ∷ xs) =
    if is_digit x base || (x == 95 && begins (λ y. is_digit y base) xs) then x ∷ more_digits base xs else []

-- the digits of a base, with `_`, that the bytes begin with
abbrev pub digit_row : ℕ → List ℕ → List ℕ
digit_row base xs = if begins (λ x. is_digit x base) xs then more_digits base xs else []

-- the number that they spell
abbrev pub spelled_by : ℕ → List ℕ → ℕ
spelled_by base row = digits_value base (filter (λ x. not (x == 95)) row)

-- a full stop and a digit, as in a float
abbrev pub goes_on_as_float : List ℕ → Bool
goes_on_as_float [] = false
goes_on_as_float (x ∷ xs) = x == 46 && begins (λ y. is_digit y 10) xs

-- a number that begins at this place, with these bytes after it
abbrev pub unless_float : ℕ → List ℕ → Numeral → Numeral
unless_float start rest n = if goes_on_as_float rest then faulty (Unsupported start) else n

-- what may stand in a row of digits of some base
abbrev pub is_alphanumeric : ℕ → Bool
is_alphanumeric x = is_digit x 36

-- the number after a base and `#`, of so many bytes with these: all letters, digits and `_` are taken for digits
abbrev pub in_base : ℕ → ℕ → ℕ → List ℕ → Numeral
in_base start base size xs =
    let row = leading (λ x. is_alphanumeric x || x == 95) xs in
    unless_float start (drop (length row) xs)
    (if is_in 2 36 base && bytes_eq (digit_row base xs) row then whole (spelled_by base row) (size + length row) else faulty (BadNumber start))

-- the number after a base and `#`: `at` is the place of what stands there
abbrev pub behind_base : ℕ → ℕ → ℕ → ℕ → List ℕ → Numeral
behind_base start base size at [] = cut_off
behind_base start base size at (x ∷ xs) = if is_alphanumeric x then in_base start base size (x ∷ xs) else faulty (BadToken at)

-- the number after a row of decimal digits
abbrev pub behind_digits : ℕ → ℕ → List ℕ → List ℕ → Numeral
behind_digits start at row [] = whole (spelled_by 10 row) (length row)
behind_digits start at row (x ∷ xs) =
    if x == 35 then behind_base start (spelled_by 10 row) (length row + 1) (at + length row + 1) xs
    else unless_float start (x ∷ xs) (whole (spelled_by 10 row) (length row))

-- a number in digits: start is the place of its sign, if it has one, and at that of its first digit
abbrev pub digits_numeral : ℕ → ℕ → List ℕ → Numeral
digits_numeral start at xs = let row = digit_row 10 xs in behind_digits start at row (drop (length row) xs)

-- what a number is where the bytes end: they may go on with what isn't UTF-8
abbrev pub ended : ℕ → List ℕ → Numeral
ended at [] = cut_off
ended at (x ∷ xs) = if nat_lt 255 x then faulty (BadToken at) else ended (at + 1) xs

-- the character of a number, of which so many bytes stand in front: at is its place
abbrev pub character_number : ℕ → ℕ → List ℕ → Character → Numeral
character_number size at xs (means c n) = whole c (size + n)
character_number size at xs senseless = faulty (BadToken at)
character_number size at xs unfinished = ended (at + 1) xs

-- the number of a character, after `$`
abbrev pub character_numeral : ℕ → List ℕ → Numeral
character_numeral at [] = cut_off
character_numeral at (x ∷ xs) =
    if nat_lt 255 x then faulty (BadToken at)
    else if x == 92 then character_number 2 at xs (escape xs)
    else character_number 1 at xs (itself x xs)

-- a number without its sign
abbrev pub numeral : ℕ → ℕ → List ℕ → Numeral
numeral start at [] = cut_off
numeral start at (x ∷ xs) =
    if is_digit x 10 then digits_numeral start at (x ∷ xs) else if x == 36 then character_numeral (at + 1) xs else faulty (BadToken at)

-- within 64 bits signed: `negsuc n` is below zero by n + 1
abbrev pub is_int : ℤ → Bool
is_int (pos n) = nat_lt n (2 ^ 63)
is_int (negsuc n) = nat_lt n (2 ^ 63)
