-- What contracts read of places, characters, runs and numbers.
use Rattle.std.specs.Prelude.{◌≡◌, ℕ, ℤ, pos, neg_ℤ, ◌+◌, ◌-◌, ◌<◌, ◌≤◌, ◌^◌, Bool, true, false, ◌&&◌, ◌||◌, List, [], ◌∷◌, min, nat_lt, nat_le, not, Option, Some, None, ◌==◌, if◌then◌else◌}
use Rattle.std.specs.Char.{is_digit, digit_value}
use Rattle.std.specs.Str.{IsCharBoundary}
use Rattle.erl_number.specs.declared.text.Text.{Text}
use Rattle.erl_number.specs.declared.text.At.{At}
use Rattle.erl_number.specs.declared.text.At.TheVariants.{Byte, NotUtf8, End}
use Rattle.erl_number.specs.declared.escape.Escaped.{Escaped}
use Rattle.erl_number.specs.declared.escape.Escaped.TheVariants.{Means, Senseless, Unfinished}
use Rattle.erl_number.specs.Escapes.{Character}
use Rattle.erl_number.specs.Escapes.Character.{means, senseless, unfinished}
use Rattle.erl_number.specs.declared.number.Numeral.{Numeral as CodeNumeral}
use Rattle.erl_number.specs.declared.number.Numeral.TheVariants.{Whole, Faulty, CutOff}
use Rattle.erl_number.specs.Numbers.{is_int, Numeral, begins, is_alphanumeric}
use Rattle.erl_number.specs.Numbers.Numeral.{whole, faulty, cut_off}
use Rattle.erl_number.specs.declared.run.Run.{Run}
use Rattle.erl_number.specs.declared.run.Run.TheVariants.{InName, InQuotes, InComment, InDigits, InBlanks, InText}
use Rattle.erl_number.specs.Texts.{is_bare_name_byte}

-- what stands at a place, as the bytes of a text have it: `specs/Texts` puts 256 after the last that is UTF-8
abbrev pub stands_at : At → Option ℕ
stands_at (Byte x) = Some x
stands_at NotUtf8 = Some 256
stands_at End = None

-- what stands there, if it is a byte
abbrev pub byte_in : Option ℕ → Option ℕ
byte_in (Some x) = if nat_lt 255 x then None else Some x
byte_in None = None

-- a later place, at which the text may be cut
abbrev pub IsBehind : Text → ℕ → ℕ → Type 0
IsBehind text at to = (at < to) × (to ≤ 2 ^ 63) × IsCharBoundary text.valid.now to

-- a character from this place on, by the place after it
abbrev pub character_value : ℕ → Escaped → Character
character_value at (Means c to) = means c (to - at)
character_value at Senseless = senseless
character_value at Unfinished = unfinished

-- the character ends at a later place, at which the text may be cut
abbrev pub EndsBehind : Text → ℕ → Escaped → Type 0
EndsBehind text at (Means c to) = IsBehind text at to
EndsBehind text at e = Unit {0}

-- the character ends there, if there is one
abbrev pub EndsAt : ℕ → Escaped → Type 0
EndsAt to (Means c end) = end ≡ to
EndsAt to e = Unit {0}

-- the value of a byte that is a digit of the base
abbrev pub digit_in : ℕ → Option ℕ → Option ℕ
digit_in base (Some x) = if is_digit x base then Some (digit_value x) else None
digit_in base None = None

-- the digits of a base that the bytes begin with; where they are joined, each may stand after a `_`
abbrev pub digits_here : Bool → ℕ → List ℕ → List ℕ
digits_here joined base [] = []
digits_here joined base (x ∷ xs) =
    if is_digit x base || (joined && (x == 95 && begins (λ y. is_digit y base) xs)) then x ∷ digits_here joined base xs else []

-- a number, or 2 ^ 63 + 1 where it is larger: no number of 64 bits signed is
abbrev pub capped : ℕ → ℕ
capped n = min n (2 ^ 63 + 1)

-- a number without its sign from this place on, by the place after it
abbrev pub numeral_value : ℕ → CodeNumeral → Numeral
numeral_value at (Whole n to) = whole n (to - at)
numeral_value at (Faulty f) = faulty f
numeral_value at CutOff = cut_off

-- the same number, capped
abbrev pub capped_numeral : Numeral → Numeral
capped_numeral (whole n size) = whole (capped n) size
capped_numeral n = n

-- it ends at a later place
abbrev pub EndsAfter : ℕ → CodeNumeral → Type 0
EndsAfter at (Whole n to) = at < to
EndsAfter at n = Unit {0}

-- a number with its sign
abbrev pub signed_number : Bool → ℕ → ℤ
signed_number is_negative n = if is_negative then neg_ℤ (pos n) else pos n

-- the number, if 64 bits signed hold it, and else nothing
abbrev pub IsInRange : ℤ → Option ℤ → Type 0
IsInRange z (Some k) = (k ≡ z) × (is_int z ≡ true)
IsInRange z None = is_int z ≡ false

-- the bytes that a run has
abbrev pub goes_on_with : Run → ℕ → Bool
goes_on_with InName x = is_bare_name_byte x
goes_on_with (InQuotes quote) x = not (x == quote || (x == 92 || nat_lt 255 x))
goes_on_with InComment x = not (x == 10 || nat_lt 255 x)
goes_on_with InDigits x = is_alphanumeric x || x == 95
goes_on_with InBlanks x = nat_le x 32
goes_on_with InText x = nat_le x 255
