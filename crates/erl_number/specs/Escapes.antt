-- A character where one is spelled: itself, or an escape (Erlang Reference Manual, Data Types, Escape Sequences).
use Rattle.std.specs.Prelude.{ℕ, ◌+◌, ◌%◌, Bool, ◌&&◌, ◌||◌, List, [], ◌∷◌, length, take, drop, nat_lt, nat_le, ◌==◌, if◌then◌else◌, Option, Some, None, chars}
use Rattle.std.specs.Char.{is_digit}
use Rattle.std.specs.Str.{continuation_len}
use Rattle.std.specs.Str.Parse.{digits_value}

-- low to high, both of them too
abbrev pub is_in : ℕ → ℕ → ℕ → Bool
is_in low high x = nat_le low x && nat_le x high

-- the bytes up to the first that doesn't pass
abbrev pub leading : (ℕ → Bool) → List ℕ → List ℕ
leading p [] = []
leading p (x ∷ xs) = if p x then x ∷ leading p xs else []

-- A character that so many bytes spell, bytes that spell none, or bytes that end within one.
pub data Character : Type 0 where
  means : ℕ → ℕ → Character
  senseless : Character
  unfinished : Character

-- what the next byte decides: the bytes end where there is none, and where they are no longer UTF-8
abbrev pub with_next : List ℕ → (ℕ → List ℕ → Character) → Character
with_next [] decide = unfinished
with_next (x ∷ xs) decide = if nat_lt 255 x then unfinished else decide x xs

-- the first of these characters, in so many bytes
abbrev pub first_of : List ℕ → ℕ → Character
first_of [] size = unfinished
first_of (c ∷ cs) size = means c size

-- the character at the front of a text
abbrev pub itself : ℕ → List ℕ → Character
itself x xs = first_of (chars (take (continuation_len x + 1) (x ∷ xs))) (continuation_len x + 1)

-- the character with this number, if there is one (Unicode, scalar values)
abbrev pub scalar : ℕ → ℕ → Character
scalar c size = if nat_lt c 0xD800 || is_in 0xE000 0x10FFFF c then means c size else senseless

-- one to three octal digits
abbrev pub octal : List ℕ → Character
octal xs = let ds = take 3 (leading (λ c. is_digit c 8) xs) in scalar (digits_value 8 ds) (length ds)

-- hexadecimal digits up to a brace, after `x{`
abbrev pub braced : List ℕ → Character
braced xs =
    let ds = leading (λ c. is_digit c 16) xs in
    with_next (drop (length ds) xs) (λ y ys. if y == 125 && nat_lt 0 (length ds) then scalar (digits_value 16 ds) (length ds + 3) else senseless)

-- two hexadecimal digits, after `x`
abbrev pub paired : ℕ → List ℕ → Character
paired x xs = with_next xs (λ y ys. if is_digit y 16 then means (digits_value 16 (x ∷ y ∷ [])) 3 else senseless)

-- the character of the bytes after `\x`
abbrev pub hexadecimal : List ℕ → Character
hexadecimal xs = with_next xs (λ y ys. if y == 123 then braced ys else if is_digit y 16 then paired y ys else senseless)

-- a control character by the letter above it, after `^`
abbrev pub caret : List ℕ → Character
caret xs = with_next xs (λ y ys. if is_in 64 95 y || is_in 97 122 y then means (y % 32) 2 else senseless)

-- the character that a letter after a backslash stands for, if not for itself
abbrev pub letter_character : ℕ → Option ℕ
letter_character x =
    if x == 98 then Some 8 else if x == 100 then Some 127 else if x == 101 then Some 27
    else if x == 102 then Some 12 else if x == 110 then Some 10 else if x == 114 then Some 13
    else if x == 115 then Some 32 else if x == 116 then Some 9 else if x == 118 then Some 11 else None

-- the character that a name means after a backslash, or else the character itself
abbrev pub by_name : Option ℕ → ℕ → List ℕ → Character
by_name (Some c) x xs = means c 1
by_name None x xs = itself x xs

-- what stands after a backslash
abbrev pub escape : List ℕ → Character
escape bytes =
    with_next bytes (λ x xs. if is_digit x 8 then octal (x ∷ xs) else if x == 120 then hexadecimal xs else if x == 94 then caret xs else by_name (letter_character x) x xs)
