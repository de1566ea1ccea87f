-- How many bytes a token takes: at least one, and at most as many as there are.
use Rattle.std.proofs.Common.{◌≡◌, ℕ, ℤ, pos, zero, suc, ◌+◌, ◌-◌, ◌*◌, ◌%◌, ◌<◌, ◌≤◌, Bool, true, false, ◌&&◌, ◌||◌, ◌==◌, if◌then◌else◌, nat_lt, nat_le, List, [], ◌∷◌, length, take, drop, Option, Some, None, refl, ap, subst, ◌∙◌, arith}
use Rattle.std.specs.Prelude.{codes, encode_utf8}
use Rattle.std.specs.Char.{is_digit}
use Rattle.std.specs.Str.{chars, chars_after, continuation_len, lead_bits, bytes_eq}
use Rattle.std.specs.Str.Parse.{digits_value}
use Rattle.std.proofs.lemmas.Bool.Decides.{nat_tests}
use Rattle.std.proofs.lemmas.List.{length-take, length-drop}
use Rattle.erl_token.specs.declared.class.Class.{Class}
use Rattle.erl_token.specs.declared.class.Class.TheVariants.{Less, Greater, Quote, Apostrophe, Dollar, Sign, Letter, Digit}
use Rattle.erl_number.specs.Escapes.{Character, is_in, leading, with_next, first_of, itself, scalar, octal, braced, paired, hexadecimal, caret, letter_character, by_name, escape}
use Rattle.erl_number.specs.Escapes.Character.{means, senseless, unfinished}
use Rattle.erl_number.specs.Numbers.{Numeral, more_digits, digit_row, begins, spelled_by, unless_float, goes_on_as_float, is_alphanumeric, in_base, behind_base, behind_digits, digits_numeral, character_number, ended, character_numeral, numeral, is_int}
use Rattle.erl_number.specs.Numbers.Numeral.{whole, faulty as faulty_number, cut_off}
use Rattle.erl_token.specs.Quotes.{Quoted, quoted, behind, escaped}
use Rattle.erl_token.specs.Quotes.Quoted.{closed, faulty}
use Rattle.erl_number.specs.declared.fault.TermFault.TheVariants.{BadToken, BadNumber, Unsupported}
use Rattle.erl_token.specs.Lexing.Token.{open_binary, close_binary, name, number, stray, broken}
use Rattle.erl_number.specs.Texts.{is_bare_name_byte}
use Rattle.erl_token.specs.Lexing.{Token, Spelling, alone, some_name, some_number, name_spelling, bare, name_in_quotes, text_in_quotes, numbered, sign_of, signed, doubled, spelling, comment_size}

-- at least one byte, and at most so many
abbrev pub Holds : ℕ → ℕ → Type 0
Holds most size = (0 < size) × (size ≤ most)

pub leading_size : (p : ℕ → Bool) (xs : List ℕ) → length (leading p xs) ≤ length xs
leading_size p [] = omega arith
leading_size p (x ∷ xs) = go (p x) (leading_size p xs)
  where
    go : (b : Bool) → length (leading p xs) ≤ length xs → length (if b then x ∷ leading p xs else []) ≤ length (x ∷ xs)
    go true h = omega arith
    go false h = omega arith

pub comment_fits : (xs : List ℕ) → comment_size xs ≤ length xs
comment_fits [] = omega arith
comment_fits (x ∷ xs) = go (x == 10 || nat_lt 255 x) (comment_fits xs)
  where
    go : (b : Bool) → comment_size xs ≤ length xs → (if b then 0 else comment_size xs + 1) ≤ length (x ∷ xs)
    go true h = omega arith
    go false h = omega arith

-- Characters

abbrev pub CharacterHolds : ℕ → Character → Type 0
CharacterHolds most (means c size) = Holds most size
CharacterHolds most c = Unit {0}

-- bytes that end within a character spell none
chars_short : (k c : ℕ) (bs : List ℕ) → length bs < k → chars_after k c bs ≡ []
chars_short zero c bs l = absurd (omega arith)
chars_short (suc k) c [] l = refl
chars_short (suc k) c (b ∷ bs) l = chars_short k (c * 64 + (b - 128)) bs (omega arith)

first_holds : (cs : List ℕ) (most size : ℕ) → Holds most size → CharacterHolds most (first_of cs size)
first_holds [] most size h = tt
first_holds (c ∷ cs) most size h = h

pub itself_holds : (x : ℕ) (xs : List ℕ) → CharacterHolds (length xs + 1) (itself x xs)
unfolding chars
itself_holds x xs = go (nat_lt (length xs) (continuation_len x)) refl
  where
    go : (b : Bool) → nat_lt (length xs) (continuation_len x) ≡ b → CharacterHolds (length xs + 1) (itself x xs)
    go true e =
        let size : length (take (continuation_len x) xs) ≤ length xs = omega (arith, length-take (continuation_len x) xs) in
        let less : length (take (continuation_len x) xs) < continuation_len x = grind (arith, nat_tests) in
        let next : continuation_len x + 1 ≡ suc (continuation_len x) = omega arith in
        let none : chars (take (continuation_len x + 1) (x ∷ xs)) ≡ [] = ap (λ n. chars (take n (x ∷ xs))) next ∙ chars_short (continuation_len x) (lead_bits x) (take (continuation_len x) xs) less in
        rw none tt
    go false e =
        let fits : continuation_len x ≤ length xs = grind (arith, nat_tests) in
        first_holds (chars (take (continuation_len x + 1) (x ∷ xs))) (length xs + 1) (continuation_len x + 1) (omega arith, omega arith)

if_holds : (b : Bool) (most : ℕ) (c d : Character) → CharacterHolds most c → CharacterHolds most d → CharacterHolds most (if b then c else d)
if_holds true most c d h k = h
if_holds false most c d h k = k

scalar_holds : (c most size : ℕ) → Holds most size → CharacterHolds most (scalar c size)
scalar_holds c most size h = if_holds (nat_lt c 0xD800 || is_in 0xE000 0x10FFFF c) most (means c size) senseless h tt

next_holds : (most : ℕ) (xs : List ℕ) (decide : ℕ → List ℕ → Character) → ((x : ℕ) (ys : List ℕ) → xs ≡ x ∷ ys → CharacterHolds most (decide x ys))
    → CharacterHolds most (with_next xs decide)
next_holds most [] decide h = tt
next_holds most (x ∷ xs) decide h = if_holds (nat_lt 255 x) most unfinished (decide x xs) tt (h x xs refl)

octal_holds : (x : ℕ) (xs : List ℕ) → is_digit x 8 ≡ true → CharacterHolds (length (x ∷ xs)) (octal (x ∷ xs))
octal_holds x xs d =
    let row = leading (λ c. is_digit c 8) (x ∷ xs) in
    let first : row ≡ x ∷ leading (λ c. is_digit c 8) xs = rw d refl in
    let most = leading_size (λ c. is_digit c 8) (x ∷ xs) in
    scalar_holds (digits_value 8 (take 3 row)) (length (x ∷ xs)) (length (take 3 row)) (omega (arith, length-take 3 row, ap length first), omega (arith, length-take 3 row, most))

braced_holds : (xs : List ℕ) → CharacterHolds (length xs + 2) (braced xs)
braced_holds xs =
    let row = leading (λ c. is_digit c 16) xs in
    next_holds (length xs + 2) (drop (length row) xs) (λ y ys. if y == 125 && nat_lt 0 (length row) then scalar (digits_value 16 row) (length row + 3) else senseless)
    (λ y ys e. if_holds (y == 125 && nat_lt 0 (length row)) (length xs + 2) (scalar (digits_value 16 row) (length row + 3)) senseless
    (scalar_holds (digits_value 16 row) (length xs + 2) (length row + 3) (omega arith, omega (arith, length-drop (length row) xs, ap length e))) tt)

paired_holds : (x : ℕ) (xs : List ℕ) → CharacterHolds (length xs + 2) (paired x xs)
paired_holds x xs =
    next_holds (length xs + 2) xs (λ y ys. if is_digit y 16 then means (digits_value 16 (x ∷ y ∷ [])) 3 else senseless)
    (λ y ys e. if_holds (is_digit y 16) (length xs + 2) (means (digits_value 16 (x ∷ y ∷ [])) 3) senseless (omega arith, omega (arith, ap length e)) tt)

hexadecimal_holds : (xs : List ℕ) → CharacterHolds (length xs + 1) (hexadecimal xs)
hexadecimal_holds [] = tt
hexadecimal_holds (x ∷ xs) =
    let most : length xs + 2 ≡ length (x ∷ xs) + 1 = omega arith in
    if_holds (nat_lt 255 x) (length (x ∷ xs) + 1) unfinished (if x == 123 then braced xs else if is_digit x 16 then paired x xs else senseless) tt
    (if_holds (x == 123) (length (x ∷ xs) + 1) (braced xs) (if is_digit x 16 then paired x xs else senseless)
    (subst (λ n. CharacterHolds n (braced xs)) most (braced_holds xs))
    (if_holds (is_digit x 16) (length (x ∷ xs) + 1) (paired x xs) senseless (subst (λ n. CharacterHolds n (paired x xs)) most (paired_holds x xs)) tt))

caret_holds : (xs : List ℕ) → CharacterHolds (length xs + 1) (caret xs)
caret_holds xs =
    next_holds (length xs + 1) xs (λ y ys. if is_in 64 95 y || is_in 97 122 y then means (y % 32) 2 else senseless)
    (λ y ys e. if_holds (is_in 64 95 y || is_in 97 122 y) (length xs + 1) (means (y % 32) 2) senseless (omega arith, omega (arith, ap length e)) tt)

named_holds : (o : Option ℕ) (x : ℕ) (xs : List ℕ) → CharacterHolds (length xs + 1) (by_name o x xs)
named_holds (Some c) x xs = (omega arith, omega arith)
named_holds None x xs = itself_holds x xs

pub escape_holds : (xs : List ℕ) → CharacterHolds (length xs) (escape xs)
escape_holds [] = tt
escape_holds (x ∷ xs) =
    let n = length (x ∷ xs) in
    let one : length xs + 1 ≡ n = omega arith in
    let other : Character = if x == 94 then caret xs else by_name (letter_character x) x xs in
    if_holds (nat_lt 255 x) n unfinished (if is_digit x 8 then octal (x ∷ xs) else if x == 120 then hexadecimal xs else other) tt
    (go (is_digit x 8) (if x == 120 then hexadecimal xs else other) refl (if_holds (x == 120) n (hexadecimal xs) other (subst (λ m. CharacterHolds m (hexadecimal xs)) one (hexadecimal_holds xs))
    (if_holds (x == 94) n (caret xs) (by_name (letter_character x) x xs) (subst (λ m. CharacterHolds m (caret xs)) one (caret_holds xs))
    (subst (λ m. CharacterHolds m (by_name (letter_character x) x xs)) one (named_holds (letter_character x) x xs)))))
  where
    go : (b : Bool) (c : Character) → is_digit x 8 ≡ b → CharacterHolds (length (x ∷ xs)) c → CharacterHolds (length (x ∷ xs)) (if b then octal (x ∷ xs) else c)
    go true c e h = octal_holds x xs e
    go false c e h = h

-- Numbers

abbrev pub NumeralHolds : ℕ → Numeral → Type 0
NumeralHolds most (whole n size) = Holds most size
NumeralHolds most n = Unit {0}

either_holds : (b : Bool) (most : ℕ) (n m : Numeral) → NumeralHolds most n → NumeralHolds most m → NumeralHolds most (if b then n else m)
either_holds true most n m h k = h
either_holds false most n m h k = k

in_base_holds : (start base size : ℕ) (xs : List ℕ) → 0 < size → NumeralHolds (size + length xs) (in_base start base size xs)
in_base_holds start base size xs some =
    let row = leading (λ x. is_alphanumeric x || x == 95) xs in
    let n : Numeral = if is_in 2 36 base && bytes_eq (digit_row base xs) row then whole (spelled_by base row) (size + length row) else faulty_number (BadNumber start) in
    either_holds (goes_on_as_float (drop (length row) xs)) (size + length xs) (faulty_number (Unsupported start)) n tt
    (either_holds (is_in 2 36 base && bytes_eq (digit_row base xs) row) (size + length xs) (whole (spelled_by base row) (size + length row)) (faulty_number (BadNumber start))
    (omega arith, omega (arith, leading_size (λ x. is_alphanumeric x || x == 95) xs)) tt)

behind_base_holds : (start base size at : ℕ) (xs : List ℕ) → 0 < size → NumeralHolds (size + length xs) (behind_base start base size at xs)
behind_base_holds start base size at [] some = tt
behind_base_holds start base size at (x ∷ xs) some =
    either_holds (is_alphanumeric x) (size + length (x ∷ xs)) (in_base start base size (x ∷ xs)) (faulty_number (BadToken at)) (in_base_holds start base size (x ∷ xs) some) tt

more_digits_size : (base : ℕ) (xs : List ℕ) → length (more_digits base xs) ≤ length xs
more_digits_size base [] = omega arith
more_digits_size base (x ∷ xs) = go (is_digit x base || (x == 95 && begins (λ y. is_digit y base) xs)) (more_digits_size base xs)
  where
    go : (b : Bool) → length (more_digits base xs) ≤ length xs → length (if b then x ∷ more_digits base xs else []) ≤ length (x ∷ xs)
    go true h = omega arith
    go false h = omega arith

behind_digits_holds : (start at most : ℕ) (row xs : List ℕ) → 0 < length row → length row + length xs ≤ most → NumeralHolds most (behind_digits start at row xs)
behind_digits_holds start at most row [] some l = (some, omega arith)
behind_digits_holds start at most row (x ∷ xs) some l =
    let n : Numeral = unless_float start (x ∷ xs) (whole (spelled_by 10 row) (length row)) in
    let rest = behind_base_holds start (spelled_by 10 row) (length row + 1) (at + length row + 1) xs (omega arith) in
    either_holds (x == 35) most (behind_base start (spelled_by 10 row) (length row + 1) (at + length row + 1) xs) n
    (less (behind_base start (spelled_by 10 row) (length row + 1) (at + length row + 1) xs) (length row + 1 + length xs) most (omega arith) rest)
    (either_holds (goes_on_as_float (x ∷ xs)) most (faulty_number (Unsupported start)) (whole (spelled_by 10 row) (length row)) tt (some, omega arith))
  where
    less : (n : Numeral) (few most : ℕ) → few ≤ most → NumeralHolds few n → NumeralHolds most n
    less (whole k size) few most l h = (h.0, omega (arith, h.1))
    less n few most l h = tt

digits_holds : (start at x : ℕ) (xs : List ℕ) → is_digit x 10 ≡ true → NumeralHolds (length (x ∷ xs)) (digits_numeral start at (x ∷ xs))
digits_holds start at x xs d =
    let row = digit_row 10 (x ∷ xs) in
    let whole_row : row ≡ x ∷ more_digits 10 xs = rw d refl in
    let size = more_digits_size 10 xs in
    behind_digits_holds start at (length (x ∷ xs)) row (drop (length row) (x ∷ xs)) (omega (arith, ap length whole_row))
    (omega (arith, length-drop (length row) (x ∷ xs), ap length whole_row))

character_number_holds : (size most at : ℕ) (xs : List ℕ) (c : Character) → CharacterHolds most c → NumeralHolds (size + most) (character_number size at xs c)
character_number_holds size most at xs (means c n) h = (omega (arith, h.0), omega (arith, h.1))
character_number_holds size most at xs senseless h = tt
character_number_holds size most at xs unfinished h = ended_holds (size + most) (at + 1) xs
  where
    ended_holds : (most at : ℕ) (xs : List ℕ) → NumeralHolds most (ended at xs)
    ended_holds most at [] = tt
    ended_holds most at (x ∷ xs) = either_holds (nat_lt 255 x) most (faulty_number (BadToken at)) (ended (at + 1) xs) tt (ended_holds most (at + 1) xs)

character_holds : (at : ℕ) (xs : List ℕ) → NumeralHolds (length xs + 1) (character_numeral at xs)
character_holds at [] = tt
character_holds at (x ∷ xs) =
    let n = length (x ∷ xs) + 1 in
    let two : 2 + length xs ≡ n = omega arith in
    let one : 1 + (length xs + 1) ≡ n = omega arith in
    either_holds (nat_lt 255 x) n (faulty_number (BadToken at)) (if x == 92 then character_number 2 at xs (escape xs) else character_number 1 at xs (itself x xs)) tt
    (either_holds (x == 92) n (character_number 2 at xs (escape xs)) (character_number 1 at xs (itself x xs))
    (subst (λ m. NumeralHolds m (character_number 2 at xs (escape xs))) two (character_number_holds 2 (length xs) at xs (escape xs) (escape_holds xs)))
    (subst (λ m. NumeralHolds m (character_number 1 at xs (itself x xs))) one (character_number_holds 1 (length xs + 1) at xs (itself x xs) (itself_holds x xs))))

pub numeral_holds : (start at : ℕ) (xs : List ℕ) → NumeralHolds (length xs) (numeral start at xs)
numeral_holds start at [] = tt
numeral_holds start at (x ∷ xs) =
    let one : length xs + 1 ≡ length (x ∷ xs) = omega arith in
    go (is_digit x 10) (if x == 36 then character_numeral (at + 1) xs else faulty_number (BadToken at)) refl
    (either_holds (x == 36) (length (x ∷ xs)) (character_numeral (at + 1) xs) (faulty_number (BadToken at))
    (subst (λ m. NumeralHolds m (character_numeral (at + 1) xs)) one (character_holds (at + 1) xs)) tt)
  where
    go : (b : Bool) (n : Numeral) → is_digit x 10 ≡ b → NumeralHolds (length (x ∷ xs)) n → NumeralHolds (length (x ∷ xs)) (if b then digits_numeral start at (x ∷ xs) else n)
    go true n e h = digits_holds start at x xs e
    go false n e h = h

-- Quotes

abbrev QuotedHolds : ℕ → Quoted → Type 0
QuotedHolds most (closed s size) = size ≤ most
QuotedHolds most (faulty f) = Unit {0}

behind_holds : (most : ℕ) (text : List ℕ) (q : Quoted) → QuotedHolds most q → QuotedHolds (suc most) (behind text 1 q)
behind_holds most text (closed s size) h = omega arith
behind_holds most text (faulty f) h = tt

quoted_holds : (quote from at n : ℕ) (xs : List ℕ) → QuotedHolds (length xs) (quoted quote from at n xs)
quoted_holds quote from at n [] = tt
quoted_holds quote from at (suc n) (x ∷ xs) = behind_holds (length xs) [] (quoted quote from (at + 1) n xs) (quoted_holds quote from (at + 1) n xs)
quoted_holds quote from at zero (x ∷ xs) = go (x == quote) (nat_lt 255 x) (x == 92) (λ n. quoted_holds quote from (at + 1) n xs)
  where
    there : (c : Character) → ((n : ℕ) → QuotedHolds (length xs) (quoted quote from (at + 1) n xs)) → QuotedHolds (length (x ∷ xs)) (escaped from at xs (λ n. quoted quote from (at + 1) n xs) c)
    there (means c size) h = behind_holds (length xs) (encode_utf8 c) (quoted quote from (at + 1) size xs) (h size)
    there senseless h = tt
    there unfinished h = tt

    go : (a b c : Bool) → ((n : ℕ) → QuotedHolds (length xs) (quoted quote from (at + 1) n xs)) →
        QuotedHolds (length (x ∷ xs)) (if a then closed [] 1 else if b then faulty (BadToken at) else if c then escaped from at xs (λ n. quoted quote from (at + 1) n xs) (escape xs) else behind (x ∷ []) 1 (quoted quote from (at + 1) 0 xs))
    go true b c h = omega arith
    go false true c h = tt
    go false false true h = there (escape xs) h
    go false false false h = behind_holds (length xs) (x ∷ []) (quoted quote from (at + 1) 0 xs) (h 0)

-- Tokens

abbrev pub SpellingHolds : ℕ → Spelling → Type 0
SpellingHolds most s = Holds most s.size

choice_holds : (b : Bool) (most : ℕ) (s t : Spelling) → SpellingHolds most s → SpellingHolds most t → SpellingHolds most (if b then s else t)
choice_holds true most s t h k = h
choice_holds false most s t h k = k

name_holds : (at most : ℕ) (s : List ℕ) (size : ℕ) → Holds most size → SpellingHolds most (name_spelling at s size)
name_holds at most s size h =
    choice_holds (nat_le (length (chars s)) 255) most (record { token = name s; size = size }) (alone (broken some_name (BadToken at))) h (omega arith, omega (arith, h.0, h.1))

number_holds : (at : ℕ) (sign : ℕ → ℤ) (size most : ℕ) (n : Numeral) → NumeralHolds most n → 0 < size + most → SpellingHolds (size + most) (numbered at sign size n)
number_holds at sign size most (whole n m) h some =
    choice_holds (is_int (sign n)) (size + most) (record { token = number (sign n); size = size + m }) (alone (broken some_number (BadNumber at)))
    (omega (arith, h.0), omega (arith, h.1)) (omega arith, omega arith)
number_holds at sign size most (faulty_number f) h some = (omega arith, omega arith)
number_holds at sign size most cut_off h some = (omega arith, omega arith)

unsigned_holds : (at x : ℕ) (xs : List ℕ) → SpellingHolds (length (x ∷ xs)) (numbered at pos 0 (numeral at at (x ∷ xs)))
unsigned_holds at x xs =
    let n = numeral at at (x ∷ xs) in
    subst (λ m. SpellingHolds m (numbered at pos 0 n)) (omega arith) (number_holds at pos 0 (length (x ∷ xs)) n (numeral_holds at at (x ∷ xs)) (omega arith))

signed_holds : (at x : ℕ) (xs : List ℕ) → SpellingHolds (length (x ∷ xs)) (signed at x xs)
signed_holds at x xs =
    let n = length (leading (λ y. nat_le y 32) xs) in
    let all : n + 1 + length (drop n xs) ≡ length (x ∷ xs) = omega (arith, leading_size (λ y. nat_le y 32) xs, length-drop n xs) in
    subst (λ m. SpellingHolds m (signed at x xs)) all
    (number_holds at (sign_of x) (n + 1) (length (drop n xs)) (numeral at (at + 1 + n) (drop n xs)) (numeral_holds at (at + 1 + n) (drop n xs)) (omega arith))

doubled_holds : (t : Token) (x : ℕ) (xs : List ℕ) → SpellingHolds (length (x ∷ xs)) (doubled t x xs)
doubled_holds t x [] = (omega arith, omega arith)
doubled_holds t x (y ∷ ys) = choice_holds (y == x) (length (x ∷ y ∷ ys)) (record { token = t; size = 2 }) (alone (stray x)) (omega arith, omega arith) (omega arith, omega arith)

bare_holds : (at x : ℕ) (xs : List ℕ) → SpellingHolds (length (x ∷ xs)) (bare at (x ∷ leading is_bare_name_byte xs))
bare_holds at x xs =
    let s = x ∷ leading is_bare_name_byte xs in
    choice_holds (bytes_eq s (codes "fun")) (length (x ∷ xs)) (alone (broken some_name (Unsupported at))) (name_spelling at s (length s)) (omega arith, omega arith)
    (name_holds at (length (x ∷ xs)) s (length s) (omega arith, omega (arith, leading_size is_bare_name_byte xs)))

text_quotes_hold : (x : ℕ) (xs : List ℕ) (q : Quoted) → QuotedHolds (length xs) q → SpellingHolds (length (x ∷ xs)) (text_in_quotes q)
text_quotes_hold x xs (closed s size) h = (omega arith, omega (arith, h))
text_quotes_hold x xs (faulty f) h = (omega arith, omega arith)

name_quotes_hold : (at x : ℕ) (xs : List ℕ) (q : Quoted) → QuotedHolds (length xs) q → SpellingHolds (length (x ∷ xs)) (name_in_quotes at q)
name_quotes_hold at x xs (closed s size) h = name_holds at (length (x ∷ xs)) s (size + 1) (omega arith, omega (arith, h))
name_quotes_hold at x xs (faulty f) h = (omega arith, omega arith)

-- a token takes at least one byte, and at most those that there are
pub spelling_holds : (at : ℕ) (k : Class) (x : ℕ) (xs : List ℕ) → SpellingHolds (length (x ∷ xs)) (spelling at k x xs)
spelling_holds at Less x xs = doubled_holds open_binary x xs
spelling_holds at Greater x xs = doubled_holds close_binary x xs
spelling_holds at Letter x xs = bare_holds at x xs
spelling_holds at Digit x xs = unsigned_holds at x xs
spelling_holds at Dollar x xs = unsigned_holds at x xs
spelling_holds at Sign x xs = signed_holds at x xs
spelling_holds at Quote x xs = text_quotes_hold x xs (quoted 34 at (at + 1) 0 xs) (quoted_holds 34 at (at + 1) 0 xs)
spelling_holds at Apostrophe x xs = name_quotes_hold at x xs (quoted 39 at (at + 1) 0 xs) (quoted_holds 39 at (at + 1) 0 xs)
spelling_holds at k x xs = (omega arith, omega arith)
