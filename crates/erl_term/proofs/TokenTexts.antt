-- The tokens of the texts of bare names and numbers, whatever stands before and after.
use Rattle.std.proofs.Common.{◌≡◌, ℕ, zero, suc, lit<, ℤ, pos, negsuc, ◌+◌, ◌-◌, ◌<◌, ◌^◌, Bool, true, false, ◌||◌, ◌==◌, nat_lt, nat_le, List, [], ◌∷◌, ◌++◌, length, get_or, drop, filter, codes, if◌then◌else◌, refl, ap, subst, ◌∙◌, not, arith}
use Rattle.std.specs.Char.{is_digit, digit_value}
use Rattle.std.specs.List.{list_all, list_any}
use Rattle.std.specs.Str.{chars, bytes_eq}
use Rattle.std.specs.Str.Parse.{AllDigits, IsNumeral, digits_value}
use Rattle.std.specs.Fmt.{decimal, signed_decimal}
use Rattle.std.proofs.lemmas.Bool.{and_parts}
use Rattle.std.proofs.lemmas.Bool.Decides.{nat_tests}
use Rattle.std.proofs.lemmas.Fmt.{decimal_is_IsNumeral}
use Rattle.std.proofs.Math.Seq.{drop-append_seam}
use Rattle.std.proofs.lemmas.Str.Parse.{digit_from_value}
use Rattle.erl_token.specs.declared.class.Class.TheVariants.{Letter, Digit}
use Rattle.erl_number.specs.Escapes.{is_in, leading}
use Rattle.erl_number.specs.Numbers.{Numeral, more_digits, digit_row, spelled_by, goes_on_as_float, behind_digits, digits_numeral, numeral, is_int}
use Rattle.erl_number.specs.Numbers.Numeral.{whole}
use Rattle.erl_number.specs.Texts.{is_bare_name_byte}
use Rattle.erl_token.specs.Lexing.{class_of, Token, start_of, goes_on, bare, signed, lex}
use Rattle.erl_token.specs.Lexing.Token.{name, number}
use Rattle.erl_token.specs.Lexing.Start.{token_of}
use Rattle.erl_term.specs.Printing.{has_bare_form, is_bare, reserved_words}
use Rattle.erl_term.specs.Within.{IsShortName}

-- a byte that stands after a term, in the text of one: a comma, a dot or the end of a bracket
abbrev pub is_stop : ℕ → Bool
is_stop x = x == 44 || (x == 46 || (x == 62 || (x == 93 || x == 125)))

-- what stands after a term: such a byte, and no digit after a full stop
abbrev pub IsBehind : List ℕ → Type 0
IsBehind [] = ⊥
IsBehind (x ∷ xs) = (is_stop x ≡ true) × (goes_on_as_float (x ∷ xs) ≡ false)

-- what holds of each of them
by_stop : (P : ℕ → Type 0) → P 44 → P 46 → P 62 → P 93 → P 125 → (x : ℕ) → is_stop x ≡ true → P x
by_stop P a b c d e x h = go (x == 44) (x == 46) (x == 62) (x == 93) (x == 125) refl refl refl refl refl h
  where
    is : (n : ℕ) → (x == n) ≡ true → P n → P x
    is n t p = let same : n ≡ x = grind (arith, nat_tests) in subst P same p

    go : (r s t u v : Bool) → (x == 44) ≡ r → (x == 46) ≡ s → (x == 62) ≡ t → (x == 93) ≡ u → (x == 125) ≡ v → (r || (s || (t || (u || v)))) ≡ true → P x
    go true s t u v p q m n o h = is 44 p a
    go false true t u v p q m n o h = is 46 q b
    go false false true u v p q m n o h = is 62 m c
    go false false false true v p q m n o h = is 93 n d
    go false false false false true p q m n o h = is 125 o e
    go false false false false false p q m n o h = absurd cc

-- the bytes of a token are passed over
pub lex_passes : (xs rest : List ℕ) (at : ℕ) → lex at (length xs) (xs ++ rest) ≡ lex (at + length xs) 0 rest
lex_passes [] rest at = ap (λ n. lex n 0 rest) (omega arith)
lex_passes (x ∷ xs) rest at = lex_passes xs rest (at + 1) ∙ ap (λ n. lex n 0 rest) (omega arith)

-- a token, and what stands after it
pub lex_token : (x : ℕ) (xs rest : List ℕ) (at : ℕ) (t : Token) →
    start_of at (class_of x) x (xs ++ rest) ≡ token_of (record { token = t; size = length (x ∷ xs) }) →
    lex at 0 (x ∷ (xs ++ rest)) ≡ record { token = t; from = at; to = at + length (x ∷ xs) } ∷ lex (at + length (x ∷ xs)) 0 rest
lex_token x xs rest at t e =
    let size : length (x ∷ xs) - 1 ≡ length xs = omega arith in
    ap (λ s. goes_on at s (λ n. lex (at + 1) n (xs ++ rest))) e
    ∙ ap (λ l. record { token = t; from = at; to = at + length (x ∷ xs) } ∷ l)
    (ap (λ n. lex (at + 1) n (xs ++ rest)) size ∙ lex_passes xs rest (at + 1) ∙ ap (λ n. lex n 0 rest) (omega arith))

-- names

letter_class : (x : ℕ) → is_in 97 122 x ≡ true → class_of x ≡ Letter
letter_class x h = grind (arith, nat_tests)

-- a name ends where the term ends
name_bytes-behind : (s rest : List ℕ) → list_all is_bare_name_byte s ≡ true → IsBehind rest → leading is_bare_name_byte (s ++ rest) ≡ s
name_bytes-behind [] [] h b = elim b [ ]
name_bytes-behind [] (x ∷ xs) h b = let stops : is_bare_name_byte x ≡ false = by_stop (λ y. is_bare_name_byte y ≡ false) refl refl refl refl refl x b.0 in rw stops refl
name_bytes-behind (x ∷ s) rest h b =
    let p = and_parts (is_bare_name_byte x) (list_all is_bare_name_byte s) h in
    rw p.0 (ap (λ t. x ∷ t) (name_bytes-behind s rest p.1 b))

-- each fails the test, where none of them passes
none_passes : (p : List ℕ → Bool) (ws : List (List ℕ)) (i : ℕ) (d : List ℕ) → i < length ws → not (list_any p ws) ≡ true → p (get_or ws i d) ≡ false
none_passes p [] i d l h = absurd (omega (arith, l))
none_passes p (w ∷ ws) i d l h = go (p w) (list_any p ws) i refl l h (λ j m g. none_passes p ws j d m g)
  where
    go : (a b : Bool) (i : ℕ) → p w ≡ a → i < length (w ∷ ws) → not (a || b) ≡ true → ((j : ℕ) → j < length ws → not b ≡ true → p (get_or ws j d) ≡ false)
        → p (get_or (w ∷ ws) i d) ≡ false
    go true b i e l h more = absurd cc
    go false b zero e l h more = e
    go false b (suc i) e l h more = more i (omega (arith, l)) h

-- a name of the bare form, and not reserved, is one token
pub lex_name : (s rest : List ℕ) (at : ℕ) → is_bare s ≡ true → IsShortName s → IsBehind rest →
    lex at 0 (s ++ rest) ≡ record { token = name s; from = at; to = at + length s } ∷ lex (at + length s) 0 rest
lex_name [] rest at h l b = absurd cc
lex_name (x ∷ xs) rest at h l b =
    let own = and_parts (has_bare_form (x ∷ xs)) (not (list_any (bytes_eq (x ∷ xs)) reserved_words)) h in
    let p = and_parts (is_in 97 122 x) (list_all is_bare_name_byte xs) own.0 in
    let other : bytes_eq (x ∷ xs) (codes "fun") ≡ false = none_passes (bytes_eq (x ∷ xs)) reserved_words 16 [] (lit< tt) own.1 in
    let short : nat_le (length (chars (x ∷ xs))) 255 ≡ true = grind (arith, nat_tests) in
    let is_name : bare at (x ∷ xs) ≡ record { token = name (x ∷ xs); size = length (x ∷ xs) } = rw (other, short) refl in
    lex_token x xs rest at (name (x ∷ xs)) (rw (letter_class x p.0, name_bytes-behind xs rest p.1 b) (ap token_of is_name))

-- numbers

digit_class : (x : ℕ) → digit_value x < 10 → class_of x ≡ Digit
digit_class x h = let range = digit_from_value x h in grind (arith, nat_tests)

-- a row of digits ends where the number ends
more_digits-behind : (ds rest : List ℕ) → AllDigits 10 ds → IsBehind rest → more_digits 10 (ds ++ rest) ≡ ds
more_digits-behind [] [] h b = elim b [ ]
more_digits-behind [] (x ∷ xs) h b =
    let stops : is_digit x 10 ≡ false = by_stop (λ y. is_digit y 10 ≡ false) refl refl refl refl refl x b.0 in
    let other : (x == 95) ≡ false = by_stop (λ y. (y == 95) ≡ false) refl refl refl refl refl x b.0 in
    rw (stops, other) refl
more_digits-behind (d ∷ ds) rest h b =
    let digit : is_digit d 10 ≡ true = let first = h.0 in grind (arith, nat_tests) in
    rw digit (ap (λ xs. d ∷ xs) (more_digits-behind ds rest h.1 b))

digits_alone : (ds : List ℕ) → AllDigits 10 ds → filter (λ x. not (x == 95)) ds ≡ ds
digits_alone [] h = refl
digits_alone (d ∷ ds) h =
    let range = digit_from_value d h.0 in
    let other : (d == 95) ≡ false = grind (arith, nat_tests) in
    rw other (ap (λ xs. d ∷ xs) (digits_alone ds h.1))

-- after the digits of a number stands neither a base nor what makes a float of it
behind_digits-stop : (start at : ℕ) (ds rest : List ℕ) → IsBehind rest → behind_digits start at ds rest ≡ whole (spelled_by 10 ds) (length ds)
behind_digits-stop start at ds [] b = elim b [ ]
behind_digits-stop start at ds (x ∷ xs) b =
    let other : (x == 35) ≡ false = by_stop (λ y. (y == 35) ≡ false) refl refl refl refl refl x b.0 in
    rw (other, b.1) refl

chosen : (b : Bool) (m n : Numeral) → b ≡ true → (if b then m else n) ≡ m
chosen true m n e = refl
chosen false m n e = absurd cc

-- a number in digits is that number
numeral-digits : (start at : ℕ) (ds rest : List ℕ) → IsNumeral 10 ds → IsBehind rest → numeral start at (ds ++ rest) ≡ whole (digits_value 10 ds) (length ds)
numeral-digits start at [] rest h b = absurd (omega (arith, h.0))
numeral-digits start at (d ∷ ds) rest h b =
    let digit : is_digit d 10 ≡ true = let first = h.1.0 in grind (arith, nat_tests) in
    let row : digit_row 10 (d ∷ (ds ++ rest)) ≡ d ∷ ds = rw digit (ap (λ xs. d ∷ xs) (more_digits-behind ds rest h.1.1 b)) in
    let worth : spelled_by 10 (d ∷ ds) ≡ digits_value 10 (d ∷ ds) = ap (digits_value 10) (digits_alone (d ∷ ds) h.1) in
    let in_digits : numeral start at (d ∷ (ds ++ rest)) ≡ digits_numeral start at (d ∷ (ds ++ rest)) = chosen (is_digit d 10) _ _ digit in
    in_digits
    ∙ (ap (λ r. behind_digits start at r (drop (length r) (d ∷ (ds ++ rest)))) row
    ∙ (ap (behind_digits start at (d ∷ ds)) (drop-append_seam (d ∷ ds) rest)
    ∙ (behind_digits-stop start at (d ∷ ds) rest b ∙ ap (λ n. whole n (length (d ∷ ds))) worth)))

-- after a sign a number stands at once
signed-number : (at n : ℕ) (ds rest : List ℕ) → IsNumeral 10 ds → digits_value 10 ds ≡ suc n → n < 2 ^ 63 → IsBehind rest
    → signed at 45 (ds ++ rest) ≡ record { token = number (negsuc n); size = length (45 ∷ ds) }
signed-number at n [] rest h e l b = absurd (omega (arith, h.0))
signed-number at n (d ∷ ds) rest h e l b =
    let range = digit_from_value d h.1.0 in
    let no_blank : nat_le d 32 ≡ false = grind (arith, nat_tests) in
    let fits : nat_lt n (2 ^ 63) ≡ true = grind (arith, nat_tests) in
    let size : 1 + length (d ∷ ds) ≡ length (45 ∷ d ∷ ds) = omega arith in
    rw (no_blank, numeral-digits at (at + 1 + 0) (d ∷ ds) rest h b, e, fits, size) refl

-- a number is one token
pub lex_number : (n : ℤ) (rest : List ℕ) (at : ℕ) → is_int n ≡ true → IsBehind rest →
    lex at 0 (signed_decimal n ++ rest) ≡ record { token = number n; from = at; to = at + length (signed_decimal n) } ∷ lex (at + length (signed_decimal n)) 0 rest
lex_number (pos n) rest at h b =
    let small : n < 2 ^ 63 = grind (arith, nat_tests) in
    let is = decimal_is_IsNumeral n (omega arith) in
    go (decimal n) is.0 is.1
  where
    go : (ds : List ℕ) → IsNumeral 10 ds → digits_value 10 ds ≡ n →
        lex at 0 (ds ++ rest) ≡ record { token = number (pos n); from = at; to = at + length ds } ∷ lex (at + length ds) 0 rest
    go [] p e = absurd (omega (arith, p.0))
    go (x ∷ xs) p e =
        let size : 0 + length (x ∷ xs) ≡ length (x ∷ xs) = omega arith in
        let whole_number : numeral at at (x ∷ (xs ++ rest)) ≡ whole n (length (x ∷ xs)) = numeral-digits at at (x ∷ xs) rest p b ∙ ap (λ m. whole m (length (x ∷ xs))) e in
        lex_token x xs rest at (number (pos n)) (rw (digit_class x p.1.0, whole_number, h, size) refl)
lex_number (negsuc n) rest at h b =
    let small : n < 2 ^ 63 = grind (arith, nat_tests) in
    let is = decimal_is_IsNumeral (suc n) (omega arith) in
    lex_token 45 (decimal (suc n)) rest at (number (negsuc n)) (ap token_of (signed-number at n (decimal (suc n)) rest is.0 is.1 small b))
