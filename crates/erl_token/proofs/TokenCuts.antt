-- A token of a term is spelled so too where a dot and the end follow it in place of all else.
use Rattle.std.proofs.Common.{◌≡◌, ℕ, ℤ, pos, ◌+◌, ◌≤◌, Bool, true, false, ◌==◌, if◌then◌else◌, nat_le, List, [], ◌∷◌, ◌++◌, length, drop, refl, ap, sym, subst, ◌∙◌, arith}
use Rattle.std.specs.Prelude.{codes}
use Rattle.std.specs.Str.{chars, bytes_eq}
use Rattle.std.proofs.lemmas.List.{length-drop}
use Rattle.erl_number.specs.declared.fault.TermFault.TheVariants.{BadToken, BadNumber, Unsupported}
use Rattle.erl_token.specs.declared.class.Class.{Class}
use Rattle.erl_token.specs.declared.class.Class.TheVariants.{Blank, Percent, Dot, Less, Greater, Quote, Apostrophe, Dollar, Sign, Letter, Digit, Other}
use Rattle.erl_number.specs.Escapes.{leading}
use Rattle.erl_number.specs.Numbers.{Numeral, numeral, is_int}
use Rattle.erl_number.specs.Numbers.Numeral.{whole, faulty as faulty_number, cut_off}
use Rattle.erl_token.specs.Quotes.{Quoted, quoted}
use Rattle.erl_token.specs.Quotes.Quoted.{closed, faulty}
use Rattle.erl_number.specs.Texts.{is_bare_name_byte}
use Rattle.erl_token.specs.Lexing.{Token, Spelling, alone, some_name, some_number, name_spelling, bare, name_in_quotes, text_in_quotes, in_range, numbered, sign_of, signed, doubled, ends_a_term, spelling}
use Rattle.erl_token.specs.Lexing.Token.{open_binary, close_binary, name, number, dot, stray, broken}
use Rattle.erl_token.specs.Rows.{is_of_term}
use Rattle.erl_token.proofs.CutLemmas.{stop, leading_stays, drop_stays}
use Rattle.erl_token.proofs.NumberCuts.{numeral_stays, quoted_stays}

abbrev IsGood : Spelling → Type 0
IsGood s = is_of_term s.token ≡ true

-- a name that is no longer than names may be, wherever it stands
name_moves : (at at' : ℕ) (s : List ℕ) (size : ℕ) → IsGood (name_spelling at s size) → (name_spelling at' s size ≡ name_spelling at s size) × ((name_spelling at s size).size ≡ size)
name_moves at at' s size good = go (nat_le (length (chars s)) 255) good
  where
    go : (b : Bool) → IsGood (if b then record { token = name s; size = size } else alone (broken some_name (BadToken at)))
        → ((if b then record { token = name s; size = size } else alone (broken some_name (BadToken at')))
        ≡ (if b then record { token = name s; size = size } else alone (broken some_name (BadToken at))))
        × ((let t : Spelling = if b then record { token = name s; size = size } else alone (broken some_name (BadToken at)) in t.size) ≡ size)
    go true good = (refl, refl)
    go false good = absurd cc

bare_moves : (at at' : ℕ) (s : List ℕ) → IsGood (bare at s) → (bare at' s ≡ bare at s) × ((bare at s).size ≡ length s)
bare_moves at at' s good = go (bytes_eq s (codes "fun")) good
  where
    go : (b : Bool) → IsGood (if b then alone (broken some_name (Unsupported at)) else name_spelling at s (length s))
        → ((if b then alone (broken some_name (Unsupported at')) else name_spelling at' s (length s)) ≡ (if b then alone (broken some_name (Unsupported at)) else name_spelling at s (length s)))
        × ((let t : Spelling = if b then alone (broken some_name (Unsupported at)) else name_spelling at s (length s) in t.size) ≡ length s)
    go true good = absurd cc
    go false good = name_moves at at' s (length s) good

-- a number that is in range, wherever it stands
number_moves : (at at' : ℕ) (z : ℤ) (size : ℕ) → IsGood (in_range at z size) → (in_range at' z size ≡ in_range at z size) × ((in_range at z size).size ≡ size)
number_moves at at' z size good = go (is_int z) good
  where
    go : (b : Bool) → IsGood (if b then record { token = number z; size = size } else alone (broken some_number (BadNumber at)))
        → ((if b then record { token = number z; size = size } else alone (broken some_number (BadNumber at')))
        ≡ (if b then record { token = number z; size = size } else alone (broken some_number (BadNumber at))))
        × ((let t : Spelling = if b then record { token = number z; size = size } else alone (broken some_number (BadNumber at)) in t.size) ≡ size)
    go true good = (refl, refl)
    go false good = absurd cc

numbered_stays : (at at' start start' from from' : ℕ) (sign : ℕ → ℤ) (size : ℕ) (c d : List ℕ) → IsGood (numbered at sign size (numeral start from (c ++ d)))
    → (numbered at sign size (numeral start from (c ++ d))).size ≤ size + length c
    → numbered at' sign size (numeral start' from' (c ++ stop)) ≡ numbered at sign size (numeral start from (c ++ d))
numbered_stays at at' start start' from from' sign size c d good l = go (numeral start from (c ++ d)) refl good l
  where
    go : (n : Numeral) → numeral start from (c ++ d) ≡ n → IsGood (numbered at sign size n) → (numbered at sign size n).size ≤ size + length c
        → numbered at' sign size (numeral start' from' (c ++ stop)) ≡ numbered at sign size n
    go (whole k n) e good l =
        let moves = number_moves at at' (sign k) (size + n) good in
        ap (numbered at' sign size) (numeral_stays start start' from from' c d k n e (omega (arith, l, moves.1))) ∙ moves.0
    go (faulty_number f) e good l = absurd cc
    go cut_off e good l = absurd cc

signed_stays : (at at' x : ℕ) (c d : List ℕ) → IsGood (signed at x (c ++ d)) → (signed at x (c ++ d)).size ≤ length (x ∷ c) → signed at' x (c ++ stop) ≡ signed at x (c ++ d)
signed_stays at at' x c d good l =
    let blanks = leading (λ y. nat_le y 32) (c ++ d) in
    let n = length blanks in
    let within : n ≤ length c = few (numeral at (at + 1 + n) (drop n (c ++ d))) good l in
    let same = leading_stays (λ y. nat_le y 32) refl c d within in
    let cut = drop_stays n c d within in
    let room : (n + 1) + length (drop n c) ≡ length (x ∷ c) = omega (arith, length-drop n c, within) in
    let here : numbered at (sign_of x) (n + 1) (numeral at (at + 1 + n) (drop n (c ++ d))) ≡ numbered at (sign_of x) (n + 1) (numeral at (at + 1 + n) (drop n c ++ d)) =
    ap (λ r. numbered at (sign_of x) (n + 1) (numeral at (at + 1 + n) r)) cut.0 in
    ap (λ r. numbered at' (sign_of x) (length r + 1) (numeral at' (at' + 1 + length r) (drop (length r) (c ++ stop)))) same
    ∙ (ap (λ r. numbered at' (sign_of x) (n + 1) (numeral at' (at' + 1 + n) r)) cut.1
    ∙ (numbered_stays at at' at at' (at + 1 + n) (at' + 1 + n) (sign_of x) (n + 1) (drop n c) d (subst IsGood here good)
    (subst (λ m. (numbered at (sign_of x) (n + 1) (numeral at (at + 1 + n) (drop n c ++ d))).size ≤ m) (sym room) (subst (λ s. s.size ≤ length (x ∷ c)) here l))
    ∙ sym here))
  where
    few : (m : Numeral) → (let n = length (leading (λ y. nat_le y 32) (c ++ d)) in IsGood (numbered at (sign_of x) (n + 1) m) → (numbered at (sign_of x) (n + 1) m).size ≤ length (x ∷ c) → n ≤ length c)
    few (whole k size) good l =
        let n = length (leading (λ y. nat_le y 32) (c ++ d)) in
        omega (arith, l, (number_moves at at (sign_of x k) (n + 1 + size) good).1)
    few (faulty_number f) good l = absurd cc
    few cut_off good l = absurd cc

doubled_stays : (t : Token) (x : ℕ) (c d : List ℕ) → IsGood (doubled t x (c ++ d)) → (doubled t x (c ++ d)).size ≤ length (x ∷ c) → doubled t x (c ++ stop) ≡ doubled t x (c ++ d)
doubled_stays t x [] [] good l = absurd cc
doubled_stays t x [] (y ∷ d) good l = go (y == x) good l
  where
    go : (b : Bool) → IsGood (if b then record { token = t; size = 2 } else alone (stray x)) → (let s : Spelling = if b then record { token = t; size = 2 } else alone (stray x) in s.size) ≤ 1
        → doubled t x stop ≡ (if b then record { token = t; size = 2 } else alone (stray x))
    go true good l = absurd (omega (arith, l))
    go false good l = absurd cc
doubled_stays t x (y ∷ c) d good l = refl

no_dot : (x : ℕ) (b : Bool) → IsGood (alone (if b then dot else stray x)) → ⊥
no_dot x true good = cc
no_dot x false good = cc

-- A token of a term, which ends within these bytes, is the same where a dot follows them, wherever it stands.
pub spelling_stays : (at at' : ℕ) (k : Class) (x : ℕ) (c d : List ℕ) → IsGood (spelling at k x (c ++ d)) → (spelling at k x (c ++ d)).size ≤ length (x ∷ c)
    → spelling at' k x (c ++ stop) ≡ spelling at k x (c ++ d)
spelling_stays at at' Less x c d good l = doubled_stays open_binary x c d good l
spelling_stays at at' Greater x c d good l = doubled_stays close_binary x c d good l
spelling_stays at at' Dot x c d good l = absurd (no_dot x (ends_a_term (c ++ d)) good)
spelling_stays at at' Letter x c d good l =
    let s = x ∷ leading is_bare_name_byte (c ++ d) in
    let moves = bare_moves at at' s good in
    ap (λ r. bare at' (x ∷ r)) (leading_stays is_bare_name_byte refl c d (omega (arith, l, moves.1))) ∙ moves.0
spelling_stays at at' Digit x c d good l = numbered_stays at at' at at' at at' pos 0 (x ∷ c) d good (omega (arith, l))
spelling_stays at at' Dollar x c d good l = numbered_stays at at' at at' at at' pos 0 (x ∷ c) d good (omega (arith, l))
spelling_stays at at' Sign x c d good l = signed_stays at at' x c d good l
spelling_stays at at' Quote x c d good l = go (quoted 34 at (at + 1) 0 (c ++ d)) refl good l
  where
    go : (q : Quoted) → quoted 34 at (at + 1) 0 (c ++ d) ≡ q → IsGood (text_in_quotes q) → (text_in_quotes q).size ≤ length (x ∷ c) → text_in_quotes (quoted 34 at' (at' + 1) 0 (c ++ stop)) ≡ text_in_quotes q
    go (closed s m) e good l = ap text_in_quotes (quoted_stays 34 at at' (at + 1) (at' + 1) c d 0 s m e (omega (arith, l)))
    go (faulty f) e good l = absurd cc
spelling_stays at at' Apostrophe x c d good l = go (quoted 39 at (at + 1) 0 (c ++ d)) refl good l
  where
    go : (q : Quoted) → quoted 39 at (at + 1) 0 (c ++ d) ≡ q → IsGood (name_in_quotes at q) → (name_in_quotes at q).size ≤ length (x ∷ c)
        → name_in_quotes at' (quoted 39 at' (at' + 1) 0 (c ++ stop)) ≡ name_in_quotes at q
    go (closed s m) e good l =
        let moves = name_moves at at' s (m + 1) good in
        ap (name_in_quotes at') (quoted_stays 39 at at' (at + 1) (at' + 1) c d 0 s m e (omega (arith, l, moves.1))) ∙ moves.0
    go (faulty f) e good l = absurd cc
spelling_stays at at' Blank x c d good l = absurd cc
spelling_stays at at' Percent x c d good l = absurd cc
spelling_stays at at' Other x c d good l = absurd cc
spelling_stays at at' k x c d good l = refl
