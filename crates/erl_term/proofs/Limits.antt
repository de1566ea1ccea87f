-- What a text reads as has short atoms alone, and few brackets.
use Rattle.std.proofs.Common.{◌≡◌, ℕ, ℤ, pos, zero, suc, ◌+◌, ◌-◌, ◌≤◌, Bool, true, false, ◌==◌, nat_le, codes, if◌then◌else◌, Option, Some, None, List, [], ◌∷◌, ◌++◌, length, drop, refl, sym, subst, arith}
use Rattle.std.proofs.lemmas.Bool.Decides.{nat_tests}
use Rattle.std.specs.List.{AllByRecursion}
use Rattle.std.specs.Str.{chars, bytes_eq}
use Rattle.erl_number.specs.declared.fault.TermFault.TheVariants.{BadToken, BadNumber, Unsupported}
use Rattle.erl_token.specs.declared.class.Class.{Class}
use Rattle.erl_token.specs.declared.class.Class.TheVariants.{Blank, Percent, Dot, Less, Greater, Quote, Apostrophe, Dollar, Sign, Letter, Digit}
use Rattle.erl_number.specs.Escapes.{leading}
use Rattle.erl_number.specs.Numbers.{Numeral, numeral, is_int}
use Rattle.erl_number.specs.Numbers.Numeral.{whole, faulty as faulty_number, cut_off}
use Rattle.erl_token.specs.Quotes.{Quoted, quoted}
use Rattle.erl_token.specs.Quotes.Quoted.{closed, faulty}
use Rattle.erl_number.specs.Texts.{is_bare_name_byte, sealed}
use Rattle.erl_token.specs.Lexing.{Token, Spelling, Item, class_of, some_name, some_number, some_text, alone, name_spelling, bare, name_in_quotes, text_in_quotes, numbered, sign_of, doubled, ends_a_term, spelling, comment_size, start_of, goes_on, lex, joined, in_front, put_item, join, items_of}
use Rattle.erl_token.specs.Lexing.Token.{open_binary, close_binary, name, number, text, dot, stray, broken}
use Rattle.erl_term.specs.Grammar.{Phrase, Phrases, numbers, meaning, meanings, tokens_of, members_tokens, rest_tokens, depth, depths, tokens, Reading, AreTerms, Reads}
use Rattle.erl_term.specs.Grammar.Phrase.{a_name, a_number, a_text, a_tuple, a_list, a_binary}
use Rattle.erl_term.specs.Grammar.Phrases.{no_phrases, phrase}
use Rattle.erl_term.specs.Printing.{is_string, characters_of}
use Rattle.erl_term.specs.Within.{IsShortName, HasShortNames, HaveShortNames, brackets, most_brackets, IsWithin}

-- Rows

all_left : {A : Type 0} (P : A → Type 0) (xs ys : List A) → AllByRecursion P (xs ++ ys) → AllByRecursion P xs
all_left P [] ys h = tt
all_left P (x ∷ xs) ys h = (h.0, all_left P xs ys h.1)

all_right : {A : Type 0} (P : A → Type 0) (xs ys : List A) → AllByRecursion P (xs ++ ys) → AllByRecursion P ys
all_right P [] ys h = h
all_right P (x ∷ xs) ys h = all_right P xs ys h.1

-- Names

-- a token that is no long name
abbrev IsShort : Token → Type 0
IsShort (name s) = IsShortName s
IsShort t = Unit {0}

abbrev AllShort : List Item → Type 0
AllShort is = AllByRecursion (λ i. IsShort i.token) is

named_short : (at : ℕ) (s : List ℕ) (size : ℕ) → IsShort (name_spelling at s size).token
named_short at s size = go (nat_le (length (chars s)) 255) refl
  where
    go : (b : Bool) → nat_le (length (chars s)) 255 ≡ b → (let t : Spelling = if b then record { token = name s; size = size } else alone (broken some_name (BadToken at)) in IsShort t.token)
    go true h = grind (arith, nat_tests)
    go false h = tt

bare_short : (at : ℕ) (s : List ℕ) → IsShort (bare at s).token
bare_short at s = go (bytes_eq s (codes "fun"))
  where
    go : (b : Bool) → (let t : Spelling = if b then alone (broken some_name (Unsupported at)) else name_spelling at s (length s) in IsShort t.token)
    go true = tt
    go false = named_short at s (length s)

quoted_name_short : (at : ℕ) (q : Quoted) → IsShort (name_in_quotes at q).token
quoted_name_short at (closed s size) = named_short at s (size + 1)
quoted_name_short at (faulty f) = tt

quoted_text_short : (q : Quoted) → IsShort (text_in_quotes q).token
quoted_text_short (closed s size) = tt
quoted_text_short (faulty f) = tt

numbered_short : (at : ℕ) (sign : ℕ → ℤ) (size : ℕ) (n : Numeral) → IsShort (numbered at sign size n).token
numbered_short at sign size (whole n m) = go (is_int (sign n))
  where
    go : (b : Bool) → (let t : Spelling = if b then record { token = number (sign n); size = size + m } else alone (broken some_number (BadNumber at)) in IsShort t.token)
    go true = tt
    go false = tt
numbered_short at sign size (faulty_number f) = tt
numbered_short at sign size cut_off = tt

doubled_short : (t : Token) (x : ℕ) (xs : List ℕ) → IsShort t → IsShort (doubled t x xs).token
doubled_short t x [] h = tt
doubled_short t x (y ∷ ys) h = go (y == x)
  where
    go : (b : Bool) → (let s : Spelling = if b then record { token = t; size = 2 } else alone (stray x) in IsShort s.token)
    go true = h
    go false = tt

dot_short : (b : Bool) (x : ℕ) → IsShort (if b then dot else stray x)
dot_short true x = tt
dot_short false x = tt

-- no token of a text is a long name
spelling_short : (at : ℕ) (class : Class) (x : ℕ) (xs : List ℕ) → IsShort (spelling at class x xs).token
spelling_short at Less x xs = doubled_short open_binary x xs tt
spelling_short at Greater x xs = doubled_short close_binary x xs tt
spelling_short at Dot x xs = dot_short (ends_a_term xs) x
spelling_short at Letter x xs = bare_short at (x ∷ leading is_bare_name_byte xs)
spelling_short at Digit x xs = numbered_short at pos 0 (numeral at at (x ∷ xs))
spelling_short at Dollar x xs = numbered_short at pos 0 (numeral at at (x ∷ xs))
spelling_short at Sign x xs =
    let n = length (leading (λ y. nat_le y 32) xs) in numbered_short at (sign_of x) (n + 1) (numeral at (at + 1 + n) (drop n xs))
spelling_short at Quote x xs = quoted_text_short (quoted 34 at (at + 1) 0 xs)
spelling_short at Apostrophe x xs = quoted_name_short at (quoted 39 at (at + 1) 0 xs)
spelling_short at class x xs = tt

goes_on_short : (at : ℕ) (class : Class) (x : ℕ) (xs : List ℕ) (rest : ℕ → List Item) → ((n : ℕ) → AllShort (rest n))
    → AllShort (goes_on at (start_of at class x xs) rest)
goes_on_short at Blank x xs rest h = h 0
goes_on_short at Percent x xs rest h = h (comment_size xs)
goes_on_short at class x xs rest h = (spelling_short at class x xs, h ((spelling at class x xs).size - 1))

lex_short : (at n : ℕ) (xs : List ℕ) → AllShort (lex at n xs)
lex_short at n [] = tt
lex_short at (suc n) (x ∷ xs) = lex_short (at + 1) n xs
lex_short at zero (x ∷ xs) = goes_on_short at (class_of x) x xs (λ n. lex (at + 1) n xs) (λ n. lex_short (at + 1) n xs)

joined_short : (s t u : Token) → joined s t ≡ Some u → IsShort u
joined_short (text s) (text t) u e = let same : text (s ++ t) ≡ u = cc in subst IsShort same tt
joined_short (text s) (broken (text t) f) u e = let same : broken some_text f ≡ u = cc in subst IsShort same tt
joined_short s t u e = absurd cc

join_short : (is : List Item) → AllShort is → AllShort (join is)
join_short [] h = tt
join_short (i ∷ is) h = put (join is) (join_short is h.1)
  where
    in_front_short : (o : Option Token) (j : Item) (js : List Item) → joined i.token j.token ≡ o → AllShort (j ∷ js) → AllShort (in_front i o j js)
    in_front_short (Some t) j js e k = (joined_short i.token j.token t e, k.1)
    in_front_short None j js e k = (h.0, k)

    put : (js : List Item) → AllShort js → AllShort (put_item i js)
    put [] k = (h.0, tt)
    put (j ∷ js) k = in_front_short (joined i.token j.token) j js refl k

tokens_short : (is : List Item) → AllShort is → AllByRecursion IsShort (tokens is)
tokens_short [] h = tt
tokens_short (i ∷ is) h = (h.0, tokens_short is h.1)

numbers_short : (ns : List ℕ) → HaveShortNames (numbers ns)
numbers_short [] = tt
numbers_short (n ∷ ns) = (tt, numbers_short ns)

-- what is spelled by such tokens
mutual
  phrase_short : (p : Phrase) → AllByRecursion IsShort (tokens_of p) → HasShortNames (meaning p)
  phrase_short (a_name s) h = h.0
  phrase_short (a_number n) h = tt
  phrase_short (a_text s) h = numbers_short (chars s)
  phrase_short (a_tuple ps) h = members_short ps (all_left IsShort (members_tokens ps) _ h.1)
  phrase_short (a_list ps) h = members_short ps (all_left IsShort (members_tokens ps) _ h.1)
  phrase_short (a_binary ps) h = tt

  members_short : (ps : Phrases) → AllByRecursion IsShort (members_tokens ps) → HaveShortNames (meanings ps)
  members_short no_phrases h = tt
  members_short (phrase p ps) h = (phrase_short p (all_left IsShort (tokens_of p) (rest_tokens ps) h), rest_short ps (all_right IsShort (tokens_of p) (rest_tokens ps) h))

  rest_short : (ps : Phrases) → AllByRecursion IsShort (rest_tokens ps) → HaveShortNames (meanings ps)
  rest_short no_phrases h = tt
  rest_short (phrase p ps) h = (phrase_short p (all_left IsShort (tokens_of p) (rest_tokens ps) h.1), rest_short ps (all_right IsShort (tokens_of p) (rest_tokens ps) h.1))

-- Brackets

numbers_flat : (ns : List ℕ) → most_brackets (numbers ns) ≡ 0
numbers_flat [] = refl
numbers_flat (n ∷ ns) = omega (arith, numbers_flat ns)

-- a list has a bracket of its own, or none
list_brackets : (is_text : Bool) (m n : ℕ) → m ≤ n → (if is_text then 0 else m + 1) ≤ n + 1
list_brackets true m n h = omega arith
list_brackets false m n h = omega arith

-- A term is printed with one bracket more than it is spelled with, at most.
mutual
  pub phrase_nested : (p : Phrase) → brackets (meaning p) ≤ depth p + 1
  phrase_nested (a_name s) = omega arith
  phrase_nested (a_number n) = omega arith
  phrase_nested (a_text s) = list_brackets (is_string (characters_of (numbers (chars s)))) (most_brackets (numbers (chars s))) 0 (omega (arith, numbers_flat (chars s)))
  phrase_nested (a_tuple ps) = omega (arith, members_nested ps)
  phrase_nested (a_list ps) = list_brackets (is_string (characters_of (meanings ps))) (most_brackets (meanings ps)) (depths ps + 1) (members_nested ps)
  phrase_nested (a_binary ps) = omega arith

  members_nested : (ps : Phrases) → most_brackets (meanings ps) ≤ depths ps + 1
  members_nested no_phrases = omega arith
  members_nested (phrase p ps) = omega (arith, phrase_nested p, members_nested ps)

-- Texts

terms_limited : (limit : ℕ) (is : List Item) (rs : List Reading) → AllShort is → AreTerms limit is rs → AllByRecursion (λ r. IsWithin (limit + 1) r.term) rs
terms_limited limit is [] short h = tt
terms_limited limit is (r ∷ rs) short (row, rest, d, split, is_dot, t, others) =
    let parts : AllShort (row ++ (d ∷ rest)) = subst AllShort split short in
    let spelled : AllByRecursion IsShort (tokens_of t.phrase) = subst (λ ts. AllByRecursion IsShort ts) t.spelled (tokens_short row (all_left (λ i. IsShort i.token) row (d ∷ rest) parts)) in (
      subst (IsWithin (limit + 1)) (sym t.means) (phrase_short t.phrase spelled, (let h = phrase_nested t.phrase in omega (arith, t.fits.0))),
      terms_limited limit rest rs (all_right (λ i. IsShort i.token) row (d ∷ rest) parts).1 others,
    )

-- What is read keeps within limits.
pub keeps_limits : (limit : ℕ) (bytes : List ℕ) (rs : List Reading) → Reads limit bytes rs → AllByRecursion (λ r. IsWithin (limit + 1) r.term) rs
keeps_limits limit bytes rs h = terms_limited limit (items_of bytes) rs (join_short (lex 0 0 (sealed bytes)) (lex_short 0 0 (sealed bytes))) h
