-- What is read between quotes, where characters are printed.
use Rattle.std.proofs.Common.{◌≡◌, ℕ, lit<, lit≤, ◌+◌, ◌/◌, ◌%◌, ◌<◌, ◌≤◌, Bool, true, false, ◌&&◌, ◌||◌, ◌==◌, nat_lt, nat_le, List, [], ◌∷◌, ◌++◌, length, drop, codes, if◌then◌else◌, refl, ap, sym, subst, ◌∙◌, append_assoc, append-nil, length-append, not, arith}
use Rattle.std.specs.Char.{encode_utf8, is_digit, IsScalar}
use Rattle.std.specs.Fmt.{digits}
use Rattle.std.specs.List.{list_all, flat_map, AllByRecursion}
use Rattle.std.specs.Str.{chars, IsUtf8}
use Rattle.std.specs.Str.Parse.{AllDigits, IsNumeral, digits_value}
use Rattle.std.proofs.Math.Seq.{drop-append_seam}
use Rattle.std.proofs.Math.Utf8.{encodes, scalars, scalar as scalar_value, low_scalar}
use Rattle.std.proofs.lemmas.Bool.{and_parts, and_from}
use Rattle.std.proofs.lemmas.Bool.Decides.{nat_tests}
use Rattle.std.proofs.lemmas.Fmt.{digits_is_IsNumeral}
use Rattle.std.proofs.lemmas.Str.{chars-encodes, encodes-chars, scalars-chars}
use Rattle.erl_number.specs.Escapes.{leading, with_next, scalar, escape}
use Rattle.erl_number.specs.Escapes.Character.{means, senseless}
use Rattle.erl_token.specs.Quotes.{behind, quoted}
use Rattle.erl_token.specs.Quotes.Quoted.{closed}
use Rattle.erl_token.specs.Lexing.{name_spelling, name_in_quotes, text_in_quotes, lex}
use Rattle.erl_token.specs.Lexing.Token.{name, text}
use Rattle.erl_token.specs.Lexing.Start.{token_of}
use Rattle.erl_term.specs.Within.{IsShortName}
use Rattle.erl_term.proofs.TokenTexts.{lex_token}
use Rattle.erl_term.specs.Printing.{atom_character, string_character, is_printable}
use Rattle.erl_token.proofs.QuoteLemmas.{behind-behind, behind-nothing}

-- Within these quotes the bytes stand for the text.
abbrev pub StandFor : ℕ → List ℕ → List ℕ → Type 0
StandFor quote bs s = (from at : ℕ) (rest : List ℕ) → quoted quote from at 0 (bs ++ rest) ≡ behind s (length bs) (quoted quote from (at + length bs) 0 rest)

stand-none : (quote : ℕ) → StandFor quote [] []
stand-none quote from at rest = ap (λ n. quoted quote from n 0 rest) (omega arith) ∙ sym (behind-nothing (quoted quote from (at + 0) 0 rest))

stand-append : (quote : ℕ) (bs ds s t : List ℕ) → StandFor quote bs s → StandFor quote ds t → StandFor quote (bs ++ ds) (s ++ t)
stand-append quote bs ds s t p q from at rest =
    let size : length bs + length ds ≡ length (bs ++ ds) = sym (length-append bs ds) in
    let place : at + length bs + length ds ≡ at + length (bs ++ ds) = omega (arith, size) in
    ap (quoted quote from at 0) (append_assoc bs ds rest)
    ∙ (p from at (ds ++ rest)
    ∙ (ap (behind s (length bs)) (q from (at + length bs) rest)
    ∙ (behind-behind s t (length bs) (length ds) (quoted quote from (at + length bs + length ds) 0 rest)
    ∙ (λ i. behind (s ++ t) (size i) (quoted quote from (place i) 0 rest)))))

-- a byte that is neither the quote nor a backslash
abbrev pub is_plain : ℕ → ℕ → Bool
is_plain quote x = not (x == quote) && (nat_le x 255 && not (x == 92))

stand-plain : (quote x : ℕ) → is_plain quote x ≡ true → StandFor quote (x ∷ []) (x ∷ [])
stand-plain quote x h from at rest =
    let p = and_parts (not (x == quote)) (nat_le x 255 && not (x == 92)) h in
    let no_quote : (x == quote) ≡ false = grind (arith, p.0) in
    let q = and_parts (nat_le x 255) (not (x == 92)) p.1 in
    let in_text : nat_lt 255 x ≡ false = grind (arith, nat_tests, q.0) in
    let no_escape : (x == 92) ≡ false = grind (arith, q.1) in
    rw (no_quote, in_text, no_escape) refl

-- bytes that stand for themselves
pub stand-all_plain : (quote : ℕ) (bs : List ℕ) → list_all (is_plain quote) bs ≡ true → StandFor quote bs bs
stand-all_plain quote [] h = stand-none quote
stand-all_plain quote (x ∷ xs) h =
    let p = and_parts (is_plain quote x) (list_all (is_plain quote) xs) h in
    stand-append quote (x ∷ []) xs (x ∷ []) xs (stand-plain quote x p.0) (stand-all_plain quote xs p.1)

-- what an escape takes is passed over
passed-over : (quote from at : ℕ) (bs rest : List ℕ) → quoted quote from at (length bs) (bs ++ rest) ≡ behind [] (length bs) (quoted quote from (at + length bs) 0 rest)
passed-over quote from at [] rest = ap (λ n. quoted quote from n 0 rest) (omega arith) ∙ sym (behind-nothing (quoted quote from (at + 0) 0 rest))
passed-over quote from at (x ∷ xs) rest =
    let size : 1 + length xs ≡ length (x ∷ xs) = omega arith in
    let place : at + 1 + length xs ≡ at + length (x ∷ xs) = omega arith in
    ap (behind [] 1) (passed-over quote from (at + 1) xs rest)
    ∙ (behind-behind [] [] 1 (length xs) (quoted quote from (at + 1 + length xs) 0 rest)
    ∙ (λ i. behind [] (size i) (quoted quote from (place i) 0 rest)))

-- a backslash and what stands for a character after it
stand-escape : (quote c : ℕ) (bs : List ℕ) → (92 == quote) ≡ false → ((rest : List ℕ) → escape (bs ++ rest) ≡ means c (length bs)) → StandFor quote (92 ∷ bs) (encode_utf8 c)
stand-escape quote c bs other is from at rest =
    let size : 1 + length bs ≡ length (92 ∷ bs) = omega arith in
    let place : at + 1 + length bs ≡ at + length (92 ∷ bs) = omega arith in
    rw (other, is rest)
    (ap (behind (encode_utf8 c) 1) (passed-over quote from (at + 1) bs rest)
    ∙ (behind-behind (encode_utf8 c) [] 1 (length bs) (quoted quote from (at + 1 + length bs) 0 rest)
    ∙ (λ i. behind (append-nil (encode_utf8 c) i) (size i) (quoted quote from (place i) 0 rest))))

-- Characters

stand-characters : (quote : ℕ) (f : ℕ → List ℕ) (cs : List ℕ) → AllByRecursion (λ c. StandFor quote (f c) (encode_utf8 c)) cs → StandFor quote (flat_map f cs) (encodes cs)
stand-characters quote f [] h = stand-none quote
stand-characters quote f (c ∷ cs) h = stand-append quote (f c) (flat_map f cs) (encode_utf8 c) (encodes cs) h.0 (stand-characters quote f cs h.1)

-- what stands for a text, up to the quote after it
pub quoted-closed : (quote from at : ℕ) (bs s rest : List ℕ) → StandFor quote bs s → quoted quote from at 0 (bs ++ (quote ∷ rest)) ≡ closed s (length bs + 1)
quoted-closed quote from at bs s rest h =
    let ends : (quote == quote) ≡ true = grind (arith, nat_tests) in
    h from at (quote ∷ rest) ∙ rw ends (ap (λ t. closed t (length bs + 1)) (append-nil s))

-- Bytes of characters

high-plain : (quote x : ℕ) → quote < 128 → 128 ≤ x → x ≤ 255 → is_plain quote x ≡ true
high-plain quote x q low high = grind (arith, nat_tests)

-- a character stands for itself, if it does where it is one byte
encode-plain : (quote c : ℕ) → quote < 128 → IsScalar c → (c < 128 → is_plain quote c ≡ true) → list_all (is_plain quote) (encode_utf8 c) ≡ true
unfolding encode_utf8
encode-plain quote c q s p = go (nat_lt c 128) (nat_lt c 2048) (nat_lt c 65536) refl refl refl
  where
    go : (a b d : Bool) → nat_lt c 128 ≡ a → nat_lt c 2048 ≡ b → nat_lt c 65536 ≡ d
        → list_all (is_plain quote) (if a then c ∷ [] else if b then (192 + c / 64) ∷ (128 + c % 64) ∷ [] else if d then (224 + c / 4096) ∷ (128 + c / 64 % 64) ∷ (128 + c % 64) ∷ []
        else (240 + c / 262144) ∷ (128 + c / 4096 % 64) ∷ (128 + c / 64 % 64) ∷ (128 + c % 64) ∷ []) ≡ true
    go true b d e f g = let low : c < 128 = grind (arith, nat_tests) in rw (p low) refl
    go false true d e f g =
        let small : c < 2048 = grind (arith, nat_tests) in
        rw (high-plain quote (192 + c / 64) q (omega arith) (omega arith), high-plain quote (128 + c % 64) q (omega arith) (omega arith)) refl
    go false false true e f g =
        let small : c < 65536 = grind (arith, nat_tests) in
        rw (
          high-plain quote (224 + c / 4096) q (omega arith) (omega arith),
          high-plain quote (128 + c / 64 % 64) q (omega arith) (omega arith),
          high-plain quote (128 + c % 64) q (omega arith) (omega arith),
        ) refl
    go false false false e f g =
        let small : c < 1114112 = grind (arith, nat_tests) in
        rw (
          high-plain quote (240 + c / 262144) q (omega arith) (omega arith),
          high-plain quote (128 + c / 4096 % 64) q (omega arith) (omega arith),
          high-plain quote (128 + c / 64 % 64) q (omega arith) (omega arith),
          high-plain quote (128 + c % 64) q (omega arith) (omega arith),
        ) refl

stand-encode : (quote c : ℕ) → quote < 128 → IsScalar c → (c < 128 → is_plain quote c ≡ true) → StandFor quote (encode_utf8 c) (encode_utf8 c)
stand-encode quote c q s p = stand-all_plain quote (encode_utf8 c) (encode-plain quote c q s p)

-- Escapes

escape-itself : (rest : List ℕ) → (escape (34 ∷ rest) ≡ means 34 1) × (escape (39 ∷ rest) ≡ means 39 1) × (escape (92 ∷ rest) ≡ means 92 1)
unfolding chars
escape-itself rest = (refl, refl, refl)

escape-named : (rest : List ℕ) → (escape (116 ∷ rest) ≡ means 9 1) × (escape (110 ∷ rest) ≡ means 10 1) × (escape (114 ∷ rest) ≡ means 13 1)
escape-named rest = (refl, refl, refl)

hexadecimals-leading : (ds rest : List ℕ) → AllDigits 16 ds → leading (λ c. is_digit c 16) (ds ++ (125 ∷ rest)) ≡ ds
hexadecimals-leading [] rest h = refl
hexadecimals-leading (d ∷ ds) rest h =
    let digit : is_digit d 16 ≡ true = let first = h.0 in grind (arith, nat_tests) in
    rw digit (ap (λ xs. d ∷ xs) (hexadecimals-leading ds rest h.1))

-- hexadecimal digits between braces
escape-hexadecimal : (c : ℕ) (ds rest : List ℕ) → IsNumeral 16 ds → digits_value 16 ds ≡ c → c < 128 → escape (120 ∷ (123 ∷ (ds ++ (125 ∷ rest)))) ≡ means c (length ds + 3)
escape-hexadecimal c ds rest h e l =
    let some : nat_lt 0 (length ds) ≡ true = let known = h.0 in grind (arith, nat_tests) in
    let low : nat_lt c 0xD800 ≡ true = grind (arith, nat_tests) in
    let ends : with_next (125 ∷ rest) (λ y ys. if y == 125 && nat_lt 0 (length ds) then scalar (digits_value 16 ds) (length ds + 3) else senseless) ≡ means c (length ds + 3) =
    rw (some, e, low) refl in
    ap (λ fs. with_next (drop (length fs) (ds ++ (125 ∷ rest))) (λ y ys. if y == 125 && nat_lt 0 (length fs) then scalar (digits_value 16 fs) (length fs + 3) else senseless))
    (hexadecimals-leading ds rest h.1)
    ∙ (ap (λ ys. with_next ys (λ y ys. if y == 125 && nat_lt 0 (length ds) then scalar (digits_value 16 ds) (length ds + 3) else senseless)) (drop-append_seam ds (125 ∷ rest))
    ∙ ends)

stand-hexadecimal : (quote c : ℕ) → (92 == quote) ≡ false → c < 128 → StandFor quote (codes "\\x{" ++ (digits 16 true c ++ codes "}")) (encode_utf8 c)
stand-hexadecimal quote c other l =
    let is = digits_is_IsNumeral 16 true (lit≤ tt) (lit≤ tt) c (omega arith) in
    let ds = digits 16 true c in
    let size : length ds + 3 ≡ length (120 ∷ (123 ∷ (ds ++ (125 ∷ [])))) = omega (arith, length-append ds (125 ∷ [])) in
    stand-escape quote c (120 ∷ (123 ∷ (ds ++ (125 ∷ [])))) other
    (λ rest. ap (λ xs. escape (120 ∷ (123 ∷ xs))) (append_assoc ds (125 ∷ []) rest) ∙ (escape-hexadecimal c ds rest is.0 is.1 l ∙ ap (means c) size))

-- Atoms

stand-atom_character : (c : ℕ) → IsScalar c → StandFor 39 (atom_character c) (encode_utf8 c)
stand-atom_character c s = go (c == 39) (c == 92) (nat_lt c 32 || c == 127) refl refl refl
  where
    go : (a b d : Bool) → (c == 39) ≡ a → (c == 92) ≡ b → (nat_lt c 32 || c == 127) ≡ d
        → StandFor 39 (if a then codes "\\'" else if b then codes "\\\\" else if d then codes "\\x{" ++ (digits 16 true c ++ codes "}") else encode_utf8 c) (encode_utf8 c)
    go true b d e f g =
        let same : 39 ≡ c = grind (arith, nat_tests) in
        subst (λ x. StandFor 39 (codes "\\'") (encode_utf8 x)) same (stand-escape 39 39 (39 ∷ []) refl (λ rest. (escape-itself rest).1))
    go false true d e f g =
        let same : 92 ≡ c = grind (arith, nat_tests) in
        subst (λ x. StandFor 39 (codes "\\\\") (encode_utf8 x)) same (stand-escape 39 92 (92 ∷ []) refl (λ rest. (escape-itself rest).2))
    go false false true e f g = let low : c < 128 = grind (arith, nat_tests) in stand-hexadecimal 39 c refl low
    go false false false e f g = stand-encode 39 c (lit< tt) s (λ low. grind (arith, nat_tests))

scalars-all : (cs : List ℕ) → scalars cs ≡ true → AllByRecursion (λ c. StandFor 39 (atom_character c) (encode_utf8 c)) cs
scalars-all [] h = tt
scalars-all (c ∷ cs) h = let p = and_parts (scalar_value c) (scalars cs) h in (stand-atom_character c p.0, scalars-all cs p.1)

-- the text of an atom, between its quotes
pub stand-atom : (s : List ℕ) → IsUtf8 s → StandFor 39 (flat_map atom_character (chars s)) s
stand-atom s u =
    subst (StandFor 39 (flat_map atom_character (chars s))) (encodes-chars s u)
    (stand-characters 39 atom_character (chars s) (scalars-all (chars s) (scalars-chars s u)))

-- Strings

stand-string_character : (c : ℕ) → is_printable c ≡ true → StandFor 34 (string_character c) (encode_utf8 c)
stand-string_character c p = go (c == 34) (c == 92) (c == 9) (c == 10) (c == 13) refl refl refl refl refl
  where
    is : (n x : ℕ) → (c == n) ≡ true → ((rest : List ℕ) → escape (x ∷ rest) ≡ means n 1) → StandFor 34 (92 ∷ x ∷ []) (encode_utf8 c)
    is n x e escapes = let same : n ≡ c = grind (arith, nat_tests) in subst (λ y. StandFor 34 (92 ∷ x ∷ []) (encode_utf8 y)) same (stand-escape 34 n (x ∷ []) refl escapes)

    go : (q b t n r : Bool) → (c == 34) ≡ q → (c == 92) ≡ b → (c == 9) ≡ t → (c == 10) ≡ n → (c == 13) ≡ r
        → StandFor 34 (if q then codes "\\\"" else if b then codes "\\\\" else if t then codes "\\t" else if n then codes "\\n" else if r then codes "\\r" else encode_utf8 c) (encode_utf8 c)
    go true b t n r e f g h k = is 34 34 e (λ rest. (escape-itself rest).0)
    go false true t n r e f g h k = is 92 92 f (λ rest. (escape-itself rest).2)
    go false false true n r e f g h k = is 9 116 g (λ rest. (escape-named rest).0)
    go false false false true r e f g h k = is 10 110 h (λ rest. (escape-named rest).1)
    go false false false false true e f g h k = is 13 114 k (λ rest. (escape-named rest).2)
    go false false false false false e f g h k =
        let low : c < 128 = grind (arith, nat_tests) in
        stand-encode 34 c (lit< tt) (low_scalar c (omega arith)) (λ low. grind (arith, nat_tests))

printable-all : (cs : List ℕ) → list_all is_printable cs ≡ true → AllByRecursion (λ c. StandFor 34 (string_character c) (encode_utf8 c)) cs
printable-all [] h = tt
printable-all (c ∷ cs) h = let p = and_parts (is_printable c) (list_all is_printable cs) h in (stand-string_character c p.0, printable-all cs p.1)

-- the text of a string, between its quotes
pub stand-string : (cs : List ℕ) → list_all is_printable cs ≡ true → StandFor 34 (flat_map string_character cs) (encodes cs)
stand-string cs h = stand-characters 34 string_character cs (printable-all cs h)

-- its characters
pub chars-string : (cs : List ℕ) → list_all is_printable cs ≡ true → chars (encodes cs) ≡ cs
chars-string cs h = chars-encodes cs (all_scalar cs h)
  where
    all_scalar : (cs : List ℕ) → list_all is_printable cs ≡ true → scalars cs ≡ true
    all_scalar [] h = refl
    all_scalar (c ∷ cs) h =
        let p = and_parts (is_printable c) (list_all is_printable cs) h in
        let low : c < 128 = grind (arith, nat_tests, p.0) in
        and_from (scalar_value c) (scalars cs) (low_scalar c (omega arith)) (all_scalar cs p.1)

-- Tokens

-- a quoted name is one token
pub lex_quoted_name : (bs s rest : List ℕ) (at : ℕ) → StandFor 39 bs s → IsShortName s →
    lex at 0 ((39 ∷ (bs ++ 39 ∷ [])) ++ rest) ≡ record { token = name s; from = at; to = at + length (39 ∷ (bs ++ 39 ∷ [])) } ∷ lex (at + length (39 ∷ (bs ++ 39 ∷ []))) 0 rest
lex_quoted_name bs s rest at h l =
    let size : length bs + 1 + 1 ≡ length (39 ∷ (bs ++ 39 ∷ [])) = omega (arith, length-append bs (39 ∷ [])) in
    let short : nat_le (length (chars s)) 255 ≡ true = grind (arith, nat_tests) in
    let own : name_spelling at s (length bs + 1 + 1) ≡ record { token = name s; size = length (39 ∷ (bs ++ 39 ∷ [])) } = rw (short, size) refl in
    lex_token 39 (bs ++ 39 ∷ []) rest at (name s)
    (ap (λ xs. token_of (name_in_quotes at (quoted 39 at (at + 1) 0 xs))) (append_assoc bs (39 ∷ []) rest)
    ∙ (ap (λ q. token_of (name_in_quotes at q)) (quoted-closed 39 at (at + 1) bs s rest h) ∙ ap token_of own))

-- a string is one token
pub lex_string : (bs s rest : List ℕ) (at : ℕ) → StandFor 34 bs s →
    lex at 0 ((34 ∷ (bs ++ 34 ∷ [])) ++ rest) ≡ record { token = text s; from = at; to = at + length (34 ∷ (bs ++ 34 ∷ [])) } ∷ lex (at + length (34 ∷ (bs ++ 34 ∷ []))) 0 rest
lex_string bs s rest at h =
    let size : length bs + 1 + 1 ≡ length (34 ∷ (bs ++ 34 ∷ [])) = omega (arith, length-append bs (34 ∷ [])) in
    lex_token 34 (bs ++ 34 ∷ []) rest at (text s)
    (ap (λ xs. token_of (text_in_quotes (quoted 34 at (at + 1) 0 xs))) (append_assoc bs (34 ∷ []) rest)
    ∙ (ap (λ q. token_of (text_in_quotes q)) (quoted-closed 34 at (at + 1) bs s rest h) ∙ ap (λ n. token_of (record { token = text s; size = n })) size))
