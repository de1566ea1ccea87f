-- Texts that stay within a line, and that of a term is one.
use Rattle.std.proofs.Common.{◌≡◌, ℕ, zero, suc, lit<, ◌+◌, ◌%◌, ◌/◌, ◌<◌, Bool, true, false, ◌&&◌, ◌||◌, not, List, [], ◌∷◌, ◌++◌, map, codes, Option, Some, None, refl, ap, ◌∙◌, arith}
use Rattle.std.specs.Prelude.{if◌then◌else◌, ◌==◌, nat_lt, ℤ, pos, negsuc}
use Rattle.std.specs.List.{list_all, flat_map}
use Rattle.std.specs.Char.{encode_utf8}
use Rattle.std.specs.Str.{chars}
use Rattle.std.specs.Fmt.{decimal, digits, digits_onto, digit_glyph, signed_decimal}
use Rattle.std.proofs.lemmas.Bool.{and_parts, and_from}
use Rattle.std.proofs.lemmas.Bool.Decides.{nat_tests}
use Rattle.std.proofs.lemmas.List.Folds.{list_all-append}
use Rattle.erl_term.specs.Value.{Value, Values}
use Rattle.erl_term.specs.Value.Value.{int, atom, list, tuple, bin}
use Rattle.erl_term.specs.Value.Values.{no_values, value}
use Rattle.erl_number.specs.Escapes.{is_in}
use Rattle.erl_number.specs.Texts.{is_bare_name_byte}
use Rattle.erl_term.specs.Lines.{is_one_line}
use Rattle.erl_term.specs.Printing.{text_of, texts_of, atom_text, atom_character, characters_of, string_character, list_text, with_commas, is_bare, has_bare_form}

-- a line in front of a line is a line
pub append_line : (a b : List ℕ) → is_one_line a ≡ true → is_one_line b ≡ true → is_one_line (a ++ b) ≡ true
append_line a b p q = list_all-append (λ (x : ℕ). not (x == 10)) a b ∙ and_from (is_one_line a) (is_one_line b) p q

-- each of these texts is one
abbrev pub AreLines : List (List ℕ) → Type 0
AreLines [] = Unit {0}
AreLines (t ∷ ts) = (is_one_line t ≡ true) × AreLines ts

pub commas_line : (ts : List (List ℕ)) → AreLines ts → is_one_line (with_commas ts) ≡ true
commas_line [] lines = refl
commas_line (t ∷ []) lines = lines.0
commas_line (t ∷ u ∷ ts) lines = append_line t (44 ∷ with_commas (u ∷ ts)) lines.0 (commas_line (u ∷ ts) lines.1)

mapped_line : (f : ℕ → List ℕ) → ((c : ℕ) → is_one_line (f c) ≡ true) → (cs : List ℕ) → is_one_line (flat_map f cs) ≡ true
mapped_line f each [] = refl
mapped_line f each (c ∷ cs) = append_line (f c) (flat_map f cs) (each c) (mapped_line f each cs)

-- the digits of a number
glyph_line : (upper : Bool) (d : ℕ) → not (digit_glyph upper d == 10) ≡ true
glyph_line upper d = go (nat_lt d 10) upper
  where
    go : (b u : Bool) → not ((if b then 48 + d else (if u then 55 + d else 87 + d)) == 10) ≡ true
    go true u = grind (arith, nat_tests)
    go false true = grind (arith, nat_tests)
    go false false = grind (arith, nat_tests)

digits_onto_line : (k base : ℕ) (upper : Bool) (n : ℕ) (acc : List ℕ) → is_one_line acc ≡ true → is_one_line (digits_onto k base upper n acc) ≡ true
digits_onto_line zero base upper n acc line = line
digits_onto_line (suc k) base upper n acc line = go (n / base == 0) (digits_onto_line k base upper (n / base) (digit_glyph upper (n % base) ∷ acc) here)
  where
    here : is_one_line (digit_glyph upper (n % base) ∷ acc) ≡ true
    here = and_from (not (digit_glyph upper (n % base) == 10)) (is_one_line acc) (glyph_line upper (n % base)) line

    go : (b : Bool) → is_one_line (digits_onto k base upper (n / base) (digit_glyph upper (n % base) ∷ acc)) ≡ true
        → is_one_line (if b then digit_glyph upper (n % base) ∷ acc else digits_onto k base upper (n / base) (digit_glyph upper (n % base) ∷ acc)) ≡ true
    go true more = here
    go false more = more

digits_line : (base : ℕ) (upper : Bool) (n : ℕ) → is_one_line (digits base upper n) ≡ true
unfolding digits
digits_line base upper n = digits_onto_line 64 base upper n [] refl

pub decimal_line : (n : ℕ) → is_one_line (decimal n) ≡ true
decimal_line n = digits_line 10 false n

signed_line : (n : ℤ) → is_one_line (signed_decimal n) ≡ true
signed_line (pos n) = decimal_line n
signed_line (negsuc n) = decimal_line (suc n)

-- a character that is no newline
character_line : (c : ℕ) → (c == 10) ≡ false → is_one_line (encode_utf8 c) ≡ true
unfolding encode_utf8
character_line c other = go (nat_lt c 128) (nat_lt c 2048) (nat_lt c 65536)
  where
    above : (k n : ℕ) → 10 < k → not ((k + n) == 10) ≡ true
    above k n high = grind (arith, nat_tests)

    one : (n : ℕ) → is_one_line ((128 + n) ∷ []) ≡ true
    one n = and_from (not ((128 + n) == 10)) true (above 128 n (lit< tt)) refl

    two : (m n : ℕ) → is_one_line ((128 + m) ∷ (128 + n) ∷ []) ≡ true
    two m n = and_from (not ((128 + m) == 10)) _ (above 128 m (lit< tt)) (one n)

    three : (l m n : ℕ) → is_one_line ((128 + l) ∷ (128 + m) ∷ (128 + n) ∷ []) ≡ true
    three l m n = and_from (not ((128 + l) == 10)) _ (above 128 l (lit< tt)) (two m n)

    go : (a b d : Bool) → is_one_line (if a then c ∷ [] else if b then (192 + c / 64) ∷ (128 + c % 64) ∷ []
        else if d then (224 + c / 4096) ∷ (128 + c / 64 % 64) ∷ (128 + c % 64) ∷ []
        else (240 + c / 262144) ∷ (128 + c / 4096 % 64) ∷ (128 + c / 64 % 64) ∷ (128 + c % 64) ∷ []) ≡ true
    go true b d = ap (λ x. not x && true) other
    go false true d = and_from (not ((192 + c / 64) == 10)) _ (above 192 (c / 64) (lit< tt)) (one (c % 64))
    go false false true = and_from (not ((224 + c / 4096) == 10)) _ (above 224 (c / 4096) (lit< tt)) (two (c / 64 % 64) (c % 64))
    go false false false = and_from (not ((240 + c / 262144) == 10)) _ (above 240 (c / 262144) (lit< tt)) (three (c / 4096 % 64) (c / 64 % 64) (c % 64))

-- an atom, bare or between quotes
bare_byte_line : (x : ℕ) → is_bare_name_byte x ≡ true → not (x == 10) ≡ true
bare_byte_line x p = grind (arith, nat_tests)

bare_bytes_line : (xs : List ℕ) → list_all is_bare_name_byte xs ≡ true → is_one_line xs ≡ true
bare_bytes_line [] p = refl
bare_bytes_line (x ∷ xs) p =
    let (first, more) = and_parts (is_bare_name_byte x) (list_all is_bare_name_byte xs) p in
    and_from (not (x == 10)) (is_one_line xs) (bare_byte_line x first) (bare_bytes_line xs more)

bare_line : (s : List ℕ) → has_bare_form s ≡ true → is_one_line s ≡ true
bare_line [] p = refl
bare_line (x ∷ xs) p =
    let (first, more) = and_parts (is_in 97 122 x) (list_all is_bare_name_byte xs) p in
    let line : not (x == 10) ≡ true = grind (arith, nat_tests) in
    and_from (not (x == 10)) (is_one_line xs) line (bare_bytes_line xs more)

hexadecimal_line : (c : ℕ) → is_one_line (codes "\\x{" ++ (digits 16 true c ++ codes "}")) ≡ true
hexadecimal_line c = append_line (digits 16 true c) (codes "}") (digits_line 16 true c) refl

atom_character_line : (c : ℕ) → is_one_line (atom_character c) ≡ true
atom_character_line c = go (c == 39) (c == 92) (nat_lt c 32 || c == 127) refl
  where
    go : (a b d : Bool) → (nat_lt c 32 || c == 127) ≡ d
        → is_one_line (if a then codes "\\'" else if b then codes "\\\\" else if d then codes "\\x{" ++ (digits 16 true c ++ codes "}") else encode_utf8 c) ≡ true
    go true b d e = refl
    go false true d e = refl
    go false false true e = hexadecimal_line c
    go false false false e = let other : (c == 10) ≡ false = grind (arith, nat_tests) in character_line c other

atom_line : (s : List ℕ) → is_one_line (atom_text s) ≡ true
atom_line s = go (is_bare s) refl
  where
    go : (b : Bool) → is_bare s ≡ b → is_one_line (if b then s else codes "'" ++ (flat_map atom_character (chars s) ++ codes "'")) ≡ true
    go true bare = bare_line s (and_parts (has_bare_form s) _ bare).0
    go false bare = append_line (flat_map atom_character (chars s)) (codes "'") (mapped_line atom_character atom_character_line (chars s)) refl

-- a list, as a string or by its members
string_character_line : (c : ℕ) → is_one_line (string_character c) ≡ true
string_character_line c = go (c == 34) (c == 92) (c == 9) (c == 10) refl (c == 13)
  where
    go : (a b t n : Bool) → (c == 10) ≡ n → (r : Bool)
        → is_one_line (if a then codes "\\\"" else if b then codes "\\\\" else if t then codes "\\t" else if n then codes "\\n" else if r then codes "\\r" else encode_utf8 c) ≡ true
    go true b t n e r = refl
    go false true t n e r = refl
    go false false true n e r = refl
    go false false false true e r = refl
    go false false false false e true = refl
    go false false false false e false = character_line c e

list_line : (o : Option (List ℕ)) (ts : List (List ℕ)) → AreLines ts → is_one_line (list_text o ts) ≡ true
list_line None ts lines = append_line (with_commas ts) (codes "]") (commas_line ts lines) refl
list_line (Some []) ts lines = append_line (with_commas ts) (codes "]") (commas_line ts lines) refl
list_line (Some (c ∷ cs)) ts lines = append_line (flat_map string_character (c ∷ cs)) (codes "\"") (mapped_line string_character string_character_line (c ∷ cs)) refl

decimals_line : (bs : List ℕ) → AreLines (map decimal bs)
decimals_line [] = tt
decimals_line (b ∷ bs) = (decimal_line b, decimals_line bs)

-- the text of a term
mutual
  pub term_line : (v : Value) → is_one_line (text_of v) ≡ true
  term_line (int n) = signed_line n
  term_line (atom s) = atom_line s
  term_line (list vs) = list_line (characters_of vs) (texts_of vs) (members_line vs)
  term_line (tuple vs) = append_line (with_commas (texts_of vs)) (codes "}") (commas_line (texts_of vs) (members_line vs)) refl
  term_line (bin bs) = append_line (with_commas (map decimal bs)) (codes ">>") (commas_line (map decimal bs) (decimals_line bs)) refl

  pub members_line : (vs : Values) → AreLines (texts_of vs)
  members_line no_values = tt
  members_line (value v vs) = (term_line v, members_line vs)
