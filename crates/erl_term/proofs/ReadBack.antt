-- The text of a term has one row of tokens, which spells that term.
use Rattle.std.proofs.Common.{◌≡◌, ℕ, ℤ, pos, negsuc, ◌+◌, ◌<◌, ◌≤◌, max, Bool, true, false, if◌then◌else◌, Option, Some, None, List, [], ◌∷◌, ◌++◌, All, length, map, refl, ap, sym, ◌∙◌, subst, append_assoc, append-nil, length-append, ◌^◌, codes, arith}
use Rattle.std.specs.List.{flat_map, AllByRecursion}
use Rattle.std.specs.Fmt.{decimal, signed_decimal}
use Rattle.std.specs.Str.{IsUtf8, IsAscii, chars}
use Rattle.std.proofs.Math.Utf8.{encodes}
use Rattle.std.proofs.lemmas.Bool.Decides.{nat_tests}
use Rattle.std.proofs.lemmas.List.{map-append}
use Rattle.std.proofs.lemmas.List.Elements.{All-head, All-tail}
use Rattle.std.proofs.lemmas.Str.{IsUtf8-append, IsUtf8-from_ascii}
use Rattle.std.proofs.lemmas.Str.Ascii.{IsAscii-nil, IsAscii-cons}
use Rattle.erl_term.specs.Value.{Value, Values, FitsTerm, FitTerms}
use Rattle.erl_term.specs.Value.Value.{int, atom, list, tuple, bin}
use Rattle.erl_term.specs.Value.Values.{no_values, value}
use Rattle.erl_number.specs.Numbers.{goes_on_as_float, is_int}
use Rattle.erl_number.specs.Texts.{sealed}
use Rattle.erl_token.specs.Lexing.{Token, Item, class_of, ends_a_term, lex, join, items_of}
use Rattle.erl_token.specs.declared.class.Class.TheVariants.{Blank}
use Rattle.erl_token.specs.Lexing.Token.{open_tuple, close_tuple, open_list, close_list, open_binary, close_binary, comma, dot, name, number, text}
use Rattle.erl_term.specs.Grammar.{Phrase, Phrases, IsTerm, numbers, segments, meaning, meanings, tokens_of, members_tokens, rest_tokens, depth, depths, AreSegments, HasSegments, HaveSegments, tokens, first_from, last_to, Reads}
use Rattle.erl_term.specs.Grammar.Phrase.{a_name, a_number, a_text, a_tuple, a_list, a_binary}
use Rattle.erl_term.specs.Grammar.Phrases.{no_phrases, phrase}
use Rattle.erl_term.specs.Printing.{is_bare, atom_character, atom_text, characters_of, is_string, string_character, string_text, with_commas, binary_text, list_text, text_of, texts_of}
use Rattle.erl_term.specs.Within.{IsShortName, HasShortNames, HaveShortNames, IsWithin, ReadsAs, brackets, most_brackets}
use Rattle.erl_number.proofs.Runs.{sealed-IsUtf8}
use Rattle.erl_term.proofs.Characters.{values-characters_of}
use Rattle.erl_term.proofs.Joins.{AreApart, join-apart, term_apart}
use Rattle.erl_term.proofs.QuotedTexts.{stand-atom, stand-string, chars-string, lex_quoted_name, lex_string}
use Rattle.erl_term.proofs.TokenTexts.{IsBehind, lex_token, lex_name, lex_number}
use Rattle.erl_term.proofs.Passes.{last_to-end}

-- Rows

-- the items of a text from its place on, whatever stands after it
pub record Row (at : ℕ) (s rest : List ℕ) (ts : List Token) : Type 0 where
  pub items : List Item
  pub spelled : tokens items ≡ ts
  pub all : lex at 0 (s ++ rest) ≡ items ++ lex (at + length s) 0 rest

-- texts one after another
abbrev row-append : (at : ℕ) (s u rest : List ℕ) (ts us : List Token) → Row at s (u ++ rest) ts → Row (at + length s) u rest us → Row at (s ++ u) rest (ts ++ us)
row-append at s u rest ts us a b = record {
  items = a.items ++ b.items;
  spelled = map-append (λ (i : Item). i.token) a.items b.items ∙ (ap (λ x. x ++ tokens b.items) a.spelled ∙ ap (λ x. ts ++ x) b.spelled);
  all =
      let behind : (at + length s) + length u ≡ at + length (s ++ u) = omega (arith, length-append s u) in
      ap (lex at 0) (append_assoc s u rest) ∙ a.all ∙ ap (λ is. a.items ++ is) (b.all ∙ ap (λ n. b.items ++ lex n 0 rest) behind)
      ∙ sym (append_assoc a.items b.items (lex (at + length (s ++ u)) 0 rest));
}

row-none : (at : ℕ) (rest : List ℕ) → Row at [] rest []
row-none at rest = record { items = []; spelled = refl; all = ap (λ n. lex n 0 rest) (omega arith) }

-- a text that is one token
abbrev row-one : (at : ℕ) (s rest : List ℕ) (t : Token) →
    lex at 0 (s ++ rest) ≡ record { token = t; from = at; to = at + length s } ∷ lex (at + length s) 0 rest → Row at s rest (t ∷ [])
row-one at s rest t e = record { items = record { token = t; from = at; to = at + length s } ∷ []; spelled = refl; all = e }

-- Terms

-- a text that spells a term of this depth, wherever it stands
pub record Spells (v : Value) (most : ℕ) (s : List ℕ) : Type 0 where
  pub said : Phrase
  pub means : v ≡ meaning said
  pub fits : depth said ≤ most
  pub whole : HasSegments said
  pub row : (at : ℕ) (rest : List ℕ) → IsBehind rest → Row at s rest (tokens_of said)
  pub from : (at : ℕ) (rest : List ℕ) (b : IsBehind rest) → first_from (row at rest b).items ≡ at
  pub to : (at : ℕ) (rest : List ℕ) (b : IsBehind rest) → last_to (row at rest b).items ≡ at + length s

-- a term that is one token
spells-one : (v : Value) (p : Phrase) (s : List ℕ) (t : Token) → v ≡ meaning p → depth p ≡ 0 → HasSegments p → tokens_of p ≡ t ∷ [] →
    ((at : ℕ) (rest : List ℕ) → IsBehind rest → lex at 0 (s ++ rest) ≡ record { token = t; from = at; to = at + length s } ∷ lex (at + length s) 0 rest) →
    Spells v 0 s
spells-one v p s t m d w e l = record {
  said = p;
  means = m;
  fits = omega arith;
  whole = w;
  row = λ at rest b. record { items = record { token = t; from = at; to = at + length s } ∷ []; spelled = sym e; all = l at rest b };
  from = λ at rest b. refl;
  to = λ at rest b. refl;
}

-- a name, bare or between quotes
spells-name : (s : List ℕ) → IsUtf8 s → IsShortName s → Spells (atom s) 0 (atom_text s)
spells-name s u l = go (is_bare s) refl
  where
    go : (b : Bool) → is_bare s ≡ b → Spells (atom s) 0 (if b then s else codes "'" ++ (flat_map atom_character (chars s) ++ codes "'"))
    go true h = spells-one (atom s) (a_name s) s (name s) refl refl tt refl (λ at rest b. lex_name s rest at h l b)
    go false h =
        let bs = flat_map atom_character (chars s) in
        spells-one (atom s) (a_name s) (39 ∷ (bs ++ 39 ∷ [])) (name s) refl refl tt refl (λ at rest b. lex_quoted_name bs s rest at (stand-atom s u) l)

fits_int : (n : ℤ) → FitsTerm (int n) → is_int n ≡ true
fits_int (pos n) f = let small : n < 2 ^ 63 = omega (arith, f) in grind (arith, nat_tests)
fits_int (negsuc n) f = let small : n < 2 ^ 63 = omega (arith, f) in grind (arith, nat_tests)

spells-number : (n : ℤ) → is_int n ≡ true → Spells (int n) 0 (signed_decimal n)
spells-number n h = spells-one (int n) (a_number n) (signed_decimal n) (number n) refl refl tt refl (λ at rest b. lex_number n rest at h b)

spells-string : (vs : Values) (cs : List ℕ) → characters_of vs ≡ Some cs → Spells (list vs) 0 (string_text cs)
spells-string vs cs e =
    let known = values-characters_of vs cs e in
    let bs = flat_map string_character cs in
    spells-one (list vs) (a_text (encodes cs)) (34 ∷ (bs ++ 34 ∷ [])) (text (encodes cs)) (ap list (known.0 ∙ ap numbers (sym (chars-string cs known.1)))) refl tt refl
    (λ at rest b. lex_string bs (encodes cs) rest at (stand-string cs known.1))

-- Brackets

-- texts that each have a comma in front
abbrev rest_text : List (List ℕ) → List ℕ
rest_text [] = []
rest_text (t ∷ ts) = 44 ∷ (t ++ rest_text ts)

with_commas-rest_text : (t : List ℕ) (ts : List (List ℕ)) → with_commas (t ∷ ts) ≡ t ++ rest_text ts
with_commas-rest_text t [] = sym (append-nil t)
with_commas-rest_text t (u ∷ us) = ap (λ x. t ++ (44 ∷ x)) (with_commas-rest_text u us)

rest_text-behind : (ts : List (List ℕ)) (rest : List ℕ) → IsBehind rest → IsBehind (rest_text ts ++ rest)
rest_text-behind [] rest b = b
rest_text-behind (t ∷ ts) rest b = (refl, refl)

-- texts that spell the members of a bracket, wherever they stand
record SpellMembers (vs : Values) (most : ℕ) (ts : List (List ℕ)) : Type 0 where
  said : Phrases
  means : vs ≡ meanings said
  fits : depths said ≤ most
  whole : HaveSegments said
  row : (at : ℕ) (rest : List ℕ) → IsBehind rest → Row at (with_commas ts) rest (members_tokens said)
  more : (at : ℕ) (rest : List ℕ) → IsBehind rest → Row at (rest_text ts) rest (rest_tokens said)

no_members : SpellMembers no_values 0 []
no_members = record {
  said = no_phrases;
  means = refl;
  fits = omega arith;
  whole = tt;
  row = λ at rest b. row-none at rest;
  more = λ at rest b. row-none at rest;
}

one_member : (v : Value) (vs : Values) (m n : ℕ) (t : List ℕ) (ts : List (List ℕ)) → Spells v m t → SpellMembers vs n ts → SpellMembers (value v vs) (max m n) (t ∷ ts)
one_member v vs m n t ts a b = record {
  said = phrase a.said b.said;
  means = ap (λ w. value w vs) a.means ∙ ap (value (meaning a.said)) b.means;
  fits = omega arith;
  whole = (a.whole, b.whole);
  row = λ at rest e. subst (λ s. Row at s rest (members_tokens (phrase a.said b.said))) (sym (with_commas-rest_text t ts)) (both at rest e);
  more = λ at rest e.
      row-append at (44 ∷ []) (t ++ rest_text ts) rest (comma ∷ []) (members_tokens (phrase a.said b.said))
      (row-one at (44 ∷ []) ((t ++ rest_text ts) ++ rest) comma refl) (both (at + 1) rest e);
}
  where
    both : (at : ℕ) (rest : List ℕ) → IsBehind rest → Row at (t ++ rest_text ts) rest (members_tokens (phrase a.said b.said))
    both at rest e =
        row-append at t (rest_text ts) rest (tokens_of a.said) (rest_tokens b.said)
        (a.row at (rest_text ts ++ rest) (rest_text-behind ts rest e)) (b.more (at + length t) rest e)

-- bytes that are a token by themselves
abbrev IsToken : List ℕ → Token → Type 0
IsToken xs t = (at : ℕ) (rest : List ℕ) → lex at 0 (xs ++ rest) ≡ record { token = t; from = at; to = at + length xs } ∷ lex (at + length xs) 0 rest

-- a row of tokens, wherever it stands
abbrev IsRow : List ℕ → List Token → Type 0
IsRow s ts = (at : ℕ) (rest : List ℕ) → IsBehind rest → Row at s rest ts

-- members between two such tokens
spells-bracket : (v : Value) (p : Phrase) (m : ℕ) (l r : List ℕ) (first last : Token) (s : List ℕ) (ts : List Token) →
    v ≡ meaning p → depth p ≤ m → HasSegments p → tokens_of p ≡ first ∷ (ts ++ last ∷ []) → IsToken l first → IsToken r last →
    ((rest : List ℕ) → IsBehind (r ++ rest)) → IsRow s ts → Spells v m (l ++ (s ++ r))
spells-bracket v p m l r first last s ts means fits whole is opens closes stop row = record {
  said = p;
  means = means;
  fits = fits;
  whole = whole;
  row = λ at rest e. record { items = (between at rest).items; spelled = (between at rest).spelled ∙ sym is; all = (between at rest).all };
  from = λ at rest e. refl;
  to = λ at rest e.
      last_to-end (record { token = first; from = at; to = at + length l } ∷ (row (at + length l) (r ++ rest) (stop rest)).items)
      (record { token = last; from = at + length l + length s; to = at + length l + length s + length r })
      ∙ omega (arith, length-append l (s ++ r), length-append s r);
}
  where
    between : (at : ℕ) (rest : List ℕ) → Row at (l ++ (s ++ r)) rest (first ∷ (ts ++ last ∷ []))
    between at rest =
        row-append at l (s ++ r) rest (first ∷ []) (ts ++ last ∷ []) (row-one at l ((s ++ r) ++ rest) first (opens at ((s ++ r) ++ rest)))
        (row-append (at + length l) s r rest ts (last ∷ []) (row (at + length l) (r ++ rest) (stop rest)) (row-one (at + length l + length s) r rest last (closes (at + length l + length s) rest)))

spells-tuple : (vs : Values) (m : ℕ) (ts : List (List ℕ)) → SpellMembers vs m ts → Spells (tuple vs) (m + 1) (codes "{" ++ (with_commas ts ++ codes "}"))
spells-tuple vs m ts a =
    spells-bracket (tuple vs) (a_tuple a.said) (m + 1) (codes "{") (codes "}") open_tuple close_tuple (with_commas ts) (members_tokens a.said)
    (ap tuple a.means) (omega arith) a.whole refl (λ at rest. refl) (λ at rest. refl) (λ rest. (refl, refl)) a.row

spells-list : (vs : Values) (m : ℕ) (ts : List (List ℕ)) → SpellMembers vs m ts → Spells (list vs) (m + 1) (codes "[" ++ (with_commas ts ++ codes "]"))
spells-list vs m ts a =
    spells-bracket (list vs) (a_list a.said) (m + 1) (codes "[") (codes "]") open_list close_list (with_commas ts) (members_tokens a.said)
    (ap list a.means) (omega arith) a.whole refl (λ at rest. refl) (λ at rest. refl) (λ rest. (refl, refl)) a.row

-- a list by its characters, where each member is one
spells-by : (vs : Values) (o : Option (List ℕ)) → characters_of vs ≡ o → SpellMembers vs (most_brackets vs) (texts_of vs) →
    Spells (list vs) (if is_string o then 0 else most_brackets vs + 1) (list_text o (texts_of vs))
spells-by vs (Some (c ∷ cs)) e members = spells-string vs (c ∷ cs) e
spells-by vs (Some []) e members = spells-list vs (most_brackets vs) (texts_of vs) members
spells-by vs None e members = spells-list vs (most_brackets vs) (texts_of vs) members

-- Binaries

bytes_all : (bs : List ℕ) → All (λ b. b < 256) bs → AllByRecursion (λ b. b < 256) bs
bytes_all [] h = tt
bytes_all (b ∷ bs) h = (All-head (λ x. x < 256) b bs h, bytes_all bs (All-tail (λ x. x < 256) b bs h))

-- bytes as the members of a binary
abbrev byte_phrases : List ℕ → Phrases
byte_phrases [] = no_phrases
byte_phrases (b ∷ bs) = phrase (a_number (pos b)) (byte_phrases bs)

segments-bytes : (bs : List ℕ) → bs ≡ segments (byte_phrases bs)
segments-bytes [] = refl
segments-bytes (b ∷ bs) = ap (λ xs. b ∷ xs) (segments-bytes bs)

depths-bytes : (bs : List ℕ) → depths (byte_phrases bs) ≡ 0
depths-bytes [] = refl
depths-bytes (b ∷ bs) = omega (arith, depths-bytes bs)

segments-all : (bs : List ℕ) → AllByRecursion (λ b. b < 256) bs → AreSegments (byte_phrases bs)
segments-all [] h = tt
segments-all (b ∷ bs) h = (h.0, segments-all bs h.1)

-- bytes as terms
abbrev byte_values : List ℕ → Values
byte_values [] = no_values
byte_values (b ∷ bs) = value (int (pos b)) (byte_values bs)

spell_bytes : (bs : List ℕ) → AllByRecursion (λ b. b < 256) bs → (a : SpellMembers (byte_values bs) 0 (map decimal bs)) × (a.said ≡ byte_phrases bs)
unfolding no_members one_member spells-number spells-one
spell_bytes [] h = (no_members, refl)
spell_bytes (b ∷ bs) h =
    let small : is_int (pos b) ≡ true = let low = h.0 in grind (arith, nat_tests) in
    let others = spell_bytes bs h.1 in
    (one_member (int (pos b)) (byte_values bs) 0 0 (decimal b) (map decimal bs) (spells-number (pos b) small) others.0, ap (phrase (a_number (pos b))) others.1)

spells-binary : (bs : List ℕ) → AllByRecursion (λ b. b < 256) bs → Spells (bin bs) 1 (binary_text bs)
spells-binary bs h =
    let members = spell_bytes bs h in
    spells-bracket (bin bs) (a_binary (byte_phrases bs)) 1 (codes "<<") (codes ">>") open_binary close_binary (with_commas (map decimal bs)) (members_tokens (byte_phrases bs))
    (ap bin (segments-bytes bs)) (omega (arith, depths-bytes bs)) (segments-all bs h) refl (λ at rest. lex_token 60 (60 ∷ []) rest at open_binary refl) (λ at rest. lex_token 62 (62 ∷ []) rest at close_binary refl)
    (λ rest. (refl, refl))
    (λ at rest b. subst (λ ps. Row at (with_commas (map decimal bs)) rest (members_tokens ps)) members.1 (members.0.row at rest b))

-- the text of a term with short names spells it
mutual
  pub spells : (v : Value) → HasShortNames v → FitsTerm v → Spells v (brackets v) (text_of v)
  spells (int n) h f = spells-number n (fits_int n f)
  spells (atom s) h f = spells-name s f h
  spells (list vs) h f = spells-by vs (characters_of vs) refl (spell_members vs h f)
  spells (tuple vs) h f = spells-tuple vs (most_brackets vs) (texts_of vs) (spell_members vs h f)
  spells (bin bs) h f = spells-binary bs (bytes_all bs f)

  spell_members : (vs : Values) → HaveShortNames vs → FitTerms vs → SpellMembers vs (most_brackets vs) (texts_of vs)
  spell_members no_values h f = no_members
  spell_members (value v vs) h f = one_member v vs (brackets v) (most_brackets vs) (text_of v) (texts_of vs) (spells v h.0 f.0) (spell_members vs h.1 f.1)

-- Texts

-- blanks have no tokens

blank_class : (x : ℕ) → x ≤ 32 → class_of x ≡ Blank
blank_class x h = grind (arith, nat_tests)

lex-blanks : (xs : List ℕ) (at : ℕ) → AllByRecursion (λ x. x ≤ 32) xs → lex at 0 xs ≡ []
lex-blanks [] at h = refl
lex-blanks (x ∷ xs) at h = rw (blank_class x h.0) (lex-blanks xs (at + 1) h.1)

ends_a_term-blanks : (xs : List ℕ) → AllByRecursion (λ x. x ≤ 32) xs → ends_a_term xs ≡ true
ends_a_term-blanks [] h = refl
ends_a_term-blanks (x ∷ xs) h = let blank : x ≤ 32 = h.0 in grind (arith, nat_tests)

IsAscii-blanks : (xs : List ℕ) → AllByRecursion (λ x. x ≤ 32) xs → IsAscii xs
IsAscii-blanks [] h = IsAscii-nil
IsAscii-blanks (x ∷ xs) h = IsAscii-cons x xs (omega (arith, h.0)) (IsAscii-blanks xs h.1)

lex-dot : (xs : List ℕ) (at : ℕ) → AllByRecursion (λ x. x ≤ 32) xs → lex at 0 (46 ∷ xs) ≡ record { token = dot; from = at; to = at + 1 } ∷ []
lex-dot xs at h = rw (ends_a_term-blanks xs h, lex-blanks xs (at + 1) h) refl

no_digit : (xs : List ℕ) → AllByRecursion (λ x. x ≤ 32) xs → goes_on_as_float (46 ∷ xs) ≡ false
no_digit [] h = refl
no_digit (x ∷ xs) h = let blank : x ≤ 32 = h.0 in grind (arith, nat_tests)

-- With a dot and blanks after it, the text of a term within the limits reads as that term.
pub reads_back : (limit : ℕ) (v : Value) (s : List ℕ) → s ≡ text_of v → IsUtf8 s → IsWithin limit v → FitsTerm v → ReadsAs limit s v
reads_back limit v s e u h f blanks b = go (subst (λ t. Spells v (brackets v) t) (sym e) (spells v h.0 f))
  where
    go : Spells v (brackets v) s → Reads limit (s ++ 46 ∷ blanks) (record { term = v; from = 0; to = length s } ∷ [])
    go a =
        let behind : IsBehind (46 ∷ blanks) = (refl, no_digit blanks b) in
        let row = a.row (0) (46 ∷ blanks) behind in
        let end = IsUtf8-from_ascii (46 ∷ blanks) (IsAscii-cons 46 blanks (omega arith) (IsAscii-blanks blanks b)) in
        let d : Item = record { token = dot; from = 0 + length s; to = 0 + length s + 1 } in
        let scanned : lex 0 0 (sealed (s ++ 46 ∷ blanks)) ≡ row.items ++ d ∷ [] =
        ap (lex 0 0) (sealed-IsUtf8 (s ++ 46 ∷ blanks) (IsUtf8-append s (46 ∷ blanks) u end)) ∙ row.all
        ∙ ap (λ is. row.items ++ is) (lex-dot blanks (0 + length s) b) in
        let spelled : tokens_of a.said ++ dot ∷ [] ≡ tokens (row.items ++ d ∷ []) =
        ap (λ ts. ts ++ dot ∷ []) (sym row.spelled) ∙ sym (map-append (λ (i : Item). i.token) row.items (d ∷ [])) in
        let apart : AreApart (tokens (row.items ++ d ∷ [])) = subst AreApart spelled (term_apart a.said (dot ∷ []) tt (tt, tt)) in
        let all : items_of (s ++ 46 ∷ blanks) ≡ row.items ++ d ∷ [] = ap join scanned ∙ join-apart (row.items ++ d ∷ []) apart in
        let term : IsTerm limit row.items (record { term = v; from = 0; to = length s }) = record {
          phrase = a.said;
          spelled = row.spelled;
          means = a.means;
          fits = (omega (arith, a.fits, h.1), a.whole);
          from = sym (a.from 0 (46 ∷ blanks) behind);
          to = omega (arith, a.to 0 (46 ∷ blanks) behind);
        } in
        (row.items, [], d, all, refl, term, refl)
