-- Texts in a row as one.
use Rattle.std.proofs.Common.{◌≡◌, ◌≢◌, ℕ, ℤ, ◌+◌, ◌-◌, ◌<◌, pos, Bool, true, false, eqb, if◌then◌else◌, nat_le, List, [], ◌∷◌, ◌++◌, length, drop, slice_get, Option, Some, None, IfSome, refl, sym, ◌∙◌, ap, subst, append_assoc, arith}
use Rattle.std.specs.Str.{bytes_eq, chars}
use Rattle.std.specs.Prelude.{codes}
use Rattle.erl_number.specs.declared.fault.TermFault.{TermFault}
use Rattle.erl_number.specs.declared.fault.TermFault.TheVariants.{BadToken, BadNumber, Unsupported}
use Rattle.erl_token.specs.declared.class.Class.{Class}
use Rattle.erl_token.specs.declared.class.Class.TheVariants.{Blank, Percent, Dot, Less, Greater, Quote, Apostrophe, Dollar, Sign, Letter, Digit}
use Rattle.erl_number.specs.Numbers.{Numeral, numeral, is_int}
use Rattle.erl_number.specs.Numbers.Numeral.{whole, faulty as faulty_number, cut_off}
use Rattle.erl_token.specs.Quotes.{Quoted, quoted}
use Rattle.erl_token.specs.Quotes.Quoted.{closed, faulty}
use Rattle.erl_number.specs.Escapes.{leading}
use Rattle.erl_token.specs.declared.token.Token.{Token as CodeToken}
use Rattle.erl_token.specs.declared.token.Token.TheVariants.{Open, Close, Text as CodeText}
use Rattle.erl_token.specs.declared.token.Bracket.TheVariants.{Tuple, List as Square, Binary}
use Rattle.erl_token.specs.declared.content.Content.{Content}
use Rattle.erl_token.specs.declared.token.Item.{Item as CodeItem}
use Rattle.erl_token.specs.Views.{token_value, item_value, lexed, items_from}
use Rattle.erl_number.specs.Scanned.{byte_in}
use Rattle.erl_token.specs.Scanned.{IsSpelled}
use Rattle.erl_token.proofs.ClassLemmas.{class_quote}
use Rattle.erl_token.proofs.Lexemes.{takes_spelling, takes_item, begins_token, no_item}
use Rattle.erl_number.specs.Texts.{is_bare_name_byte}
use Rattle.erl_token.specs.Lexing.{Token, Item, alone, some_name, some_number, some_text, text_in_quotes, class_of, name_spelling, bare, name_in_quotes, numbered, sign_of, doubled, ends_a_term, spelling, joined, in_front, put_item, join}
use Rattle.erl_token.specs.Lexing.Token.{open_binary, close_binary, dot, name, number, text, stray, broken}

-- a text, whole or faulty
abbrev pub begins_text : Token → Bool
begins_text (text s) = true
begins_text (broken (text s) f) = true
begins_text t = false

-- a whole text
abbrev pub is_whole_text : Token → Bool
is_whole_text (text s) = true
is_whole_text t = false

-- the first of these is a text
abbrev pub text_first : List Item → Bool
text_first [] = false
text_first (i ∷ is) = begins_text i.token

pub joined-other : (t u : Token) → is_whole_text t ≡ false → joined t u ≡ None
joined-other (text s) u e = absurd cc
joined-other t u e = refl

pub joined-no_text : (t u : Token) → begins_text u ≡ false → joined t u ≡ None
joined-no_text (text s) (text u) e = absurd cc
joined-no_text (text s) (broken (text u) f) e = absurd cc
joined-no_text t u e = refl

-- what is no whole text stands alone
pub put_item-other : (i : Item) (js : List Item) → is_whole_text i.token ≡ false → put_item i js ≡ i ∷ js
put_item-other i [] e = refl
put_item-other i (j ∷ js) e = ap (λ o. in_front i o j js) (joined-other i.token j.token e)

-- a text in front of what is none stands alone
pub put_item-last : (i : Item) (js : List Item) → text_first js ≡ false → put_item i js ≡ i ∷ js
put_item-last i [] e = refl
put_item-last i (j ∷ js) e = ap (λ o. in_front i o j js) (joined-no_text i.token j.token e)

-- a text and the next are one text in front of the rest
pub put_item-put_item : (s t : List ℕ) (from to begin end : ℕ) (js : List Item)
    → put_item (record { token = text s; from = from; to = to }) (put_item (record { token = text t; from = begin; to = end }) js)
    ≡ put_item (record { token = text (s ++ t); from = from; to = end }) js
put_item-put_item s t from to begin end [] = refl
put_item-put_item s t from to begin end (j ∷ js) = go j.token
  where
    go : (u : Token)
        → put_item (record { token = text s; from = from; to = to }) (in_front (record { token = text t; from = begin; to = end }) (joined (text t) u) j js)
        ≡ in_front (record { token = text (s ++ t); from = from; to = end }) (joined (text (s ++ t)) u) j js
    go (text r) = ap (λ whole. record { token = text whole; from = from; to = j.to } ∷ js) (sym (append_assoc s t r))
    go (broken (text r) f) = refl
    go u = refl

first-put_item : (i : Item) (js : List Item) → text_first (put_item i js) ≡ begins_text i.token
first-put_item i [] = refl
first-put_item i (j ∷ js) = go i.token j.token
  where
    go : (t u : Token) → text_first (in_front (record { token = t; from = i.from; to = i.to }) (joined t u) j js) ≡ begins_text t
    go (text s) (text r) = refl
    go (text s) (broken (text r) f) = refl
    go (text s) u = refl
    go t u = refl

-- the first is a text as it was before
pub text_first-join : (is : List Item) → text_first (join is) ≡ text_first is
text_first-join [] = refl
text_first-join (i ∷ is) = first-put_item i (join is)

-- no class but that of `"` begins a text

named-no_text : (at size : ℕ) (s : List ℕ) → begins_text (name_spelling at s size).token ≡ false
named-no_text at size s = go (nat_le (length (chars s)) 255)
  where
    go : (b : Bool) → begins_text (if b then record { token = name s; size = size } else alone (broken some_name (BadToken at))).token ≡ false
    go true = refl
    go false = refl

bare-no_text : (at : ℕ) (s : List ℕ) → begins_text (bare at s).token ≡ false
bare-no_text at s = go (bytes_eq s (codes "fun"))
  where
    go : (b : Bool) → begins_text (if b then alone (broken some_name (Unsupported at)) else name_spelling at s (length s)).token ≡ false
    go true = refl
    go false = named-no_text at (length s) s

name_in_quotes-no_text : (at : ℕ) (q : Quoted) → begins_text (name_in_quotes at q).token ≡ false
name_in_quotes-no_text at (closed s size) = named-no_text at (size + 1) s
name_in_quotes-no_text at (faulty f) = refl

doubled-no_text : (t : Token) (x : ℕ) (xs : List ℕ) → begins_text t ≡ false → begins_text (doubled t x xs).token ≡ false
doubled-no_text t x [] e = refl
doubled-no_text t x (y ∷ ys) e = go (eqb y x)
  where
    go : (b : Bool) → begins_text (if b then record { token = t; size = 2 } else alone (stray x)).token ≡ false
    go true = e
    go false = refl

dot-no_text : (b : Bool) (x : ℕ) → begins_text (alone (if b then dot else stray x)).token ≡ false
dot-no_text true x = refl
dot-no_text false x = refl

number-no_text : (at : ℕ) (sign : ℕ → ℤ) (size : ℕ) (n : Numeral) → begins_text (numbered at sign size n).token ≡ false
number-no_text at sign size (whole n m) = go (is_int (sign n))
  where
    go : (b : Bool) → begins_text (if b then record { token = number (sign n); size = size + m } else alone (broken some_number (BadNumber at))).token ≡ false
    go true = refl
    go false = refl
number-no_text at sign size (faulty_number f) = refl
number-no_text at sign size cut_off = refl

spelling-no_text : (at : ℕ) (k : Class) (x : ℕ) (xs : List ℕ) → k ≢ Quote → begins_text (spelling at k x xs).token ≡ false
spelling-no_text at Less x xs h = doubled-no_text open_binary x xs refl
spelling-no_text at Greater x xs h = doubled-no_text close_binary x xs refl
spelling-no_text at Dot x xs h = dot-no_text (ends_a_term xs) x
spelling-no_text at Letter x xs h = bare-no_text at (x ∷ leading is_bare_name_byte xs)
spelling-no_text at Digit x xs h = number-no_text at pos 0 (numeral at at (x ∷ xs))
spelling-no_text at Dollar x xs h = number-no_text at pos 0 (numeral at at (x ∷ xs))
spelling-no_text at Sign x xs h =
    let n = length (leading (λ y. nat_le y 32) xs) in number-no_text at (sign_of x) (n + 1) (numeral at (at + 1 + n) (drop n xs))
spelling-no_text at Quote x xs h = absurd (h refl)
spelling-no_text at Apostrophe x xs h = name_in_quotes-no_text at (quoted 39 at (at + 1) 0 xs)
spelling-no_text at k x xs h = refl

-- what begins with another byte is no text
no_text : (bytes : List ℕ) (at x : ℕ) → slice_get bytes at ≡ Some x → class_of x ≢ Blank → class_of x ≢ Percent → x ≢ 34 → text_first (lexed bytes at) ≡ false
no_text bytes at x e not_blank not_percent other =
    ap text_first (begins_token bytes at x e not_blank not_percent)
    ∙ spelling-no_text at (class_of x) x (drop (at + 1) bytes) (λ is. other (class_quote x is))

-- A row of texts

abbrev pub text_item : List ℕ → ℕ → ℕ → Item
text_item s from to = record { token = text s; from = from; to = to }

-- a row ends in front of what is no text
pub row_ends : (bytes s : List ℕ) (from to next x : ℕ) → slice_get bytes next ≡ Some x → class_of x ≢ Blank → class_of x ≢ Percent → x ≢ 34
    → put_item (text_item s from to) (items_from bytes next) ≡ text_item s from to ∷ items_from bytes next
row_ends bytes s from to next x e not_blank not_percent other =
    put_item-last (text_item s from to) (items_from bytes next) (text_first-join (lexed bytes next) ∙ no_text bytes next x e not_blank not_percent other)

pub row_ends_text : (bytes s : List ℕ) (from to next : ℕ) → slice_get bytes next ≡ None
    → put_item (text_item s from to) (items_from bytes next) ≡ text_item s from to ∷ items_from bytes next
row_ends_text bytes s from to next e =
    put_item-last (text_item s from to) (items_from bytes next) (ap (λ is. text_first (join is)) (no_item bytes next e))

pub row_ends_there : (bytes s : List ℕ) (from to next : ℕ) → byte_in (slice_get bytes next) ≡ None → IfSome (slice_get bytes next) (λ x. (class_of x ≢ Blank) × (class_of x ≢ Percent))
    → put_item (text_item s from to) (items_from bytes next) ≡ text_item s from to ∷ items_from bytes next
row_ends_there bytes s from to next none stops = go (slice_get bytes next) refl none stops
  where
    go : (o : Option ℕ) → slice_get bytes next ≡ o → byte_in o ≡ None → IfSome o (λ x. (class_of x ≢ Blank) × (class_of x ≢ Percent))
        → put_item (text_item s from to) (items_from bytes next) ≡ text_item s from to ∷ items_from bytes next
    go None e none stops = row_ends_text bytes s from to next e
    go (Some x) e none stops = row_ends bytes s from to next x e stops.0 stops.1 (λ is. quoted x is none)
      where
        quoted : (x : ℕ) → x ≡ 34 → byte_in (Some x) ≡ None → ⊥
        quoted x is none = let bad : byte_in (Some 34) ≡ None = ap (λ y. byte_in (Some y)) (sym is) ∙ none in cc

-- a text in a row, as it stands by itself
next_text : (bytes : List ℕ) (next : ℕ) (q : Quoted) → slice_get bytes next ≡ Some 34 → quoted 34 next (next + 1) 0 (drop (next + 1) bytes) ≡ q
    → 0 < (text_in_quotes q).size
    → items_from bytes next ≡ (let s = text_in_quotes q in put_item (record { token = s.token; from = next; to = next + s.size }) (items_from bytes (next + s.size)))
next_text bytes next q e is some =
    let size : 0 < (text_in_quotes (quoted 34 next (next + 1) 0 (drop (next + 1) bytes))).size = subst (λ (p : Quoted). 0 < (text_in_quotes p).size) (sym is) some in
    ap join (takes_spelling bytes next 34 Quote e refl (λ f. absurd cc) (λ f. absurd cc) size)
    ∙ ap (λ p. let s = text_in_quotes p in put_item (record { token = s.token; from = next; to = next + s.size }) (items_from bytes (next + s.size))) is

pub row_goes_on : (bytes s t : List ℕ) (from to next end : ℕ) → slice_get bytes next ≡ Some 34
    → quoted 34 next (next + 1) 0 (drop (next + 1) bytes) ≡ closed t (end - (next + 1)) → next + 1 < end
    → put_item (text_item s from to) (items_from bytes next) ≡ put_item (text_item (s ++ t) from end) (items_from bytes end)
row_goes_on bytes s t from to next end e is some =
    let place : next + ((end - (next + 1)) + 1) ≡ end = omega arith in
    ap (put_item (text_item s from to)) (next_text bytes next (closed t (end - (next + 1))) e is (omega arith) ∙ ap (λ p. put_item (text_item t next p) (items_from bytes p)) place)
    ∙ put_item-put_item s t from to next end (items_from bytes end)

pub row_breaks : (bytes s : List ℕ) (from to next : ℕ) (f : TermFault) → slice_get bytes next ≡ Some 34
    → quoted 34 next (next + 1) 0 (drop (next + 1) bytes) ≡ faulty f
    → put_item (text_item s from to) (items_from bytes next) ≡ record { token = broken some_text f; from = from; to = next + 1 } ∷ items_from bytes (next + 1)
row_breaks bytes s from to next f e is =
    let broken_item : Item = record { token = broken some_text f; from = next; to = next + 1 } in
    ap (put_item (text_item s from to)) (next_text bytes next (faulty f) e is (omega arith) ∙ put_item-other broken_item (items_from bytes (next + 1)) refl)

-- what the code takes for no text is none
pub no_whole_text : (t : CodeToken) → ((content : Content) → t ≡ CodeText content → ⊥) → is_whole_text (token_value t) ≡ false
no_whole_text (CodeText content) h = absurd (h content refl)
no_whole_text (Open Tuple) h = refl
no_whole_text (Open Square) h = refl
no_whole_text (Open Binary) h = refl
no_whole_text (Close Tuple) h = refl
no_whole_text (Close Square) h = refl
no_whole_text (Close Binary) h = refl
no_whole_text t h = refl

-- the first token as it stands by itself, in front of those after it
pub first_item : (bytes : List ℕ) (from at b : ℕ) (k : Class) (i : CodeItem) → lexed bytes from ≡ lexed bytes at → slice_get bytes at ≡ Some b → k ≡ class_of b
    → class_of b ≢ Blank → class_of b ≢ Percent → IsSpelled (spelling at k b (drop (at + 1) bytes)) at i → items_from bytes from ≡ put_item (item_value i) (items_from bytes i.to)
first_item bytes from at b k i same e is not_blank not_percent spelled =
    ap join (same ∙ takes_item bytes at b k i e is (λ f. not_blank (sym is ∙ f)) (λ f. not_percent (sym is ∙ f)) spelled)
