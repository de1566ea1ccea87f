-- The tokens of a text, with their places (Erlang Reference Manual, Data Types; `erl_scan`).
use Rattle.std.specs.Prelude.{ℕ, ℤ, zero, suc, pos, neg_ℤ, ◌+◌, ◌-◌, Bool, true, ◌||◌, List, [], ◌∷◌, ◌++◌, length, drop, codes, chars, nat_lt, nat_le, ◌==◌, if◌then◌else◌, Option, Some, None}
use Rattle.std.specs.Str.{bytes_eq}
pub use Rattle.erl_number.specs.Escapes.{is_in}
use Rattle.erl_number.specs.Escapes.{leading}
use Rattle.erl_number.specs.Texts.{sealed, is_bare_name_byte}
use Rattle.erl_number.specs.Numbers.{Numeral, numeral, is_int}
use Rattle.erl_number.specs.Numbers.Numeral.{whole, faulty as faulty_number, cut_off}
use Rattle.erl_token.specs.Quotes.{Quoted, quoted}
use Rattle.erl_token.specs.Quotes.Quoted.{closed, faulty}
use Rattle.erl_number.specs.declared.fault.TermFault.{TermFault}
use Rattle.erl_number.specs.declared.fault.TermFault.TheVariants.{BadToken, BadNumber, Unsupported}
use Rattle.erl_token.specs.declared.class.Class.{Class}
use Rattle.erl_token.specs.declared.class.Class.TheVariants.{Blank, Percent, Comma, Dot, OpenTuple, CloseTuple, OpenList, CloseList, Less, Greater, Quote, Apostrophe, Dollar, Sign, Letter, Digit, Other}

-- what a byte begins where a token may begin
abbrev pub class_of : ℕ → Class
class_of x =
    if nat_le x 32 then Blank else if x == 37 then Percent else if x == 44 then Comma else if x == 46 then Dot
    else if x == 123 then OpenTuple else if x == 125 then CloseTuple else if x == 91 then OpenList else if x == 93 then CloseList
    else if x == 60 then Less else if x == 62 then Greater
    else if x == 34 then Quote else if x == 39 then Apostrophe else if x == 36 then Dollar else if x == 43 || x == 45 then Sign
    else if is_in 97 122 x then Letter else if is_in 48 57 x then Digit else Other

-- A token: names and texts by their bytes in UTF-8. Three are of no term: a byte that begins none, one that begins as another
-- does and has a fault, and one that begins as another does and that the end of the text cuts off.
pub data Token : Type 0 where
  open_tuple : Token
  close_tuple : Token
  open_list : Token
  close_list : Token
  open_binary : Token
  close_binary : Token
  comma : Token
  dot : Token
  name : List ℕ → Token
  number : ℤ → Token
  text : List ℕ → Token
  stray : ℕ → Token
  broken : Token → TermFault → Token
  cut : Token → Token

-- what a faulty name, number or text begins as
abbrev pub some_name : Token
some_name = name []

abbrev pub some_number : Token
some_number = number (pos 0)

abbrev pub some_text : Token
some_text = text []

-- a token, and how many bytes it takes; one that is of no term is not read past its first
pub record Spelling : Type 0 where
  pub token : Token
  pub size : ℕ

abbrev pub alone : Token → Spelling
alone t = record { token = t; size = 1 }

-- a name of at most 255 characters
abbrev pub name_spelling : ℕ → List ℕ → ℕ → Spelling
name_spelling at s size = if nat_le (length (chars s)) 255 then record { token = name s; size = size } else alone (broken some_name (BadToken at))

-- a name without quotes: `fun` begins what isn't read
abbrev pub bare : ℕ → List ℕ → Spelling
bare at s = if bytes_eq s (codes "fun") then alone (broken some_name (Unsupported at)) else name_spelling at s (length s)

-- what stands between these quotes is a name, or a text
abbrev pub name_in_quotes : ℕ → Quoted → Spelling
name_in_quotes at (closed s size) = name_spelling at s (size + 1)
name_in_quotes at (faulty f) = alone (broken some_name f)

abbrev pub text_in_quotes : Quoted → Spelling
text_in_quotes (closed s size) = record { token = text s; size = size + 1 }
text_in_quotes (faulty f) = alone (broken some_text f)

abbrev pub in_range : ℕ → ℤ → ℕ → Spelling
in_range at z size = if is_int z then record { token = number z; size = size } else alone (broken some_number (BadNumber at))

-- the number with its sign, which takes so many bytes with the blanks after it
abbrev pub numbered : ℕ → (ℕ → ℤ) → ℕ → Numeral → Spelling
numbered at sign size (whole n m) = in_range at (sign n) (size + m)
numbered at sign size (faulty_number f) = alone (broken some_number f)
numbered at sign size cut_off = alone (cut some_number)

abbrev pub sign_of : ℕ → ℕ → ℤ
sign_of x n = if x == 45 then neg_ℤ (pos n) else pos n

-- what stands after a sign: blanks, and a number
abbrev pub signed : ℕ → ℕ → List ℕ → Spelling
signed at x xs = let n = length (leading (λ y. nat_le y 32) xs) in numbered at (sign_of x) (n + 1) (numeral at (at + 1 + n) (drop n xs))

-- two such bytes in a row are a token
abbrev pub doubled : Token → ℕ → List ℕ → Spelling
doubled t x [] = alone (cut t)
doubled t x (y ∷ ys) = if y == x then record { token = t; size = 2 } else alone (stray x)

-- what may stand after a full stop that is a dot: a blank, a comment or the end
abbrev pub ends_a_term : List ℕ → Bool
ends_a_term [] = true
ends_a_term (x ∷ xs) = nat_le x 32 || x == 37

-- The token at this place: the class of its first byte, that byte, and those after it. No blank and no comment begins one.
abbrev pub spelling : ℕ → Class → ℕ → List ℕ → Spelling
spelling at Comma x xs = alone comma
spelling at OpenTuple x xs = alone open_tuple
spelling at CloseTuple x xs = alone close_tuple
spelling at OpenList x xs = alone open_list
spelling at CloseList x xs = alone close_list
spelling at Less x xs = doubled open_binary x xs
spelling at Greater x xs = doubled close_binary x xs
spelling at Dot x xs = alone (if ends_a_term xs then dot else stray x)
spelling at Letter x xs = bare at (x ∷ leading is_bare_name_byte xs)
spelling at Digit x xs = numbered at pos 0 (numeral at at (x ∷ xs))
spelling at Dollar x xs = numbered at pos 0 (numeral at at (x ∷ xs))
spelling at Sign x xs = signed at x xs
spelling at Quote x xs = text_in_quotes (quoted 34 at (at + 1) 0 xs)
spelling at Apostrophe x xs = name_in_quotes at (quoted 39 at (at + 1) 0 xs)
spelling at Blank x xs = alone (stray x)
spelling at Percent x xs = alone (stray x)
spelling at Other x xs = alone (stray x)

-- the length of a comment: up to the end of its line, or to what isn't UTF-8
abbrev pub comment_size : List ℕ → ℕ
comment_size [] = 0
comment_size (x ∷ xs) = if x == 10 || nat_lt 255 x then 0 else comment_size xs + 1

-- a token, from its first byte to after its last
pub record Item : Type 0 where
  pub token : Token
  pub from : ℕ
  pub to : ℕ

-- what a byte begins: nothing, a comment of which so much is still to come, or a token
pub data Start : Type 0 where
  gap : ℕ → Start
  token_of : Spelling → Start

abbrev pub start_of : ℕ → Class → ℕ → List ℕ → Start
start_of at Blank x xs = gap 0
start_of at Percent x xs = gap (comment_size xs)
start_of at class x xs = token_of (spelling at class x xs)

abbrev pub goes_on : ℕ → Start → (ℕ → List Item) → List Item
goes_on at (gap n) rest = rest n
goes_on at (token_of s) rest = record { token = s.token; from = at; to = at + s.size } ∷ rest (s.size - 1)

-- The tokens of the bytes from this place on, after so many that belong to what began before them.
abbrev pub lex : ℕ → ℕ → List ℕ → List Item
lex at n [] = []
lex at (suc n) (x ∷ xs) = lex (at + 1) n xs
lex at zero (x ∷ xs) = goes_on at (start_of at (class_of x) x xs) (λ n. lex (at + 1) n xs)

-- two texts in a row are one, and faulty if the second is
abbrev pub joined : Token → Token → Option Token
joined (text s) (text t) = Some (text (s ++ t))
joined (text s) (broken (text t) f) = Some (broken some_text f)
joined s t = None

-- an item in front of others, of which the first may go on with it
abbrev pub in_front : Item → Option Token → Item → List Item → List Item
in_front i (Some t) j js = record { token = t; from = i.from; to = j.to } ∷ js
in_front i None j js = i ∷ j ∷ js

abbrev pub put_item : Item → List Item → List Item
put_item i [] = i ∷ []
put_item i (j ∷ js) = in_front i (joined i.token j.token) j js

-- the items, where texts in a row are one (`erl_parse`)
abbrev pub join : List Item → List Item
join [] = []
join (i ∷ is) = put_item i (join is)

-- the tokens of a text
abbrev pub items_of : List ℕ → List Item
items_of bytes = join (lex 0 0 (sealed bytes))
