-- How a term is printed, with no blanks (Erlang Reference Manual, Data Types).
use Rattle.std.specs.Prelude.{ℕ, pos, Bool, true, false, ◌&&◌, ◌||◌, not, ◌==◌, nat_lt, if◌then◌else◌, Option, Some, None, List, [], ◌∷◌, ◌++◌, map, codes, encode_utf8}
use Rattle.std.specs.List.{list_all, list_any, flat_map, join_with_byte}
use Rattle.std.specs.Str.{chars, bytes_eq}
use Rattle.std.specs.Fmt.{decimal, signed_decimal, digits}
use Rattle.erl_term.specs.Value.{Value, Values}
use Rattle.erl_term.specs.Value.Value.{int, atom, list, tuple, bin}
use Rattle.erl_term.specs.Value.Values.{no_values, value}
use Rattle.erl_number.specs.Escapes.{is_in}
use Rattle.erl_number.specs.Texts.{is_bare_name_byte}

-- the words that are no atoms without quotes (Erlang Reference Manual, Introduction, Reserved Words)
abbrev pub reserved_words : List (List ℕ)
reserved_words =
    codes "after" ∷ codes "and" ∷ codes "andalso" ∷ codes "band" ∷ codes "begin" ∷ codes "bnot" ∷ codes "bor" ∷ codes "bsl"
    ∷ codes "bsr" ∷ codes "bxor" ∷ codes "case" ∷ codes "catch" ∷ codes "cond" ∷ codes "div" ∷ codes "else" ∷ codes "end"
    ∷ codes "fun" ∷ codes "if" ∷ codes "let" ∷ codes "maybe" ∷ codes "not" ∷ codes "of" ∷ codes "or" ∷ codes "orelse"
    ∷ codes "receive" ∷ codes "rem" ∷ codes "try" ∷ codes "when" ∷ codes "xor" ∷ []

-- a small letter, and then what a bare name goes on with
abbrev pub has_bare_form : List ℕ → Bool
has_bare_form [] = false
has_bare_form (x ∷ xs) = is_in 97 122 x && list_all is_bare_name_byte xs

-- an atom that needs no quotes
abbrev pub is_bare : List ℕ → Bool
is_bare s = has_bare_form s && not (list_any (bytes_eq s) reserved_words)

-- a character of an atom, within the quotes
abbrev pub atom_character : ℕ → List ℕ
atom_character c =
    if c == 39 then codes "\\'" else if c == 92 then codes "\\\\"
    else if nat_lt c 32 || c == 127 then codes "\\x{" ++ (digits 16 true c ++ codes "}")
    else encode_utf8 c

-- an atom
abbrev pub atom_text : List ℕ → List ℕ
atom_text s = if is_bare s then s else codes "'" ++ (flat_map atom_character (chars s) ++ codes "'")

-- a tab, a new line, a carriage return, or what ASCII prints
abbrev pub is_printable : ℕ → Bool
is_printable n = n == 9 || n == 10 || n == 13 || is_in 32 126 n

-- the character that a member of a list can be printed as
abbrev pub character_of : Value → Option ℕ
character_of (int (pos n)) = if is_printable n then Some n else None
character_of v = None

-- one more in front, where there are any
abbrev pub put_character : Option ℕ → Option (List ℕ) → Option (List ℕ)
put_character (Some c) (Some cs) = Some (c ∷ cs)
put_character c cs = None

-- the characters of a list, where each member is one
abbrev pub characters_of : Values → Option (List ℕ)
characters_of no_values = Some []
characters_of (value v vs) = put_character (character_of v) (characters_of vs)

-- a list that is printed as a string has characters alone, and some
abbrev pub is_string : Option (List ℕ) → Bool
is_string (Some (c ∷ cs)) = true
is_string cs = false

-- a character of a string, within the quotes
abbrev pub string_character : ℕ → List ℕ
string_character c =
    if c == 34 then codes "\\\"" else if c == 92 then codes "\\\\"
    else if c == 9 then codes "\\t" else if c == 10 then codes "\\n" else if c == 13 then codes "\\r"
    else encode_utf8 c

-- texts with commas between them
abbrev pub with_commas : List (List ℕ) → List ℕ
with_commas = join_with_byte 44

-- a list of characters alone
abbrev pub string_text : List ℕ → List ℕ
string_text cs = codes "\"" ++ (flat_map string_character cs ++ codes "\"")

-- a binary
abbrev pub binary_text : List ℕ → List ℕ
binary_text bs = codes "<<" ++ (with_commas (map decimal bs) ++ codes ">>")

-- the text of a list that has these characters, where each member is one, and members with these texts
abbrev pub list_text : Option (List ℕ) → List (List ℕ) → List ℕ
list_text (Some (c ∷ cs)) ts = string_text (c ∷ cs)
list_text cs ts = codes "[" ++ (with_commas ts ++ codes "]")

-- the text of a term
abbrev mutual
  pub text_of : Value → List ℕ
  text_of (int n) = signed_decimal n
  text_of (atom s) = atom_text s
  text_of (list vs) = list_text (characters_of vs) (texts_of vs)
  text_of (tuple vs) = codes "{" ++ (with_commas (texts_of vs) ++ codes "}")
  text_of (bin bs) = binary_text bs

  pub texts_of : Values → List (List ℕ)
  texts_of no_values = []
  texts_of (value v vs) = text_of v ∷ texts_of vs
