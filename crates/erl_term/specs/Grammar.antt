-- What a row of tokens says (Erlang Reference Manual, Data Types).
use Rattle.std.specs.Prelude.{◌≡◌, ℕ, ℤ, pos, ◌+◌, ◌<◌, ◌≤◌, max, List, [], ◌∷◌, ◌++◌, map}
use Rattle.std.specs.List.{AllByRecursion}
use Rattle.std.specs.Str.{chars}
use Rattle.erl_term.specs.Value.{Value, Values}
use Rattle.erl_term.specs.Value.Value.{int, atom, list, tuple, bin}
use Rattle.erl_term.specs.Value.Values.{no_values, value}
use Rattle.erl_token.specs.Lexing.{Token, Item, items_of}
pub use Rattle.erl_token.specs.Rows.{first_from, last_to}
use Rattle.erl_token.specs.Lexing.Token.{open_tuple, close_tuple, open_list, close_list, open_binary, close_binary, comma, dot, name, number, text}

-- A term as it is spelled: a list of characters may also stand as a text. The members of a binary are numbers and texts.
mutual
  pub data Phrase : Type 0 where
    a_name : List ℕ → Phrase
    a_number : ℤ → Phrase
    a_text : List ℕ → Phrase
    a_tuple : Phrases → Phrase
    a_list : Phrases → Phrase
    a_binary : Phrases → Phrase

  pub data Phrases : Type 0 where
    no_phrases : Phrases
    phrase : Phrase → Phrases → Phrases

-- the numbers as terms
abbrev pub numbers : List ℕ → Values
numbers [] = no_values
numbers (n ∷ ns) = value (int (pos n)) (numbers ns)

-- the bytes that a member of a binary stands for
abbrev pub segment : Phrase → List ℕ
segment (a_number (pos n)) = n ∷ []
segment (a_text s) = chars s
segment p = []

abbrev pub segments : Phrases → List ℕ
segments no_phrases = []
segments (phrase p ps) = segment p ++ segments ps

-- the term that is spelled so
abbrev mutual
  pub meaning : Phrase → Value
  meaning (a_name s) = atom s
  meaning (a_number n) = int n
  meaning (a_text s) = list (numbers (chars s))
  meaning (a_tuple ps) = tuple (meanings ps)
  meaning (a_list ps) = list (meanings ps)
  meaning (a_binary ps) = bin (segments ps)

  pub meanings : Phrases → Values
  meanings no_phrases = no_values
  meanings (phrase p ps) = value (meaning p) (meanings ps)

-- its tokens
abbrev mutual
  pub tokens_of : Phrase → List Token
  tokens_of (a_name s) = name s ∷ []
  tokens_of (a_number n) = number n ∷ []
  tokens_of (a_text s) = text s ∷ []
  tokens_of (a_tuple ps) = open_tuple ∷ (members_tokens ps ++ close_tuple ∷ [])
  tokens_of (a_list ps) = open_list ∷ (members_tokens ps ++ close_list ∷ [])
  tokens_of (a_binary ps) = open_binary ∷ (members_tokens ps ++ close_binary ∷ [])

  pub members_tokens : Phrases → List Token
  members_tokens no_phrases = []
  members_tokens (phrase p ps) = tokens_of p ++ rest_tokens ps

  pub rest_tokens : Phrases → List Token
  rest_tokens no_phrases = []
  rest_tokens (phrase p ps) = comma ∷ (tokens_of p ++ rest_tokens ps)

-- how many brackets are open at once in it
abbrev mutual
  pub depth : Phrase → ℕ
  depth (a_name s) = 0
  depth (a_number n) = 0
  depth (a_text s) = 0
  depth (a_tuple ps) = depths ps + 1
  depth (a_list ps) = depths ps + 1
  depth (a_binary ps) = depths ps + 1

  pub depths : Phrases → ℕ
  depths no_phrases = 0
  depths (phrase p ps) = max (depth p) (depths ps)

-- a member of a binary: a byte, or a text of characters that are bytes
abbrev pub IsSegment : Phrase → Type 0
IsSegment (a_number (pos n)) = n < 256
IsSegment (a_text s) = AllByRecursion (λ c. c < 256) (chars s)
IsSegment p = ⊥

abbrev pub AreSegments : Phrases → Type 0
AreSegments no_phrases = Unit {0}
AreSegments (phrase p ps) = IsSegment p × AreSegments ps

-- its binaries have segments alone
abbrev mutual
  pub HasSegments : Phrase → Type 0
  HasSegments (a_name s) = Unit {0}
  HasSegments (a_number n) = Unit {0}
  HasSegments (a_text s) = Unit {0}
  HasSegments (a_tuple ps) = HaveSegments ps
  HasSegments (a_list ps) = HaveSegments ps
  HasSegments (a_binary ps) = AreSegments ps

  pub HaveSegments : Phrases → Type 0
  HaveSegments no_phrases = Unit {0}
  HaveSegments (phrase p ps) = HasSegments p × HaveSegments ps

-- it is a term, with at most so many brackets open at once
abbrev pub Fits : ℕ → Phrase → Type 0
Fits limit p = (depth p ≤ limit) × HasSegments p

abbrev pub tokens : List Item → List Token
tokens is = map (λ i. i.token) is

-- a term of a text, with its places
pub record Reading : Type 0 where
  pub term : Value
  pub from : ℕ
  pub to : ℕ

-- The row spells the term, with at most so many brackets open at once.
pub record IsTerm (limit : ℕ) (row : List Item) (r : Reading) : Type 0 where
  pub phrase : Phrase
  pub spelled : tokens row ≡ tokens_of phrase
  pub means : r.term ≡ meaning phrase
  pub fits : Fits limit phrase
  pub from : r.from ≡ first_from row
  pub to : r.to ≡ last_to row

-- terms one after another, each with its dot
abbrev pub AreTerms : ℕ → List Item → List Reading → Type 0
AreTerms limit is [] = is ≡ []
AreTerms limit is (r ∷ rs) =
    (row rest : List Item) × (d : Item) × (is ≡ row ++ (d ∷ rest)) × (d.token ≡ dot) × IsTerm limit row r × AreTerms limit rest rs

-- the text reads as these terms
abbrev pub Reads : ℕ → List ℕ → List Reading → Type 0
Reads limit bytes rs = AreTerms limit (items_of bytes) rs
