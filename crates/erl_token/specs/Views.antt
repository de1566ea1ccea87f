-- What contracts read of the tokens of a text and of their places.
use Rattle.std.specs.Prelude.{◌≡◌, ℕ, ◌<◌, List, [], ◌∷◌, drop, Option, Some, None}
use Rattle.erl_token.specs.declared.token.Token.{Token as CodeToken}
use Rattle.erl_token.specs.declared.token.Token.TheVariants.{Open, Close, Comma, Dot, Name, Number, Text as Quoted, Stray, NotUtf8, Broken, Cut}
use Rattle.erl_token.specs.declared.token.Bracket.TheVariants.{Tuple, List as Square, Binary}
use Rattle.erl_token.specs.declared.token.Like.{Like}
use Rattle.erl_token.specs.declared.token.Like.TheVariants.{Name as LikeName, Number as LikeNumber, Text as LikeText, OpenBinary, CloseBinary}
use Rattle.erl_token.specs.declared.token.Item.{Item as CodeItem}
use Rattle.erl_token.specs.Contents.{content_bytes}
use Rattle.erl_token.specs.Lexing.{Token, Item, some_name, some_number, some_text, lex, join}
use Rattle.erl_token.specs.Lexing.Token.{open_tuple, close_tuple, open_list, close_list, open_binary, close_binary, comma, dot, name, number, text, stray, broken, cut}

-- what a faulty or cut token begins as
abbrev pub like_value : Like → Token
like_value LikeName = some_name
like_value LikeNumber = some_number
like_value LikeText = some_text
like_value OpenBinary = open_binary
like_value CloseBinary = close_binary

abbrev pub token_value : CodeToken → Token
token_value (Open Tuple) = open_tuple
token_value (Open Square) = open_list
token_value (Open Binary) = open_binary
token_value (Close Tuple) = close_tuple
token_value (Close Square) = close_list
token_value (Close Binary) = close_binary
token_value Comma = comma
token_value Dot = dot
token_value (Name c) = name (content_bytes c)
token_value (Number n) = number n
token_value (Quoted c) = text (content_bytes c)
token_value (Stray x) = stray x
token_value NotUtf8 = stray 256
token_value (Broken like f) = broken (like_value like) f
token_value (Cut like) = cut (like_value like)

abbrev pub item_value : CodeItem → Item
item_value i = record { token = token_value i.token; from = i.from; to = i.to }

-- the tokens from a place on, texts in a row still apart
abbrev pub lexed : List ℕ → ℕ → List Item
lexed bytes at = lex at 0 (drop at bytes)

-- the tokens from a place on
abbrev pub items_from : List ℕ → ℕ → List Item
items_from bytes at = join (lexed bytes at)

-- the first of these tokens, which ends after this place, and those from its end on
abbrev pub IsFirst : List ℕ → List Item → ℕ → Item → Type 0
IsFirst bytes all at i = (all ≡ i ∷ items_from bytes i.to) × (at < i.to)

-- the first token from this place on, or none
abbrev pub Yields : List ℕ → ℕ → Option CodeItem → Type 0
Yields bytes at None = items_from bytes at ≡ []
Yields bytes at (Some i) = IsFirst bytes (items_from bytes at) at (item_value i)
