-- What contracts read of what stands between quotes.
use Rattle.std.specs.Prelude.{◌≡◌, ℕ, ◌+◌, ◌-◌, ◌<◌, ◌⊎◌, List, [], ◌∷◌, encode_utf8}
use Rattle.std.specs.List.{flat_map}
use Rattle.std.specs.Str.{IsUtf8, chars}
use Rattle.erl_token.specs.declared.content.Piece.{Piece}
use Rattle.erl_token.specs.declared.content.Piece.TheVariants.{Part as PiecePart, Character}
use Rattle.erl_token.specs.declared.content.Content.{Content}
use Rattle.erl_token.specs.declared.content.Content.TheVariants.{Part, Row}
use Rattle.erl_token.specs.declared.quote.Quoted.{Quoted as CodeQuoted}
use Rattle.erl_token.specs.declared.quote.Quoted.TheVariants.{Closed, Faulty}
use Rattle.erl_token.specs.Quotes.{Quoted}
use Rattle.erl_token.specs.Quotes.Quoted.{closed, faulty}

-- a piece of what quotes hold
abbrev pub piece_bytes : Piece → List ℕ
piece_bytes (PiecePart s) = s.now
piece_bytes (Character c) = encode_utf8 c

-- what quotes hold
abbrev pub content_bytes : Content → List ℕ
content_bytes (Part s) = s.now
content_bytes (Row v) = flat_map piece_bytes v.items

-- a character that stands in a text of its own
abbrev pub IsAlone : ℕ → Type 0
IsAlone c = (chars (encode_utf8 c) ≡ c ∷ []) × IsUtf8 (encode_utf8 c)

-- `"` or `'`
abbrev pub IsQuote : ℕ → Type 0
IsQuote x = (x ≡ 34) ⊎ (x ≡ 39)

-- what follows the quote at this place, by the place after the next quote
abbrev pub IsQuoted : Quoted → ℕ → CodeQuoted → Type 0
IsQuoted q from (Closed c to) = (q ≡ closed (content_bytes c) (to - (from + 1))) × (from + 1 < to)
IsQuoted q from (Faulty f) = q ≡ faulty f
