-- How the items of a text lie in it: one after another, with gaps between them.
use Rattle.std.specs.Prelude.{◌≡◌, ℕ, ◌+◌, ◌<◌, Bool, true, false, ◌&&◌, ◌||◌, List, [], ◌∷◌, ◌++◌, length, nat_lt, nat_le, ◌==◌, if◌then◌else◌}
use Rattle.erl_number.specs.Texts.{sealed}
use Rattle.erl_token.specs.Lexing.{Item, items_of}

-- a comment ends in front of a new line, of what isn't UTF-8, and at the end
abbrev pub ends_comment : List ℕ → Bool
ends_comment [] = true
ends_comment (x ∷ xs) = x == 10 || nat_lt 255 x

-- Blanks and comments, in front of these bytes: whether a comment has begun already, and the bytes of the gap.
abbrev pub is_gap : List ℕ → Bool → List ℕ → Bool
is_gap behind false [] = true
is_gap behind true [] = ends_comment behind
is_gap behind false (x ∷ xs) = if nat_le x 32 then is_gap behind false xs else x == 37 && is_gap behind true xs
is_gap behind true (x ∷ xs) = if x == 10 then is_gap behind false xs else nat_le x 255 && is_gap behind true xs

-- a gap, an item of one byte at least, and what stands after the item
pub record Lies (in_comment : Bool) (at : ℕ) (bytes : List ℕ) (i : Item) : Type 0 where
  pub gap : List ℕ
  pub own : List ℕ
  pub behind : List ℕ
  pub is : bytes ≡ gap ++ (own ++ behind)
  pub gaps : is_gap (own ++ behind) in_comment gap ≡ true
  pub some : 0 < length own
  pub from : i.from ≡ at + length gap
  pub to : i.to ≡ i.from + length own

-- The items lie one after another in the bytes from this place on, and what they leave is gaps.
abbrev pub Tile : Bool → ℕ → List ℕ → List Item → Type 0
Tile in_comment at bytes [] = is_gap [] in_comment bytes ≡ true
Tile in_comment at bytes (i ∷ is) = (l : Lies in_comment at bytes i) × Tile false i.to l.behind is

-- The items of each text tile it.
abbrev pub ItemsTile : Type 0
ItemsTile = (bytes : List ℕ) → Tile false 0 (sealed bytes) (items_of bytes)
