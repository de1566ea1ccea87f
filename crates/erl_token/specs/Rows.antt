-- Rows of items that are cut out of their text.
use Rattle.std.specs.Prelude.{◌≡◌, ℕ, ◌+◌, ◌-◌, ◌<◌, Bool, true, false, List, [], ◌∷◌, ◌++◌, length, map, slice_range}
use Rattle.std.specs.List.{list_all}
use Rattle.erl_token.specs.Lexing.{Token, Item, items_of}
use Rattle.erl_token.specs.Lexing.Token.{dot, stray, broken, cut}

-- a token that a term has
abbrev pub is_of_term : Token → Bool
is_of_term dot = false
is_of_term (stray x) = false
is_of_term (broken like own) = false
is_of_term (cut like) = false
is_of_term t = true

-- where a row begins and ends
abbrev pub first_from : List Item → ℕ
first_from [] = 0
first_from (i ∷ is) = i.from

abbrev pub last_to : List Item → ℕ
last_to [] = 0
last_to (i ∷ []) = i.to
last_to (i ∷ j ∷ is) = last_to (j ∷ is)

-- an item and a row, by so many bytes nearer to the front
abbrev pub moved_item : ℕ → Item → Item
moved_item n i = record { token = i.token; from = i.from - n; to = i.to - n }

abbrev pub moved : ℕ → List Item → List Item
moved n is = map (moved_item n) is

-- A row of tokens of a term, in front of a dot: its bytes, from its first to its last, with a dot after them are a text
-- of the same tokens and a dot.
abbrev pub RowsStandAlone : Type 0
RowsStandAlone =
    (bytes : List ℕ) (before row after : List Item) (d : Item) → items_of bytes ≡ before ++ (row ++ (d ∷ after)) → d.token ≡ dot
    → 0 < length row → list_all (λ i. is_of_term i.token) row ≡ true
    → (let size = last_to row - first_from row in
    items_of (slice_range bytes (first_from row) (last_to row) ++ 46 ∷ []) ≡ moved (first_from row) row ++ record { token = dot; from = size; to = size + 1 } ∷ [])
