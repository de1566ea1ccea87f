-- What private contracts read of items.
use Rattle.std.specs.Prelude.{◌≡◌, ℕ, ◌+◌, ◌<◌}
use Rattle.erl_token.specs.declared.token.Item.{Item as CodeItem}
use Rattle.erl_token.specs.Lexing.{Spelling}
use Rattle.erl_token.specs.Views.{item_value}

-- the token of this spelling, at this place
abbrev pub IsSpelled : Spelling → ℕ → CodeItem → Type 0
IsSpelled s at i = (item_value i ≡ record { token = s.token; from = at; to = at + s.size }) × (at < i.to)
