-- Texts that stay within a line.
use Rattle.std.specs.Prelude.{◌≡◌, ℕ, Bool, true, not, List, ◌==◌}
use Rattle.std.specs.List.{list_all}
use Rattle.erl_term.specs.Value.{Value}
use Rattle.erl_term.specs.Printing.{text_of}

-- a text without a newline
abbrev pub is_one_line : List ℕ → Bool
is_one_line s = list_all (λ b. not (b == 10)) s

-- The text of a term is one.
abbrev pub PrintsOneLine : Type 0
PrintsOneLine = (v : Value) → is_one_line (text_of v) ≡ true
