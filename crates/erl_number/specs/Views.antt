-- What contracts read of a text.
use Rattle.std.specs.Prelude.{ℕ, Bool, true, false, List, [], ◌∷◌, ◌++◌}
use Rattle.erl_number.specs.declared.text.Text.{Text}

-- after bytes that are UTF-8: a number that is no byte, if more follow
abbrev pub seal : Bool → List ℕ
seal true = 256 ∷ []
seal false = []

-- the bytes of a text, sealed off where they are no longer UTF-8
abbrev pub text_bytes : Text → List ℕ
text_bytes t = t.valid.now ++ seal t.is_spoilt
