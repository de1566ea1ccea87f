-- The bytes of a text.
use Rattle.std.specs.Prelude.{ℕ, Bool, ◌||◌, List, [], ◌∷◌, ◌++◌, length, take, ◌==◌, if◌then◌else◌}
use Rattle.std.specs.Str.Lossy.{utf8_valid_len}
use Rattle.erl_number.specs.Escapes.{is_in}

-- the bytes as far as they are UTF-8, and after them, where there are more, a number that is no byte
abbrev pub sealed : List ℕ → List ℕ
sealed bytes = take (utf8_valid_len bytes) bytes ++ (if utf8_valid_len bytes == length bytes then [] else 256 ∷ [])

-- what a bare name goes on with
abbrev pub is_bare_name_byte : ℕ → Bool
is_bare_name_byte x = is_in 97 122 x || is_in 65 90 x || is_in 48 57 x || x == 95 || x == 64
