-- Whether the text of a term can be read back, as a test.
use Rattle.std.specs.Prelude.{ℕ, ◌-◌, Bool, true, ◌&&◌, ◌||◌, nat_le, nat_lt, length}
use Rattle.std.specs.Str.{chars}
use Rattle.erl_term.specs.Printing.{is_string, characters_of}
use Rattle.erl_term.specs.Value.{Value, Values}
use Rattle.erl_term.specs.Value.Value.{int, atom, list, tuple, bin}
use Rattle.erl_term.specs.Value.Values.{no_values, value}

-- short atoms alone, and at most so many brackets open at once; a list that is printed as a string has none
abbrev mutual
  pub is_within : ℕ → Value → Bool
  is_within limit (int n) = true
  is_within limit (atom s) = nat_le (length (chars s)) 255
  is_within limit (list vs) = is_string (characters_of vs) || (nat_lt 0 limit && are_within (limit - 1) vs)
  is_within limit (tuple vs) = nat_lt 0 limit && are_within (limit - 1) vs
  is_within limit (bin bs) = nat_lt 0 limit

  pub are_within : ℕ → Values → Bool
  are_within limit no_values = true
  are_within limit (value v vs) = is_within limit v && are_within limit vs
