-- What stands where in the term of a module's table.
use Rattle.std.specs.Prelude.{ℕ, pos, nat_lt, ◌^◌, List, Option, Some, None, if◌then◌else◌}
use Rattle.erl_term.specs.Value.{Value, Values}
use Rattle.erl_term.specs.Value.Value.{int, atom, tuple}
use Rattle.erl_term.specs.Value.Values.{value}

-- a tuple that begins with an atom: this, and what follows
abbrev pub tagged : Values → Option (List ℕ × Values)
tagged (value (atom s) vs) = Some (s, vs)
tagged vs = None

abbrev pub tagged_in : Value → Option (List ℕ × Values)
tagged_in (tuple vs) = tagged vs
tagged_in v = None

-- a state, an input, a reply or a summand: a number from 0 to 4294967295
abbrev pub number_in : Value → Option ℕ
number_in (int (pos n)) = if nat_lt n (2 ^ 32) then Some n else None
number_in v = None
