-- Whether two terms are equal.
use Rattle.std.specs.Prelude.{◌≡◌, ◌↔◌, Bool, true, false, ◌&&◌, IsTrue}
use Rattle.std.specs.Str.{bytes_eq}
use Rattle.std.specs.Ordering.{int_eq}
use Rattle.erl_term.specs.Value.{Value, Values}
use Rattle.erl_term.specs.Value.Value.{int, atom, list, tuple, bin}
use Rattle.erl_term.specs.Value.Values.{no_values, value}

abbrev mutual
  pub is_same : Value → Value → Bool
  is_same (int m) (int n) = int_eq m n
  is_same (atom s) (atom t) = bytes_eq s t
  is_same (list vs) (list ws) = are_same vs ws
  is_same (tuple vs) (tuple ws) = are_same vs ws
  is_same (bin bs) (bin cs) = bytes_eq bs cs
  is_same v w = false

  pub are_same : Values → Values → Bool
  are_same no_values no_values = true
  are_same (value v vs) (value w ws) = is_same v w && are_same vs ws
  are_same vs ws = false

-- Two terms are the same where they are equal.
abbrev pub SameAreEqual : Type 0
SameAreEqual = (v w : Value) → IsTrue (is_same v w) ↔ (v ≡ w)
