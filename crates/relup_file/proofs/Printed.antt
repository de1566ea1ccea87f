-- What is printed is read back.
use Rattle.std.proofs.Common.{◌≡◌, ℕ, List, [], ◌∷◌, ◌++◌, sym, subst, length}
use Rattle.erl_term.specs.Grammar.{Reads}
use Rattle.erl_term.specs.OneTerm.{HasTerm}
use Rattle.erl_term.specs.Value.{Value}
use Rattle.erl_term.specs.Within.{IsWithin, ReadsAs}

-- what is printed within the limit, with a dot after it, has the term
pub read_back : (limit : ℕ) (out text : List ℕ) (v w : Value) → v ≡ w → IsWithin limit w → (IsWithin limit v → ReadsAs limit text v) → out ≡ text ++ 46 ∷ [] → HasTerm limit out w
read_back limit out text v w same within reads is = (
  record { term = v; from = 0; to = length text },
  subst (λ l. Reads limit l (record { term = v; from = 0; to = length text } ∷ [])) (sym is) (reads (subst (IsWithin limit) (sym same) within) [] _),
  same,
)
