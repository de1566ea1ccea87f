-- The term of a file keeps within limits.
use Rattle.std.proofs.Common.{◌≡◌, ℕ, ◌+◌, List, [], ◌∷◌, ◌++◌, map, subst}
use Rattle.std.specs.List.{AllByRecursion}
use Rattle.erl_term.specs.declared.term.Spanned.{Spanned}
use Rattle.erl_term.specs.Value.{value_of}
use Rattle.erl_term.specs.Grammar.{Reading, Reads}
use Rattle.erl_term.specs.Answers.{reading_of_spanned}
use Rattle.erl_term.specs.Within.{IsWithin}
use Rattle.erl_term.proofs.Limits.{keeps_limits}

last_of_all : (P : Reading → Type 0) (front : List Spanned) (last : Spanned) → AllByRecursion P (map reading_of_spanned (front ++ last ∷ [])) → P (reading_of_spanned last)
last_of_all P [] last h = h.0
last_of_all P (s ∷ front) last h = last_of_all P front last h.1

-- the last term that is read
pub last_keeps_limits : (limit : ℕ) (bytes : List ℕ) (front all : List Spanned) (last : Spanned) → all ≡ front ++ last ∷ []
    → Reads limit bytes (map reading_of_spanned all) → IsWithin (limit + 1) (value_of last.term)
last_keeps_limits limit bytes front all last split reads =
    last_of_all (λ r. IsWithin (limit + 1) r.term) front last
    (subst (λ ss. AllByRecursion (λ r. IsWithin (limit + 1) r.term) (map reading_of_spanned ss)) split (keeps_limits limit bytes (map reading_of_spanned all) reads))
