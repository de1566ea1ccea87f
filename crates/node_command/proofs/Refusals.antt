-- An error of a call that became the caller's refusal.
use Rattle.std.proofs.Common.{◌≡◌, Result, Ok, Err, sym, subst}
use Rattle.std.specs.Prelude.{IfErr, IsErr, IsErrAnd}

-- an error that became this refusal
pub refuses_with : {T E : Type 0} (P : E → Type 0) (r : Result T E) (why : E) → IsErr r × IsErrAnd r (λ e. e ≡ why) → P why → IfErr r P
refuses_with P (Ok x) why is p = tt
refuses_with P (Err e) why (err, is) p = subst P (sym is) p
