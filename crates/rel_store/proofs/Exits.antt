-- What a call that has failed promises of a success, which is nothing, and what follows from the promises of one.
use Rattle.std.proofs.Common.{◌≡◌, ◌⊎◌, inl, inr, subst, Result, Ok, Err}
use Rattle.std.specs.Prelude.{IfOk, IsErr, OnOk}

pub no_success : {T E : Type 0} (P : Type 0) (r : Result T E) → IsErr r → OnOk r P
no_success P (Ok v) err = cc err
no_success P (Err e) err = tt

pub no_value : {T E : Type 0} (P : T → Type 0) (r : Result T E) → IsErr r → IfOk r P
no_value P (Ok v) err = cc err
no_value P (Err e) err = tt

-- what follows from the promises of a success
pub on_success : {T E : Type 0} (P Q : Type 0) (r : Result T E) → (P → Q) → OnOk r P → OnOk r Q
on_success P Q (Ok v) implies holds = implies holds
on_success P Q (Err e) implies holds = tt

pub on_both : {T E : Type 0} (P Q S : Type 0) (r : Result T E) → (P → Q → S) → OnOk r P → OnOk r Q → OnOk r S
on_both P Q S (Ok v) implies one other = implies one other
on_both P Q S (Err e) implies one other = tt

-- a failure answers no value
pub no_ok : {T E : Type 0} (v : T) (r : Result T E) → IsErr r → r ≡ Ok v → ⊥
no_ok v r err ok = cc

-- what a result is, it is alone
pub no_error : {T E : Type 0} {v : T} {e : E} {r : Result T E} → r ≡ Ok v → r ≡ Err e → ⊥
no_error is reported = cc

pub same_error : {T E : Type 0} {d e : E} {r : Result T E} → r ≡ Err d → r ≡ Err e → d ≡ e
same_error is reported = cc

pub value_of : {T E : Type 0} (P : T → Type 0) {v : T} {r : Result T E} → r ≡ Ok v → IfOk r P → P v
value_of P is holds = subst (λ q. IfOk q P) is holds

-- of two, the one that is left
pub other_one : {A B : Type 0} → A ⊎ B → (A → ⊥) → B
other_one (inl a) never = absurd (never a)
other_one (inr b) never = b

-- or the first, and what follows from it
pub first_so : {A B C : Type 0} → (A → C) → A ⊎ B → C ⊎ B
first_so implies (inl a) = inl (implies a)
first_so implies (inr b) = inr b
