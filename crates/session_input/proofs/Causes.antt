-- Why a call gave up, and how much it left: what it owes where it ends with the result of a call within it.
use Rattle.std.proofs.Common.{◌≡◌, ℕ, ◌<◌, ◌≤◌, true, false, List, refl, sym, subst, ◌∙◌, arith}
use Rattle.std.specs.Prelude.{Option, None, Some, Result, Ok, Err, OnOk, IfOk, IfSome}
use Rattle.std.specs.Result.{IsErr, IsErrAnd}
use Rattle.counted_io.specs.Failures.{HasRisen, Counts}
use Rattle.session_input.specs.declared.error.SessionError.{SessionError}
use Rattle.session_input.specs.declared.error.SessionError.TheVariants.{Read, Write, Limit, NoMemory}
use Rattle.session_input.specs.declared.input.Input.{Input}
use Rattle.session_input.specs.Feed.{Feed, IsNext}
use Rattle.session_input.specs.Input.{HasCause, KnowsEnd, failed_reads, reached, taken}

-- no read had failed before the call
pub cause_behind : {R V : Type 0} (r : Result V SessionError) (old mid new : Input R) → failed_reads mid ≡ failed_reads old → HasCause r mid new → HasCause r old new
cause_behind (Ok v) old mid new same cause = cause ∙ same
cause_behind (Err Read) old mid new same cause = (subst (λ n. HasRisen n (failed_reads new)) same cause.0, cause.1)
cause_behind (Err Write) old mid new same cause = cause
cause_behind (Err Limit) old mid new same cause = (cause.0, cause.1 ∙ same)
cause_behind (Err NoMemory) old mid new same cause = cause ∙ same

other_value : {R : Type 0} (V W : Type 0) (e : SessionError) (old new : Input R) → HasCause {V = V} (Err e) old new → HasCause {V = W} (Err e) old new
other_value V W Read old new cause = cause
other_value V W Write old new cause = cause
other_value V W Limit old new cause = cause
other_value V W NoMemory old new cause = cause

-- the error of a call is handed on
pub cause_passes : {R : Type 0} (V : Type 0) {W : Type 0} (r : Result W SessionError) (e : SessionError) (old mid new : Input R)
    → IsErrAnd r (λ f. f ≡ e) → failed_reads mid ≡ failed_reads old → HasCause {V = V} (Err e) mid new → HasCause r old new
cause_passes V (Ok v) e old mid new is same cause = absurd is
cause_passes V {W} (Err f) e old mid new is same cause =
    subst (λ x. HasCause {V = W} (Err x) old new) (sym is) (other_value V W e old new (cause_behind {V = V} (Err e) old mid new same cause))

false≢true : false ≡ true → ⊥
false≢true e = cc e

-- the end was not read yet
pub not_over : {R : Type 0} (remaining : R → Option (List ℕ)) (i : Input R) → i.ahead.is_over ≡ false → KnowsEnd remaining i
not_over remaining i is also = absurd (false≢true (sym is ∙ also))

pub before_end : {R : Type 0} (i : Input R) → i.ahead.is_over ≡ false → reached i ≡ taken i
before_end i is = rw is refl

-- a failed read is the cause of its own error
pub cause_of_read : {R V : Type 0} (r : Result V SessionError) (old new : Input R) → IsErrAnd r (λ f. f ≡ Read) → HasRisen (failed_reads old) (failed_reads new) → new.ahead.is_over ≡ false → HasCause r old new
cause_of_read (Ok v) old new is rose goes_on = absurd is
cause_of_read {R} {V} (Err f) old new is rose goes_on = subst (λ x. HasCause {V = V} (Err x) old new) (sym is) (rose, before_end new goes_on)

pub counts_failure : {V E : Type 0} (r : Result V E) (old new : ℕ) → IsErr r → HasRisen old new → Counts r old new
counts_failure (Ok v) old new is rose = absurd cc
counts_failure (Err e) old new is rose = rose

-- out of memory is reported where no read has failed
pub cause_of_memory : {R V : Type 0} (r : Result V SessionError) (old new : Input R) → IsErrAnd r (λ f. f ≡ NoMemory) → failed_reads new ≡ failed_reads old → HasCause r old new
cause_of_memory (Ok v) old new is same = absurd is
cause_of_memory {R} {V} (Err f) old new is same = subst (λ x. HasCause {V = V} (Err x) old new) (sym is) same

-- it says nothing of what comes
pub next_without_memory : {A V : Type 0} (Shows : V → A → Type 0) (r : Result (Option V) SessionError) (n : ℕ) (old new : ℕ → Option (Feed A)) → IsErrAnd r (λ f. f ≡ NoMemory) → IsNext Shows r n old new
next_without_memory Shows (Ok v) n old new is = absurd is
next_without_memory Shows (Err f) n old new is = subst (λ x. IsNext Shows (Err x) n old new) (sym is) tt

-- so it is handed on
pub error_of_memory : {V : Type 0} (r : Result V SessionError) (e : SessionError) → IsErrAnd r (λ f. f ≡ e) → e ≡ NoMemory → IsErrAnd r (λ f. f ≡ NoMemory)
error_of_memory (Ok v) e is memory = is
error_of_memory (Err f) e is memory = is ∙ memory

-- a line was taken before the file
pub file_spends : {V : Type 0} (r : Result (Option V) SessionError) (old now mid new : ℕ) → mid < now → now ≤ old → OnOk r (new ≤ mid) → IfOk r (λ c. IfSome c (λ _. new < old))
file_spends (Err e) old now mid new line before file = tt
file_spends (Ok None) old now mid new line before file = tt
file_spends (Ok (Some c)) old now mid new line before file = omega arith
