-- How the program ends where there is no relup.
use Rattle.std.specs.Prelude.{ℕ, if◌then◌else◌}
use Rattle.release_relup.specs.Refusal.{is_no_memory, is_unreadable}
use Rattle.release_relup.specs.declared.error.MakeError.{MakeError}
use Rattle.mkrelup.specs.declared.failure.Failure.{Failure}
use Rattle.mkrelup.specs.declared.failure.Failure.TheVariants.{BadArguments, NoMemory, Refused, Unwritten, Output}

-- the exit status of a refusal: memory and files that can't be read are no matter of the release
abbrev pub refusal_status : MakeError → ℕ
refusal_status e = if is_no_memory e then 3 else if is_unreadable e then 4 else 1

-- the exit status
abbrev pub exit_status : Failure → ℕ
exit_status BadArguments = 2
exit_status NoMemory = 3
exit_status (Refused r) = refusal_status r.why
exit_status (Unwritten path e) = 4
exit_status Output = 4

-- The failure is a refusal, and this holds of its cause.
abbrev pub IfRefused : (MakeError → Type 0) → Failure → Type 0
IfRefused P (Refused r) = P r.why
IfRefused P e = ⊥
