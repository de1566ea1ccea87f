-- How a program ends whose text was not listed.
use Rattle.std.specs.Prelude.{ℕ}
use Rattle.erl_term.specs.TermFault.TheVariants.{NoMemory}
use Rattle.erl_consult.specs.declared.error.ConsultError.{ConsultError}
use Rattle.erl_consult.specs.declared.error.ConsultError.TheVariants.{Fault, Read, Write, TooLong}

-- the exit status
abbrev pub exit_status : ConsultError → ℕ
exit_status (Fault NoMemory) = 3
exit_status (Fault f) = 1
exit_status Read = 2
exit_status Write = 2
exit_status TooLong = 4
