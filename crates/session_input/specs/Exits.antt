-- How the program reports that a session ended before its input did.
use Rattle.std.specs.Prelude.{ℕ, List, codes}
use Rattle.session_input.specs.declared.error.SessionError.{SessionError}
use Rattle.session_input.specs.declared.error.SessionError.TheVariants.{Read, Write, Limit, NoMemory}

-- the exit status
abbrev pub exit_status : SessionError → ℕ
exit_status Read = 1
exit_status Write = 1
exit_status NoMemory = 3
exit_status Limit = 4

-- what stands on standard error after the program's name
abbrev pub exit_text : SessionError → List ℕ
exit_text Read = codes "input or output failed"
exit_text Write = codes "input or output failed"
exit_text NoMemory = codes "out of memory"
exit_text Limit = codes "input too long"
