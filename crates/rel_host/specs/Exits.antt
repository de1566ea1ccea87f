-- How the program ends before its input, and what it reports.
use Rattle.std.specs.Prelude.{ℕ, List, codes}
use Rattle.session_input.specs.declared.error.SessionError.{SessionError}
use Rattle.session_input.specs.declared.error.SessionError.TheVariants as session
use Rattle.session_input.specs.Exits as ended
use Rattle.rel_host.specs.declared.failure.Failure.{Failure}
use Rattle.rel_host.specs.declared.failure.Failure.TheVariants.{BadArguments, Session}
use Rattle.rel_host.specs.declared.file_disk.OpenError.{OpenError}
use Rattle.rel_host.specs.declared.file_disk.OpenError.TheVariants as refusal
use Rattle.rel_host.specs.declared.options.OptionsError.{OptionsError}
use Rattle.rel_host.specs.declared.options.OptionsError.TheVariants as options

-- the exit status
abbrev pub exit_status : Failure → ℕ
exit_status BadArguments = 2
exit_status (Session e) = ended.exit_status e

-- what is reported after the program's name
abbrev pub exit_text : Failure → List ℕ
exit_text BadArguments = codes "bad arguments"
exit_text (Session e) = ended.exit_text e

-- the failure that a program reports where there are no options
abbrev pub failure_of_options : OptionsError → Failure
failure_of_options options.BadArguments = BadArguments
failure_of_options options.NoMemory = Session session.NoMemory

-- the file isn't opened as a disk
abbrev pub failure_to_open : OpenError → Failure
failure_to_open refusal.NoMemory = Session session.NoMemory
failure_to_open refusal.CantOpen = Session session.Read
failure_to_open refusal.InUse = Session session.Read
failure_to_open refusal.CantRead = Session session.Read
failure_to_open refusal.TooLong = Session session.Read
