-- Which script an installation takes, or why there is none (OTP: release_handler:check_install_release/1).
use Rattle.std.specs.Prelude.{ℕ, List, Option, None, Some, Result, Ok, Err}
use Rattle.std.specs.Option.{option_and_then}
use Rattle.rel_files.specs.Release.{Release}
use Rattle.rel_list.specs.declared.fault.ListError.{ListError}
use Rattle.rel_list.specs.Releases.{Releases, relup_at, running}
use Rattle.rel_list.specs.Event.Event.{installed}
use Rattle.rel_list.specs.Refusal.{refusal}
use Rattle.relup_file.specs.Search.{FoundForm, script_between}
use Rattle.node_command.specs.Taking.{list_refusal}
use Rattle.node_command.specs.declared.error.HandlerError.{HandlerError}
use Rattle.node_command.specs.declared.error.HandlerError.TheVariants.{NoMatchingRelup}

-- the script from the release that runs to the one of this version
abbrev pub script_from : List ℕ → Releases → Release → Option FoundForm
script_from vsn es r = script_between vsn (relup_at vsn es) r.vsn (relup_at r.vsn es)

abbrev pub script_to : List ℕ → Releases → Option FoundForm
script_to vsn es = option_and_then (script_from vsn es) (running es)

abbrev pub found_or : Option FoundForm → Result FoundForm HandlerError
found_or (Some f) = Ok f
found_or None = Err NoMatchingRelup

abbrev pub unless_listed_refusal : Option ListError → Option FoundForm → Result FoundForm HandlerError
unless_listed_refusal (Some why) found = Err (list_refusal why)
unless_listed_refusal None found = found_or found

-- The script by which the release of this version is installed. Refused in this order: what the list doesn't allow, and where
-- neither relup has a script.
abbrev pub installation : List ℕ → Releases → Result FoundForm HandlerError
installation vsn es = unless_listed_refusal (refusal (installed vsn) es) (script_to vsn es)
