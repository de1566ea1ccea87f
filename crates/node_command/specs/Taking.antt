-- What the event of a command makes of a node's list, or why the command is refused; and the size of its record.
use Rattle.std.specs.Prelude.{ℕ, [], length, nat_le, if◌then◌else◌, Option, None, Some, Result, Ok, Err}
use Rattle.rel_list.specs.declared.fault.ListError.{ListError}
use Rattle.rel_list.specs.declared.fault.ListError.TheVariants as list
use Rattle.rel_list.specs.Releases.{Releases}
use Rattle.rel_list.specs.Event.{Event, step}
use Rattle.rel_list.specs.Event.Event.{made, unpacked}
use Rattle.rel_list.specs.Refusal.{refusal}
use Rattle.rel_records.specs.Limits.{most_releases, is_small}
use Rattle.rel_records.specs.Record.{FileTerms, body_of}
use Rattle.rel_records.specs.Writing.{record_of}
use Rattle.node_command.specs.declared.error.HandlerError.{HandlerError}
use Rattle.node_command.specs.declared.error.HandlerError.TheVariants.{NoSuchRelease, ExistingRelease, AlreadyInstalled, BadStatus, Permanent, Running, TooMany, NoMemory}
use Rattle.rel_files.specs.Terms.{tuple_of}

-- What a node answers for a refusal of its list. Libraries that differ are reported before, with the files of the release
-- (`files_refusal`), so NoMemory stands for nothing there.
abbrev pub list_refusal : ListError → HandlerError
list_refusal list.NoSuchRelease = NoSuchRelease
list_refusal list.ExistingRelease = ExistingRelease
list_refusal list.LibDiffers = NoMemory
list_refusal list.AlreadyInstalled = AlreadyInstalled
list_refusal (list.BadStatus s) = BadStatus s
list_refusal list.Permanent = Permanent
list_refusal list.Running = Running
list_refusal list.NoMemory = NoMemory

-- the list's refusal, or what comes of the list; there is always one of the two, so NoMemory stands for nothing here
abbrev pub refused_or : Option ListError → Option Releases → Result Releases HandlerError
refused_or (Some why) o = Err (list_refusal why)
refused_or None (Some es) = Ok es
refused_or None None = Err NoMemory

-- the list, where it is no longer than a node's may be
abbrev pub kept_short : Result Releases HandlerError → Result Releases HandlerError
kept_short (Ok es) = if nat_le (length es) most_releases then Ok es else Err TooMany
kept_short (Err why) = Err why

-- What the event of a command makes of the list. Refused in this order: a release with too many applications, what the
-- list doesn't allow, one release too many.
abbrev pub commanded : Event → Releases → Result Releases HandlerError
commanded (made p) es = if is_small p.release then refused_or (refusal (made p) es) (step (made p) es) else Err TooMany
commanded (unpacked p) es =
    if is_small p.release then kept_short (refused_or (refusal (unpacked p) es) (step (unpacked p) es)) else Err TooMany
commanded e es = refused_or (refusal e es) (step e es)

-- what stands for the terms of files where there are none
abbrev pub no_terms : FileTerms
no_terms = record { rel = tuple_of []; relup = None }

-- How many bytes the body of the record has of an event that brings no release.
unfoldable pub change_size : Event → Releases → ℕ
change_size e es = length (body_of no_terms (record_of e es))
