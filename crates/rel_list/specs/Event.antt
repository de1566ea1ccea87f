-- What happens to a list of releases, and what it makes of the list (OTP: release_handler(3), the table of statuses).
use Rattle.std.specs.Prelude.{ℕ, Bool, true, false, ◌||◌, List, [], ◌∷◌, ◌++◌, map, Option, None, Some, is_some, if◌then◌else◌, string_bytes}
use Rattle.std.specs.Option.{option_and_then}
use Rattle.std.specs.Str.{bytes_eq}
use Rattle.rel_list.specs.Keyed.{bundle_of}
use Rattle.rel_list.specs.declared.status.Status.{Status}
use Rattle.rel_list.specs.declared.status.Status.TheVariants.{Unpacked, Current, Old, Permanent, OneShot}
use Rattle.rel_list.specs.declared.event.Event.{Event as EventInMemory}
use Rattle.rel_list.specs.declared.event.Event.TheVariants as memory
use Rattle.rel_list.specs.Releases.{Bundle, Releases, Entry, first_different, status_of, of_status, has_current, has_one_shot}
use Rattle.rel_list.specs.Status.{is_temporary}
pub use Rattle.rel_list.specs.Releases.{entry}

-- Releases come in whole, with their libraries; later they are named by their versions.
pub data Event : Type 0 where
  made : Bundle → Event
  unpacked : Bundle → Event
  installed : List ℕ → Event
  restart_installed : List ℕ → Event
  made_permanent : List ℕ → Event
  removed : List ℕ → Event
  reboot_old : List ℕ → Event
  boot : Event

abbrev pub event_of : EventInMemory → Event
event_of (memory.Made p) = made (bundle_of p)
event_of (memory.Unpacked p) = unpacked (bundle_of p)
event_of (memory.Installed v) = installed (string_bytes v)
event_of (memory.RestartInstalled v) = restart_installed (string_bytes v)
event_of (memory.MadePermanent v) = made_permanent (string_bytes v)
event_of (memory.Removed v) = removed (string_bytes v)
event_of (memory.RebootOld v) = reboot_old (string_bytes v)
event_of memory.Boot = boot

-- A release may be installed that is unpacked, old, or permanent while another one is current.
abbrev pub may_be_installed : Bool → Option Status → Bool
may_be_installed other_is_current (Some Unpacked) = true
may_be_installed other_is_current (Some Old) = true
may_be_installed other_is_current (Some Permanent) = other_is_current
may_be_installed other_is_current s = false

-- The current release may be made permanent.
abbrev pub may_be_made_permanent : Option Status → Bool
may_be_made_permanent (Some Current) = true
may_be_made_permanent s = false

-- A release may be removed that is unpacked or old.
abbrev pub may_be_removed : Option Status → Bool
may_be_removed (Some Unpacked) = true
may_be_removed (Some Old) = true
may_be_removed s = false

-- An old release may be rebooted.
abbrev pub may_be_rebooted : Option Status → Bool
may_be_rebooted (Some Old) = true
may_be_rebooted s = false

-- The status of a release after an installation of another one: what was installed before becomes old.
abbrev pub replaced_status : Status → Status
replaced_status Current = Old
replaced_status OneShot = Old
replaced_status s = s

-- The status of a release after an installation, of itself or of another one: the installed release becomes current, a
-- permanent one stays permanent; a former current release becomes old.
abbrev pub installed_status : Bool → Status → Status
installed_status true Permanent = Permanent
installed_status true s = Current
installed_status false s = replaced_status s

-- After one whose script ends with a restart (own): the release becomes a one-shot, which the next boot starts.
abbrev pub restarted_status : Bool → Status → Status
restarted_status true Permanent = Permanent
restarted_status true s = OneShot
restarted_status false s = replaced_status s

-- The status of a release after one that was made permanent, itself or another one: the former permanent one becomes old.
abbrev pub permanent_status : Bool → Status → Status
permanent_status true s = Permanent
permanent_status false Permanent = Old
permanent_status false s = s

-- the status after a boot: what was merely installed is unpacked again, and a one-shot runs
abbrev pub booted_status : Status → Status
booted_status Current = Unpacked
booted_status OneShot = Current
booted_status s = s

-- the status that is written for it: that a release runs never is
abbrev pub recorded_status : Status → Status
recorded_status Current = Unpacked
recorded_status s = s

-- The status of a release, of this version, after an event that takes none out and brings none in.
abbrev pub status_behind : Event → List ℕ → Status → Status
status_behind (installed v) vsn s = installed_status (bytes_eq v vsn) s
status_behind (restart_installed v) vsn s = restarted_status (bytes_eq v vsn) s
status_behind (made_permanent v) vsn s = permanent_status (bytes_eq v vsn) s
status_behind (reboot_old v) vsn s = permanent_status (bytes_eq v vsn) s
status_behind boot vsn s = booted_status s
status_behind e vsn s = s

-- the status of a release after an assignment of this one, to itself or to another release
abbrev pub assigned_status : Status → Bool → Status → Status
assigned_status t true s = t
assigned_status t false s = s

-- each release with the status that this makes of its version and its status
abbrev pub with_statuses : (List ℕ → Status → Status) → Releases → Releases
with_statuses status es = map (λ (e : Entry). record e { status = status e.release.vsn e.status }) es

-- the list after an installation of this version
abbrev pub list_installed : List ℕ → Releases → Releases
list_installed v es = with_statuses (λ vsn s. installed_status (bytes_eq v vsn) s) es

-- the list after one whose script ends with a restart
abbrev pub list_restarted : List ℕ → Releases → Releases
list_restarted v es = with_statuses (λ vsn s. restarted_status (bytes_eq v vsn) s) es

-- the list in which the release of this version is the permanent one
abbrev pub list_made_permanent : List ℕ → Releases → Releases
list_made_permanent v es = with_statuses (λ vsn s. permanent_status (bytes_eq v vsn) s) es

-- the list in which the release of this version has this status
abbrev pub list_assigned : List ℕ → Status → Releases → Releases
list_assigned v t es = with_statuses (λ vsn s. assigned_status t (bytes_eq v vsn) s) es

-- the list without the release of this version
abbrev pub without : List ℕ → Releases → Releases
without v [] = []
without v (e ∷ es) = if bytes_eq v e.release.vsn then es else e ∷ without v es

-- the list after a boot: a one-shot becomes current, and current becomes unpacked; all else stays
abbrev pub booted : Releases → Releases
booted es = map (λ (e : Entry). record e { status = booted_status e.status }) es

-- the list as records report it: current as unpacked, and a one-shot as it is
abbrev pub recorded : Releases → Releases
recorded es = map (λ (e : Entry). record e { status = recorded_status e.status }) es

-- the versions of the releases whose status a boot changes
abbrev pub boot_changes : Releases → List (List ℕ)
boot_changes es = map (λ (e : Entry). e.release.vsn) (of_status is_temporary es)

-- A bundle doesn't fit into the list: its version is there, or one of its libraries is, with other content.
abbrev pub is_barred : Bundle → Releases → Bool
is_barred p es = is_some (status_of p.release.vsn es) || is_some (first_different es p.libraries)

-- The list after an event, where its own rule allows it: the first release comes in as the permanent one, one that fits comes
-- last, unpacked, and a boot is always allowed. A library is in the list as long as a release of it names it.
abbrev pub own_step : Event → Releases → Option Releases
own_step (made p) [] = Some (entry p Permanent ∷ [])
own_step (made p) (e ∷ es) = None
own_step (unpacked p) es = if is_barred p es then None else Some (es ++ entry p Unpacked ∷ [])
own_step (installed v) es = if may_be_installed (has_current es) (status_of v es) then Some (list_installed v es) else None
own_step (restart_installed v) es = if may_be_installed (has_current es) (status_of v es) then Some (list_restarted v es) else None
own_step (made_permanent v) es = if may_be_made_permanent (status_of v es) then Some (list_made_permanent v es) else None
own_step (removed v) es = if may_be_removed (status_of v es) then Some (without v es) else None
own_step (reboot_old v) es = if may_be_rebooted (status_of v es) then Some (list_made_permanent v es) else None
own_step boot es = Some (booted es)

-- A release is a one-shot, and the event is no boot: a boot has to come first.
abbrev pub waits_for_boot : Event → Releases → Bool
waits_for_boot boot es = false
waits_for_boot e es = has_one_shot es

-- The list after an event, where the list allows it: beside a one-shot it allows a boot alone.
abbrev pub step : Event → Releases → Option Releases
step e es = if waits_for_boot e es then None else own_step e es

-- the list that these events, one after another, make of a list, where each is allowed
abbrev pub list_from : Releases → List Event → Option Releases
list_from es [] = Some es
list_from es (e ∷ events) = option_and_then (λ next. list_from next events) (step e es)

-- the list after these events, from the empty one on
abbrev pub list_after : List Event → Option Releases
list_after events = list_from [] events
