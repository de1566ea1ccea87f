-- Which statuses a record says of the releases of a list, where it is that of one event. Records report a release that is
-- current as unpacked: so do these statuses, both what stands before and what is said.
use Rattle.std.specs.Prelude.{ℕ, Bool, true, false, ◌&&◌, ◌||◌, List, map, count_by, nat_le, if◌then◌else◌, Option, None, Some}
use Rattle.std.specs.List.{list_all, zip}
use Rattle.std.specs.Option.{unwrap_or}
use Rattle.rel_list.specs.declared.status.Status.{Status}
use Rattle.rel_list.specs.declared.status.Status.TheVariants.{Unpacked, Current, Old, Permanent, OneShot}
use Rattle.rel_list.specs.Event.{Event, recorded_status, status_behind, with_statuses}
use Rattle.rel_list.specs.Releases.{Entry, Releases}

-- equal statuses
abbrev pub is_same : Status → Status → Bool
is_same Unpacked Unpacked = true
is_same Current Current = true
is_same Old Old = true
is_same Permanent Permanent = true
is_same OneShot OneShot = true
is_same s t = false

-- What an event says of a release that has the one status after it, and the other before: nothing, unless it changes it.
abbrev pub said_where : Status → Status → Option Status
said_where after before = if is_same after before then None else Some (recorded_status after)

abbrev pub said_of : Event → Entry → Option Status
said_of e x = said_where (status_behind e x.release.vsn x.status) x.status

-- what an event says of each release of a list
abbrev pub said_in : Event → Releases → List (Option Status)
said_in e es = map (said_of e) es

-- nothing is said of a release
abbrev pub is_unsaid : Status → Option Status → Bool
is_unsaid s None = true
is_unsaid s (Some t) = false

-- A boot says this of a release: it takes a one-shot away, and leaves the others.
abbrev pub is_booted : Status → Option Status → Bool
is_booted Unpacked None = true
is_booted Old None = true
is_booted Permanent None = true
is_booted OneShot (Some Unpacked) = true
is_booted s o = false

-- An installation says this of the release that it installs; records say unpacked of one that was unpacked, too.
abbrev pub is_installed : Status → Option Status → Bool
is_installed Unpacked (Some Unpacked) = true
is_installed Old (Some Unpacked) = true
is_installed Unpacked (Some OneShot) = true
is_installed Old (Some OneShot) = true
is_installed s o = false

-- An installation makes the release old that was current, which records report as unpacked.
abbrev pub is_replaced : Status → Option Status → Bool
is_replaced Unpacked (Some Old) = true
is_replaced s o = false

-- An installation leaves a release as it is, and no release is a one-shot before it.
abbrev pub is_left : Status → Option Status → Bool
is_left Unpacked None = true
is_left Old None = true
is_left Permanent None = true
is_left s o = false

-- An event that makes another release permanent says this of a release; the former permanent one becomes old.
abbrev pub is_promoted : Status → Option Status → Bool
is_promoted Unpacked None = true
is_promoted Old None = true
is_promoted Unpacked (Some Permanent) = true
is_promoted Old (Some Permanent) = true
is_promoted Permanent (Some Old) = true
is_promoted s o = false

-- The test holds of what is said of each release.
abbrev pub each_is : (Status → Option Status → Bool) → List Status → List (Option Status) → Bool
each_is test before said = list_all (λ p. test p.0 p.1) (zip before said)

-- The test holds of what is said of so many releases.
abbrev pub how_many_are : (Status → Option Status → Bool) → List Status → List (Option Status) → ℕ
how_many_are test before said = count_by (λ p. test p.0 p.1) (zip before said)

-- An installation says this of a release, whichever that is.
abbrev pub is_left_or_changed : Status → Option Status → Bool
is_left_or_changed s o = is_left s o || is_installed s o || is_replaced s o

-- An installation installs one release at most, and replaces one at most.
abbrev pub are_installed : List Status → List (Option Status) → Bool
are_installed before said =
    each_is is_left_or_changed before said && nat_le (how_many_are is_installed before said) 1 && nat_le (how_many_are is_replaced before said) 1

-- This is what one event says of releases with these statuses, or nothing is said of any. Exactly one is permanent before and
-- after.
abbrev pub are_of_one_event : List Status → List (Option Status) → Bool
are_of_one_event before said =
    each_is is_unsaid before said || each_is is_booted before said || are_installed before said || each_is is_promoted before said

-- the statuses of a list
abbrev pub statuses_of : Releases → List Status
statuses_of es = map (λ (e : Entry). e.status) es

-- what is said of each release of a list, by its version
abbrev pub said_by : (List ℕ → Option Status) → Releases → List (Option Status)
said_by told es = map (λ (x : Entry). told x.release.vsn) es

-- the list where each release has the status that is said of it
abbrev pub with_said : (List ℕ → Option Status) → Releases → Releases
with_said told es = with_statuses (λ vsn s. unwrap_or (told vsn) s) es
