-- What is accepted as the statuses that one event says, and which event that is.
use Rattle.std.specs.Prelude.{◌≡◌, ◌⊎◌, ℕ, true, List, length, Option, None, Some}
use Rattle.std.specs.List.{AllByRecursion}
use Rattle.rel_list.specs.declared.status.Status.{Status}
use Rattle.rel_list.specs.Event.{Event, recorded, step}
use Rattle.rel_list.specs.Event.Event.{made, unpacked, removed}
use Rattle.rel_list.specs.Keyed.{IsOrderly}
use Rattle.rel_list.specs.Laws.{IsRecorded}
use Rattle.rel_list.specs.Releases.{Entry, Releases, of_status}
use Rattle.rel_list.specs.Status.{is_permanent}
use Rattle.rel_records.specs.StatusChanges.{are_of_one_event, said_by, said_in, statuses_of, with_said}

-- the event brings no release, and takes none out
abbrev pub KeepsReleases : Event → Type 0
KeepsReleases (made p) = ⊥
KeepsReleases (unpacked p) = ⊥
KeepsReleases (removed v) = ⊥
KeepsReleases e = Unit {0}

-- What such an event says of each release is accepted after the statuses before it, as records report them.
abbrev pub EventsSaySuchStatuses : Type 0
EventsSaySuchStatuses =
    (e : Event) (es next : Releases) → KeepsReleases e → IsOrderly es → step e es ≡ Some next
    → are_of_one_event (statuses_of (recorded es)) (said_in e es) ≡ true

-- Records report some node as the first list, and what one event makes of it as the second; the event says exactly this of each
-- release.
pub record IsOfNode (es next : Releases) (said : List (Option Status)) : Type 0 where
  pub node : Releases
  pub behind : Releases
  pub event : Event
  pub keeps : KeepsReleases event
  pub orderly : IsOrderly node
  pub reported : recorded node ≡ es
  pub leads : step event node ≡ Some behind
  pub makes : recorded behind ≡ next
  pub says : said_in event node ≡ said

-- nothing is said of any release
abbrev pub IsSilent : (List ℕ → Option Status) → Releases → Type 0
IsSilent told es = AllByRecursion (λ (x : Entry). told x.release.vsn ≡ None) es

-- Where what is said is accepted, it is what one event says, or nothing.
abbrev pub SuchStatusesAreOfOneEvent : Type 0
SuchStatusesAreOfOneEvent =
    (es : Releases) (told : List ℕ → Option Status) → IsRecorded es → length (of_status is_permanent (with_said told es)) ≡ 1
    → are_of_one_event (statuses_of es) (said_by told es) ≡ true → IsSilent told es ⊎ IsOfNode es (with_said told es) (said_by told es)
