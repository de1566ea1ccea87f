-- Laws of records and lists, whatever reads and writes them.
use Rattle.std.specs.Prelude.{◌≡◌, ◌⊎◌, ℕ, true, false, List, [], Some}
use Rattle.rel_list.specs.Keyed.{IsOrderly}
use Rattle.rel_list.specs.Releases.{Releases, has_one_shot}
use Rattle.rel_list.specs.Event.{Event, step, recorded}
use Rattle.rel_list.specs.Laws.{IsRecorded, makes_one_shot}
use Rattle.rel_records.specs.Format.{writes_one_shot}
use Rattle.rel_records.specs.Given.{NamesEachOnce, said}
use Rattle.rel_records.specs.Image.{image_record}
use Rattle.rel_records.specs.Limits.{has_one_permanent}
use Rattle.rel_records.specs.Lists.{assigned, Makes, IsBadRecord, HaveVersions, HaveLibraries}
use Rattle.rel_records.specs.Reading.{Spells}
use Rattle.rel_records.specs.Record.{Assignment, Record, assigns, images}
use Rattle.rel_records.specs.Startable.{AreStartable}
use Rattle.rel_records.specs.Writing.{record_of, IsWithinLimits}
use Rattle.rel_records.specs.StatusLaws.{IsOfNode}

-- A body spells one record at most.
abbrev pub SpellsOneRecord : Type 0
SpellsOneRecord = (body : List ℕ) (r s : Record) → Spells body r → Spells body s → r ≡ s

-- Bodies make a list, which is the same after a boot, or one of them is the first bad record.
abbrev pub MakeOrHaveABadOne : Type 0
MakeOrHaveABadOne =
    (format : ℕ) (bodies : List (List ℕ)) → ((es : Releases) × Makes format bodies es × (recorded es ≡ es)) ⊎ ((i : ℕ) × IsBadRecord format bodies i)

-- Bodies make one list at most.
abbrev pub MakeOneList : Type 0
MakeOneList = (format : ℕ) (bodies : List (List ℕ)) (es fs : Releases) → Makes format bodies es → Makes format bodies fs → es ≡ fs

-- Bodies that make a list have no bad record.
abbrev pub NeverBothRecords : Type 0
NeverBothRecords = (format : ℕ) (bodies : List (List ℕ)) (es : Releases) (i : ℕ) → Makes format bodies es → IsBadRecord format bodies i → ⊥

-- What they make in a store of any format, they make in one of format 2.
abbrev pub MakeItInFormat2 : Type 0
MakeItInFormat2 = (format : ℕ) (bodies : List (List ℕ)) (es : Releases) → Makes format bodies es → Makes 2 bodies es

-- The record of an event makes of the list, as records report it, what the event makes of it, as records report that.
abbrev pub RecordsDetermineEvents : Type 0
RecordsDetermineEvents =
    (e : Event) (es next : Releases) → IsOrderly es → HaveLibraries es → step e es ≡ Some next → IsWithinLimits e es
    → has_one_permanent next ≡ true → assigned (record_of e es) (recorded es) ≡ Some (recorded next)

-- Only a restart writes the status `one_shot`: a store of format 1 may have the record of each other event.
abbrev pub OnlyRestartsWriteOneShots : Type 0
OnlyRestartsWriteOneShots = (e : Event) (es : Releases) → makes_one_shot e ≡ false → writes_one_shot (record_of e es) ≡ false

-- The image of a list writes the status `one_shot` exactly where the list has a one-shot.
abbrev pub ImagesWriteTheirOneShots : Type 0
ImagesWriteTheirOneShots = (es : Releases) → writes_one_shot (image_record es) ≡ has_one_shot es

-- The record is of a release that comes in or leaves: an image is of a whole list, which no single event makes.
abbrev pub IsOfOneRelease : Record → Type 0
IsOfOneRelease (assigns given) = ⊥
IsOfOneRelease (images xs ls) = ⊥
IsOfOneRelease r = Unit {0}

-- The record is that of an event after this list, which leads to that one and is within the limits.
pub record IsOfEvent (es next : Releases) (r : Record) : Type 0 where
  pub event : Event
  pub leads : step event es ≡ Some next
  pub fits : IsWithinLimits event es
  pub own : record_of event es ≡ r

-- A record of a release that comes in or leaves may stand after a list only where it is that of an event: so it carries the
-- new libraries alone, in order, and the release has no fault with its libraries.
abbrev pub RecordsAreOfEvents : Type 0
RecordsAreOfEvents =
    (body : List ℕ) (r : Record) (es next : Releases) → HaveLibraries es → Spells body r → IsOfOneRelease r → assigned r es ≡ Some next → IsOfEvent es next r

-- A record of statuses that may stand after a list is empty, or one event says of the releases of a node what it says of those
-- of the list. If it names no release twice, it is the record of that event.
pub record IsOfStatuses (es next : Releases) (given : List Assignment) : Type 0 where
  pub of : IsOfNode es next (said given es)
  pub own : NamesEachOnce given → record_of of.event of.node ≡ assigns given

abbrev pub StatusesAreOfEvents : Type 0
StatusesAreOfEvents =
    (given : List Assignment) (es next : Releases) → IsRecorded es → assigned (assigns given) es ≡ Some next → ((given ≡ []) × (next ≡ es)) ⊎ IsOfStatuses es next given

-- The releases of the list that bodies make have the versions of files.
abbrev pub MakeVersions : Type 0
MakeVersions = (format : ℕ) (bodies : List (List ℕ)) (es : Releases) → Makes format bodies es → HaveVersions es

-- The libraries of the list that bodies make are libraries: each is what the files of an application say.
abbrev pub MakeLibraries : Type 0
MakeLibraries = (format : ℕ) (bodies : List (List ℕ)) (es : Releases) → Makes format bodies es → HaveLibraries es

-- A boot can start each of them.
abbrev pub MakeStartableReleases : Type 0
MakeStartableReleases = (format : ℕ) (bodies : List (List ℕ)) (es : Releases) → Makes format bodies es → AreStartable es
