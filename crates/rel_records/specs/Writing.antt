-- Which record the command of an event writes.
use Rattle.std.specs.Prelude.{◌≡◌, ◌<◌, Bool, true, not, List, map, filter, is_some, length, None, Some}
use Rattle.std.specs.List.{AllByRecursion}
use Rattle.erl_term.specs.Within.{IsWithin}
use Rattle.library.specs.Library.{Library, AreLibrariesOf, IsLibrary, library_term}
use Rattle.rel_check.specs.Fault.{release_fault}
use Rattle.rel_list.specs.Releases.{Bundle, Releases, Entry, library_in}
use Rattle.rel_list.specs.Event.{Event, status_behind, recorded_status, recorded, step}
use Rattle.rel_list.specs.Event.Event.{made, unpacked, removed}
use Rattle.rel_records.specs.Limits.{most_releases, is_small, has_one_permanent}
use Rattle.rel_records.specs.Lists.{assigned, mismatch_in}
use Rattle.rel_records.specs.Record.{Assignment, Record, makes, adds, assigns, removes}
use Rattle.rel_records.specs.StatusChanges.{is_same}

-- the event changes the status of this release
abbrev pub is_changed : Event → Entry → Bool
is_changed e x = not (is_same (status_behind e x.release.vsn x.status) x.status)

-- the status that it has then, as records report it: what is current is written as unpacked
abbrev pub assignment_of : Event → Entry → Assignment
assignment_of e x = record { vsn = x.release.vsn; status = recorded_status (status_behind e x.release.vsn x.status) }

-- the statuses that an event changes, in the order of the list
abbrev pub changes : Event → Releases → List Assignment
changes e es = map (assignment_of e) (filter (is_changed e) es)

-- those of these libraries that the list doesn't have
abbrev pub new_libraries : Releases → List Library → List Library
new_libraries es ls = filter (λ (l : Library). not (is_some (library_in es l.app.name l.app.vsn))) ls

-- The record of an event after this list. A release is written with its new libraries alone, in the order of its
-- applications, and its relup; to a node's first release all libraries are new.
abbrev pub record_of : Event → Releases → Record
record_of (made p) es = makes p.release p.libraries p.relup
record_of (unpacked p) es = adds p.release (new_libraries es p.libraries) p.relup
record_of (removed v) es = removes v
record_of e es = assigns (changes e es)

-- the event is of releases that are listed already
abbrev pub IsOfListed : Event → Type 0
IsOfListed (made p) = ⊥
IsOfListed (unpacked p) = ⊥
IsOfListed e = Unit {0}

-- The release has the libraries of its applications, no fault with them, and a relup that it can have, or none.
pub record IsComplete (p : Bundle) : Type 0 where
  pub libraries : AreLibrariesOf p.release.apps p.libraries
  pub faultless : release_fault p.release.apps p.libraries ≡ None
  pub matching : mismatch_in p ≡ None

-- a release that the event brings is complete, and the limits are kept
abbrev pub IsWithinLimits : Event → Releases → Type 0
IsWithinLimits (made p) es = (is_small p.release ≡ true) × IsComplete p
IsWithinLimits (unpacked p) es = (is_small p.release ≡ true) × (length es < most_releases) × IsComplete p
IsWithinLimits e es = Unit {0}

-- The record of the event makes of this list, as records report it, what the event makes of it, as records report that,
-- where one release is permanent.
abbrev pub Reports : Event → Releases → Type 0
Reports e es = (next : Releases) → step e es ≡ Some next → has_one_permanent es ≡ true → assigned (record_of e es) (recorded es) ≡ Some (recorded next)

-- The libraries are well formed, and their terms are no deeper than a record can carry.
abbrev pub CanBeCarried : List Library → Type 0
CanBeCarried ls = AllByRecursion (λ (l : Library). IsLibrary l × IsWithin 68 (library_term l)) ls
