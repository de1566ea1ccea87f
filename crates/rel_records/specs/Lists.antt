-- What records make of a list.
use Rattle.std.specs.Prelude.{◌≡◌, ℕ, ◌+◌, Bool, true, ◌&&◌, ◌||◌, not, List, [], ◌∷◌, ◌++◌, map, filter, take, drop, length, nat_lt, is_some, if◌then◌else◌, Option, None, Some}
use Rattle.std.specs.List.{AllByRecursion}
use Rattle.std.specs.Option.{option_map, option_and_then}
use Rattle.rel_files.specs.File.{HasVersions}
use Rattle.rel_files.specs.Release.{Application, Release}
use Rattle.library.specs.Library.{Library, IsLibrary, is_at}
use Rattle.rel_check.specs.declared.relup.RelupMismatch.{RelupMismatch}
use Rattle.rel_check.specs.Fault.{release_fault}
use Rattle.rel_check.specs.Relup.{relup_mismatch}
use Rattle.relup_file.specs.Relup.{RelupForm}
use Rattle.rel_list.specs.Releases.{Bundle, Releases, Entry, libraries_named, library_in}
use Rattle.rel_list.specs.Change.{may_be_given}
use Rattle.rel_list.specs.Event.{step, list_assigned}
use Rattle.rel_list.specs.Event.Event.{made, unpacked, removed}
use Rattle.rel_records.specs.Format.{allows}
use Rattle.rel_records.specs.Given.{are_in_order, said}
use Rattle.rel_records.specs.Limits.{most_releases, is_small, has_one_permanent}
use Rattle.rel_records.specs.Record.{Assignment, Imaged, Record, makes, adds, assigns, removes, images}
use Rattle.rel_records.specs.Reading.{Spells}
use Rattle.rel_records.specs.StatusChanges.{are_of_one_event, statuses_of}

-- An assignment may be made to a release that is there. None makes a release current, or a second one a one-shot.
abbrev pub may_be_assigned : Assignment → Releases → Bool
may_be_assigned a es = may_be_given a.status a.vsn es

-- the list after assignments, one after another
abbrev pub assign_all : List Assignment → Releases → Option Releases
assign_all [] es = Some es
assign_all (a ∷ given) es = if may_be_assigned a es then assign_all given (list_assigned a.vsn a.status es) else None

-- What a record of statuses makes of a list, where it says in the order of the list what one event says.
abbrev pub set_by : List Assignment → Releases → Option Releases
set_by given es = if are_in_order es given && are_of_one_event (statuses_of es) (said given es) then assign_all given es else None

-- The library of an application, and those that are left of the new ones: the list's own, or else the first of these, if it is
-- that of the application.
abbrev pub own_or_next : Option Library → Application → List Library → Option (Library × List Library)
own_or_next (Some own) a ls = Some (own, ls)
own_or_next None a [] = None
own_or_next None a (l ∷ ls) = if is_at a.name a.vsn l then Some (l, ls) else None

abbrev pub next_library : Releases → Application → List Library → Option (Library × List Library)
next_library es a ls = own_or_next (library_in es a.name a.vsn) a ls

-- The libraries of applications, in their order, where these are the new ones among them, in the same order. None is left over.
abbrev pub completed : Releases → List Application → List Library → Option (List Library)
completed es [] [] = Some []
completed es [] (l ∷ ls) = None
completed es (a ∷ as') ls = option_and_then (λ n. option_map (λ ks. n.0 ∷ ks) (completed es as' n.1)) (next_library es a ls)

-- why a release can't have the relup that it has
abbrev pub mismatch_in : Bundle → Option RelupMismatch
mismatch_in p = option_and_then (relup_mismatch p.release.vsn) p.relup

-- the release has a fault with its libraries, or can't have its relup
abbrev pub has_fault : Bundle → Bool
has_fault p = is_some (release_fault p.release.apps p.libraries) || is_some (mismatch_in p)

-- the bundle, where it has no fault
abbrev pub if_faultless : Bundle → Option Bundle
if_faultless p = if has_fault p then None else Some p

-- what a record with this release, these new libraries and this relup brings
abbrev pub brought_by : Releases → Release → List Library → Option RelupForm → Option Bundle
brought_by es r ls o = option_and_then (λ ks. if_faultless (record { release = r; libraries = ks; relup = o })) (completed es r.apps ls)

-- the list after the record of its first release, with these libraries and this relup
abbrev pub made_by : Release → List Library → Option RelupForm → Releases → Option Releases
made_by r ls o es = if is_small r then option_and_then (λ p. step (made p) es) (brought_by es r ls o) else None

-- the list after the record of a further one
abbrev pub added_by : Release → List Library → Option RelupForm → Releases → Option Releases
added_by r ls o es =
    if is_small r && nat_lt (length es) most_releases then option_and_then (λ p. step (unpacked p) es) (brought_by es r ls o) else None

-- how many libraries are new with a release of these applications: one for each of which the list has none
abbrev pub count_new : Releases → List Application → ℕ
count_new es as' = length (filter (λ (a : Application). not (is_some (library_in es a.name a.vsn))) as')

-- A release of an image comes in with these new libraries, as by a record of its own: the first one is made, a further one is
-- added.
abbrev pub comes_in : Imaged → List Library → Releases → Option Releases
comes_in x ls [] = made_by x.release ls x.relup []
comes_in x ls (e ∷ es) = added_by x.release ls x.relup (e ∷ es)

-- The releases of an image come in one after another, each with as many of the libraries as are new with it. None is left over.
abbrev pub all_come_in : List Imaged → List Library → Releases → Option Releases
all_come_in [] [] es = Some es
all_come_in [] (l ∷ ls) es = None
all_come_in (x ∷ xs) ls es =
    option_and_then (all_come_in xs (drop (count_new es x.release.apps) ls)) (comes_in x (take (count_new es x.release.apps) ls) es)

-- the status that a release of an image gets
abbrev pub own_status : Imaged → Assignment
own_status x = record { vsn = x.release.vsn; status = x.status }

-- what an image makes of an empty list: its releases come in, and then each gets its status
abbrev pub restored : List Imaged → List Library → Option Releases
restored xs ls = option_and_then (assign_all (map own_status xs)) (all_come_in xs ls [])

-- An image stands on an empty list alone.
abbrev pub restored_on : Releases → List Imaged → List Library → Option Releases
restored_on [] xs ls = restored xs ls
restored_on (e ∷ es) xs ls = None

-- what a record makes of a list
abbrev pub taken_by : Record → Releases → Option Releases
taken_by (makes r ls o) es = made_by r ls o es
taken_by (adds r ls o) es = added_by r ls o es
taken_by (assigns given) es = set_by given es
taken_by (removes v) es = step (removed v) es
taken_by (images xs ls) es = restored_on es xs ls

-- the list, where exactly one release is permanent
abbrev pub with_one_permanent : Option Releases → Option Releases
with_one_permanent None = None
with_one_permanent (Some es) = if has_one_permanent es then Some es else None

-- the list after a record, where it may stand
abbrev pub assigned : Record → Releases → Option Releases
assigned r es = with_one_permanent (taken_by r es)

-- the list after a record, where it may stand in a store of this format
abbrev pub assigned_in : ℕ → Record → Releases → Option Releases
assigned_in format r es = if allows format r then assigned r es else None

-- The bodies of a store of this format, taken in order, lead from the one list to the other.
abbrev pub MakesFrom : ℕ → Releases → List (List ℕ) → Releases → Type 0
MakesFrom format es [] end = end ≡ es
MakesFrom format es (body ∷ bodies) end =
    (r : Record) × (next : Releases) × Spells body r × (assigned_in format r es ≡ Some next) × MakesFrom format next bodies end

-- The bodies, taken in order, make this list, of which exactly one release is permanent. So there is at least one body.
abbrev pub Makes : ℕ → List (List ℕ) → Releases → Type 0
Makes format bodies es = MakesFrom format [] bodies es × (has_one_permanent es ≡ true)

-- some bodies make this list
abbrev pub IsMadeByRecords : Releases → Type 0
IsMadeByRecords es = (format : ℕ) × (bodies : List (List ℕ)) × Makes format bodies es

-- the body is that of no record which may stand after this list in a store of this format
abbrev pub CannotStand : ℕ → List ℕ → Releases → Type 0
CannotStand format body es = (r : Record) → Spells body r → assigned_in format r es ≡ None

-- The first record that may not stand there, counted from 1; 1 where there is no record.
pub data IsBadRecord (format : ℕ) : List (List ℕ) → ℕ → Type 0 where
  none_at_all : IsBadRecord format [] 1
  bad_after : (before : List (List ℕ)) (body : List ℕ) (rest : List (List ℕ)) (es : Releases)
      → MakesFrom format [] before es → CannotStand format body es → IsBadRecord format (before ++ body ∷ rest) (length before + 1)

-- each release of the list has the versions of a file
abbrev pub HaveVersions : Releases → Type 0
HaveVersions es = AllByRecursion (λ (e : Entry). HasVersions e.release) es

-- each library of the list is one
abbrev pub HaveLibraries : Releases → Type 0
HaveLibraries es = AllByRecursion IsLibrary (libraries_named es)
