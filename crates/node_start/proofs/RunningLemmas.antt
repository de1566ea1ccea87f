-- The release that runs after a boot, as it lies in memory.
use Rattle.std.proofs.Common.{◌≡◌, Bool, true, false, cond, List, [], ◌∷◌, map, Option, Some, None, refl, ap, sym, subst, ◌∙◌}
use Rattle.std.specs.List.{find}
use Rattle.std.specs.Option.{option_map, option_or}
use Rattle.std.specs.declared.alloc.Global.{Global}
use Rattle.std.specs.declared.rc.Rc.{Rc}
use Rattle.library.specs.declared.library.Library as declared
use Rattle.library.specs.InMemory.{shared_of}
use Rattle.library.specs.Library.{AreLibrariesOf}
use Rattle.rel_check.specs.Fault.{release_fault}
use Rattle.rel_files.specs.declared.release.RelApp.{RelApp}
use Rattle.rel_files.specs.Name.{AreDistinct}
use Rattle.rel_files.specs.Release.{Application, application_of}
use Rattle.rel_records.specs.Startable.{AreStartable, IsStartable}
use Rattle.rel_list.specs.Keyed.{entry_of}
use Rattle.rel_list.specs.declared.status.Status.{Status}
use Rattle.rel_list.specs.Releases.{Entry, Releases}
use Rattle.rel_list.specs.Status.{is_current, is_permanent}
use Rattle.rel_list.specs.declared.listed.ListedRelease.{ListedRelease}
use Rattle.node_processes.specs.Fresh.{running_entry, fresh_entry, fresh_release, fresh_processes}
use Rattle.node_processes.proofs.RunningEntry.{running_found}
use Rattle.node_start.specs.Begun.{entry_beginnings, fresh_beginnings, release_beginnings}

abbrev pub first_running : List ListedRelease → Option ListedRelease
first_running ls = option_or (find (λ (l : ListedRelease). is_current l.status) ls) (find (λ (l : ListedRelease). is_permanent l.status) ls)

entry_found : (test : Status → Bool) (ls : List ListedRelease) → find (λ (e : Entry). test e.status) (map entry_of ls) ≡ option_map entry_of (find (λ (l : ListedRelease). test l.status) ls)
entry_found test [] = refl
entry_found test (l ∷ ls) = go (test l.status) (entry_found test ls)
  where
    go : (b : Bool) → find (λ (e : Entry). test e.status) (map entry_of ls) ≡ option_map entry_of (find (λ (l : ListedRelease). test l.status) ls)
        → cond b (Some (entry_of l)) (find (λ (e : Entry). test e.status) (map entry_of ls)) ≡ option_map entry_of (cond b (Some l) (find (λ (l : ListedRelease). test l.status) ls))
    go true later = refl
    go false later = later

either_mapped : (a b : Option ListedRelease) → option_or (option_map entry_of a) (option_map entry_of b) ≡ option_map entry_of (option_or a b)
either_mapped None b = refl
either_mapped (Some l) b = refl

-- The release that runs is the one that is found.
pub running_is : (ls : List ListedRelease) (es : Releases) (found : Option ListedRelease) → map entry_of ls ≡ es → found ≡ first_running ls
    → running_entry es ≡ option_map entry_of found
running_is ls es found same is =
    ap running_entry (sym same)
    ∙ ((λ i. option_or (entry_found is_current ls i) (entry_found is_permanent ls i)) ∙ (either_mapped _ _ ∙ ap (option_map entry_of) (sym is)))

-- what is known of its applications and its libraries where a boot can start it
pub startable_so : (as' : List RelApp) (rcs : List (Rc declared.Library Global)) (l : ListedRelease) (es : Releases) → as' ≡ l.release.apps.items → rcs ≡ l.libraries.items
    → AreStartable es → running_entry es ≡ Some (entry_of l)
    → AreLibrariesOf (map application_of as') (map shared_of rcs) × (release_fault (map application_of as') (map shared_of rcs) ≡ None)
    × AreDistinct (map (λ (a : Application). a.name) (map application_of as'))
startable_so as' rcs l es apps libraries all is =
    let startable = running_found IsStartable es (entry_of l) all is in
    subst (λ (bs : List RelApp). AreLibrariesOf (map application_of bs) (map shared_of rcs) × (release_fault (map application_of bs) (map shared_of rcs) ≡ None)
    × AreDistinct (map (λ (a : Application). a.name) (map application_of bs))) (sym apps)
    (subst (λ (ks : List (Rc declared.Library Global)). AreLibrariesOf (map application_of l.release.apps.items) (map shared_of ks)
    × (release_fault (map application_of l.release.apps.items) (map shared_of ks) ≡ None)
    × AreDistinct (map (λ (a : Application). a.name) (map application_of l.release.apps.items))) (sym libraries)
    (startable.complete.libraries, startable.complete.faultless, startable.distinct))

-- What begins with the release that runs is what begins afresh with the list.
pub begins_behind : (as' : List RelApp) (rcs : List (Rc declared.Library Global)) (l : ListedRelease) (es : Releases) → as' ≡ l.release.apps.items → rcs ≡ l.libraries.items
    → running_entry es ≡ Some (entry_of l) → release_beginnings (map application_of as') (map shared_of rcs) ≡ fresh_beginnings es
begins_behind as' rcs l es apps libraries is = (λ i. release_beginnings (map application_of (apps i)) (map shared_of (libraries i))) ∙ sym (ap entry_beginnings is)

pub fresh_behind : (as' : List RelApp) (rcs : List (Rc declared.Library Global)) (l : ListedRelease) (es : Releases) → as' ≡ l.release.apps.items → rcs ≡ l.libraries.items
    → running_entry es ≡ Some (entry_of l) → fresh_release (map application_of as') (map shared_of rcs) ≡ fresh_processes es
fresh_behind as' rcs l es apps libraries is = (λ i. fresh_release (map application_of (apps i)) (map shared_of (libraries i))) ∙ sym (ap fresh_entry is)
