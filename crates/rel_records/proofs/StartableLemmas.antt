-- Releases that a boot can start.
use Rattle.std.proofs.Common.{◌≡◌, ℕ, true, List, [], ◌∷◌, map, Option, refl, ap, subst}
use Rattle.std.specs.List.{AllByRecursion}
use Rattle.rel_files.specs.Form.{AppForm, app_form_of}
use Rattle.rel_files.specs.Name.{AreDistinct}
use Rattle.rel_files.specs.Release.{Application, Release}
use Rattle.relup_file.specs.Relup.{RelupForm}
use Rattle.library.specs.Library.{Library, IsLibrary}
use Rattle.rel_list.specs.declared.status.Status.{Status}
use Rattle.rel_list.specs.Releases.{Bundle, Releases, Entry, entry, libraries_named}
use Rattle.rel_list.specs.Event.{recorded}
use Rattle.rel_list.proofs.LibraryLaws.{all-append}
use Rattle.rel_records.specs.Laws.{MakeStartableReleases}
use Rattle.rel_records.specs.Limits.{is_small}
use Rattle.rel_records.specs.Lists.{HaveLibraries}
use Rattle.rel_records.specs.Startable.{IsStartable, AreStartable}
use Rattle.rel_records.proofs.CompletionLemmas.{are_completed, brought_complete, of_applications}
use Rattle.rel_records.proofs.EachRelease.{each-of_recorded, each_made}
use Rattle.rel_records.proofs.MadeLemmas.{AreSaid}
use Rattle.rel_records.proofs.RecordPlaces.{IsOfRecord}

-- whatever its status is
pub still_startable : (e : Entry) (s : Status) → IsStartable e → IsStartable (record e { status = s })
still_startable e s is = record { complete = is.complete; distinct = is.distinct }

pub startable-of_recorded : (es : Releases) → AreStartable (recorded es) → AreStartable es
startable-of_recorded = each-of_recorded IsStartable still_startable

-- the libraries of startable releases are libraries
pub startable_libraries : (es : Releases) → AreStartable es → HaveLibraries es
startable_libraries [] all = tt
startable_libraries (e ∷ es) all =
    all-append IsLibrary e.libraries (libraries_named es) (of_applications e.release.apps e.libraries all.0.complete.libraries) (startable_libraries es all.1)

-- the names of applications in the form of a release
form_app_names : (apps : List Application) → map (λ (a : AppForm). a.name) (map app_form_of apps) ≡ map (λ (a : Application). a.name) apps
form_app_names [] = refl
form_app_names (a ∷ apps) = ap (λ (ns : List (List ℕ)). a.name ∷ ns) (form_app_names apps)

-- what a record brings to startable releases is startable
pub brought_startable : (es : Releases) (r : Release) (ls : List Library) (o : Option RelupForm) (p : Bundle) (s : Status)
    → AreStartable es → is_small r ≡ true → AreSaid r o → AllByRecursion IsLibrary ls → IsOfRecord es r ls o p → IsStartable (entry p s)
brought_startable es r ls o p s all small said libraries of = record {
  complete = brought_complete es r ls o p of (are_completed es (startable_libraries es all) r.apps ls p.libraries libraries of.libraries);
  distinct = subst (λ (q : Release). AreDistinct (map (λ (a : Application). a.name) q.apps)) of.release (subst AreDistinct (form_app_names r.apps) said.release.distinct);
}

pub make_startable : MakeStartableReleases
make_startable = each_made IsStartable still_startable brought_startable
