-- The new libraries of a release complete those of a list.
use Rattle.std.proofs.Common.{◌≡◌, ◌≢◌, ℕ, ◌+◌, ◌<◌, ◌≤◌, ◌++◌, length, map, drop, get_or, append_assoc, Bool, true, false, cond, List, [], ◌∷◌, Option, Some, None, is_some, refl, sym, ap, subst, ◌∙◌, find}
use Rattle.std.specs.Prelude.{not, if◌then◌else◌, MatchOption}
use Rattle.std.specs.List.{AllByRecursion}
use Rattle.std.specs.Option.{option_map, option_and_then, unwrap_or}
use Rattle.std.specs.Str.{bytes_eq}
use Rattle.std.proofs.lemmas.Slice.Eq.{bytes_eq-Decides}
use Rattle.std.proofs.lemmas.List.{append-nil, drop_all, drop_more}
use Rattle.rel_files.specs.Release.{Application, Release, application_of}
use Rattle.rel_files.specs.declared.release.RelApp.{RelApp}
use Rattle.rel_files.proofs.Options.{both, chained, mapped, passed}
use Rattle.library.specs.Library.{Library, AreLibrariesOf, IsLibrary, agrees, is_at, library_at}
use Rattle.relup_file.specs.Relup.{RelupForm}
use Rattle.rel_list.specs.Releases.{Bundle, Releases, first_different, libraries_named, library_in}
use Rattle.rel_list.specs.Event.{recorded}
use Rattle.rel_list.proofs.LibraryLaws.{all_found, libraries-recorded, none_differs, own_library}
use Rattle.rel_records.specs.Lists.{own_or_next, next_library, completed, HaveLibraries}
use Rattle.rel_records.specs.Writing.{new_libraries, IsComplete}
use Rattle.rel_records.proofs.RecordPlaces.{IsOfRecord}

-- A list has the same libraries as records report it.
library_in-recorded : (es : Releases) (name vsn : List ℕ) → library_in (recorded es) name vsn ≡ library_in es name vsn
library_in-recorded es name vsn = ap (library_at name vsn) (libraries-recorded es)

pub first_different-recorded : (es : Releases) (ls : List Library) → first_different (recorded es) ls ≡ first_different es ls
first_different-recorded es ls = ap (λ named. find (λ (l : Library). not (agrees (library_at l.app.name l.app.vsn named) l)) ls) (libraries-recorded es)

-- the library of an application has its name and its version
pub at_names : (a : Application) (l : Library) → is_at a.name a.vsn l ≡ true → (l.app.name ≡ a.name) × (l.app.vsn ≡ a.vsn)
at_names a l at =
    let (name, vsn) = both (bytes_eq l.app.name a.name) (bytes_eq l.app.vsn a.vsn) at in
    ((bytes_eq-Decides l.app.name a.name).0 name, (bytes_eq-Decides l.app.vsn a.vsn).0 vsn)

-- so a look-up by the one's is one by the other's
pub looked_up : (es : Releases) (a : Application) (l : Library) → is_at a.name a.vsn l ≡ true → library_in es a.name a.vsn ≡ library_in es l.app.name l.app.vsn
looked_up es a l at = let names = at_names a l at in λ k. library_in es (sym names.0 k) (sym names.1 k)

-- what is found passes the test
pub found_passes : (test : Library → Bool) (ls : List Library) (l : Library) → find test ls ≡ Some l → test l ≡ true
found_passes test [] l is = absurd cc
found_passes test (k ∷ ls) l is = go (test k) refl (found_passes test ls l) is
  where
    go : (b : Bool) → test k ≡ b → (find test ls ≡ Some l → test l ≡ true) → cond b (Some k) (find test ls) ≡ Some l → test l ≡ true
    go true passes behind is = let same : k ≡ l = cc is in subst (λ (m : Library). test m ≡ true) same passes
    go false passes behind is = behind is

-- what stands after the library of an application
abbrev behind_library : Releases → List Application → Library × List Library → Option (List Library)
behind_library es apps n = option_map (λ (ks : List Library). n.0 ∷ ks) (completed es apps n.1)

-- one application more, of which the library is this one
joined : (front : List Library) (l : Library) (o : Option (List Library))
    → option_map (λ more. front ++ more) (option_map (λ ks. l ∷ ks) o) ≡ option_map (λ more. (front ++ l ∷ []) ++ more) o
joined front l None = refl
joined front l (Some more) = ap Some (sym (append_assoc front (l ∷ []) more))

pub completed_more : (es : Releases) (apps : List RelApp) (i : ℕ) (app : RelApp) (old new : List Library) (l : Library) (rest left : List Library) (whole : Option (List Library))
    → i < length apps → app ≡ get_or apps i app → Some (l, left) ≡ next_library es (application_of app) rest → new ≡ old ++ l ∷ []
    → option_map (λ more. old ++ more) (completed es (map application_of (drop i apps)) rest) ≡ whole
    → option_map (λ more. new ++ more) (completed es (map application_of (drop (i + 1) apps)) left) ≡ whole
completed_more es apps i app old new l rest left whole within at found grown so_far =
    let later : List Application = map application_of (drop (i + 1) apps) in
    let split : drop i apps ≡ app ∷ drop (i + 1) apps = drop_more apps i app within ∙ ap (λ (a : RelApp). a ∷ drop (i + 1) apps) (sym at) in
    ap (λ (front : List Library). option_map (λ (more : List Library). front ++ more) (completed es later left)) grown
    ∙ (sym (joined old l (completed es later left))
    ∙ (ap (λ (n : Option (Library × List Library)). option_map (λ (more : List Library). old ++ more) (option_and_then (behind_library es later) n)) found
    ∙ (ap (λ (as' : List RelApp). option_map (λ (more : List Library). old ++ more) (completed es (map application_of as') rest)) (sym split) ∙ so_far)))

-- an application without a library
pub completed_none : (es : Releases) (apps : List RelApp) (i : ℕ) (app : RelApp) (old rest : List Library) (whole : Option (List Library))
    → i < length apps → app ≡ get_or apps i app → None ≡ next_library es (application_of app) rest
    → option_map (λ more. old ++ more) (completed es (map application_of (drop i apps)) rest) ≡ whole → None ≡ whole
completed_none es apps i app old rest whole within at none so_far =
    let later : List Application = map application_of (drop (i + 1) apps) in
    let split : drop i apps ≡ app ∷ drop (i + 1) apps = drop_more apps i app within ∙ ap (λ (a : RelApp). a ∷ drop (i + 1) apps) (sym at) in
    ap (λ (n : Option (Library × List Library)). option_map (λ (more : List Library). old ++ more) (option_and_then (behind_library es later) n)) none
    ∙ (ap (λ (as' : List RelApp). option_map (λ (more : List Library). old ++ more) (completed es (map application_of as') rest)) (sym split) ∙ so_far)

-- all applications have their libraries, where nothing is left of the new ones
pub completed_all : {A B : Type 0} (libraries : A → List Library) (library : B → Library) (es : Releases) (apps : List RelApp) (i : ℕ) (found : A) (rest : List B) (o : Option A) (whole : Option (List Library))
    → length apps ≤ i → MatchOption o (rest ≢ []) (λ all. (all ≡ found) × (rest ≡ []))
    → option_map (λ more. libraries found ++ more) (completed es (map application_of (drop i apps)) (map library rest)) ≡ whole
    → option_map libraries o ≡ whole
completed_all {A = A} {B = B} libraries library es apps i found rest o whole past is so_far =
    go rest o is (ap (λ (as' : List RelApp). option_map (λ (more : List Library). libraries found ++ more) (completed es (map application_of as') (map library rest))) (sym (drop_all i apps past)) ∙ so_far)
  where
    go : (rest : List B) (o : Option A) → MatchOption o (rest ≢ []) (λ all. (all ≡ found) × (rest ≡ []))
        → option_map (λ more. libraries found ++ more) (completed es [] (map library rest)) ≡ whole → option_map libraries o ≡ whole
    go [] None left ended = absurd (left refl)
    go (l ∷ ls) None left ended = ended
    go [] (Some all) (same, none) ended = ap Some (ap libraries same ∙ sym (append-nil (libraries found))) ∙ ended
    go (l ∷ ls) (Some all) (same, none) ended = cc none

-- The libraries of a node's first release are all new.
pub completed_first : (apps : List Application) (ls : List Library) → AreLibrariesOf apps ls → completed [] apps ls ≡ Some ls
completed_first [] [] are = refl
completed_first [] (l ∷ ls) are = absurd are
completed_first (a ∷ apps) [] are = absurd are
completed_first (a ∷ apps) (l ∷ ls) (is, at, are) =
    ap (λ b. option_and_then (behind_library [] apps) (if b then Some (l, ls) else None)) at
    ∙ ap (option_map (λ (ks : List Library). l ∷ ks)) (completed_first apps ls are)

-- The new libraries of a release complete those of the list, where none of its libraries differs from the list's.
pub completed_new : (es : Releases) → HaveLibraries es → (apps : List Application) (ls : List Library) → AreLibrariesOf apps ls → first_different es ls ≡ None → completed (recorded es) apps (new_libraries es ls) ≡ Some ls
completed_new es have [] [] are none = refl
completed_new es have [] (l ∷ ls) are none = absurd are
completed_new es have (a ∷ apps) [] are none = absurd are
completed_new es have (a ∷ apps) (l ∷ ls) (is, at, are) none =
    let (same, rest) = none_differs es l ls none in
    by (completed_new es have apps ls are rest) (library_in es l.app.name l.app.vsn) refl (own_library es l have is same)
  where
    found : library_in (recorded es) a.name a.vsn ≡ library_in es l.app.name l.app.vsn
    found = library_in-recorded es a.name a.vsn ∙ looked_up es a l at

    later : List Library
    later = new_libraries es ls

    by : completed (recorded es) apps later ≡ Some ls → (o : Option Library) → library_in es l.app.name l.app.vsn ≡ o → unwrap_or o l ≡ l
        → completed (recorded es) (a ∷ apps) (cond (not (is_some o)) (l ∷ later) later) ≡ Some (l ∷ ls)
    by rest None is own =
        ap (λ o. option_and_then (behind_library (recorded es) apps) (own_or_next o a (l ∷ later))) (found ∙ is)
        ∙ ap (λ b. option_and_then (behind_library (recorded es) apps) (if b then Some (l, later) else None)) at
        ∙ ap (option_map (λ (ks : List Library). l ∷ ks)) rest
    by rest (Some k) is own =
        ap (λ o. option_and_then (behind_library (recorded es) apps) (own_or_next o a later)) (found ∙ is)
        ∙ ap (option_map (λ (ks : List Library). k ∷ ks)) rest
        ∙ ap (λ m. Some (m ∷ ls)) own

-- What new libraries complete are the libraries of the applications, and these are the new ones among them.
pub record AreCompleted (es : Releases) (apps : List Application) (ls ks : List Library) : Type 0 where
  pub libraries : AreLibrariesOf apps ks
  pub new : new_libraries es ks ≡ ls

pub are_completed : (es : Releases) → HaveLibraries es → (apps : List Application) (ls ks : List Library) → AllByRecursion IsLibrary ls → completed es apps ls ≡ Some ks → AreCompleted es apps ls ks
are_completed es have [] [] ks all e = let none : [] ≡ ks = cc in subst (AreCompleted es [] []) none (record { libraries = tt; new = refl })
are_completed es have [] (l ∷ ls) ks all e = absurd cc
are_completed es have (a ∷ apps) ls ks all e =
    let (n, next, rest) = chained (behind_library es apps) (next_library es a ls) ks e in
    let (ms, found, same) = mapped (λ (ms : List Library). n.0 ∷ ms) (completed es apps n.1) ks rest in
    subst (AreCompleted es (a ∷ apps) ls) same (by n ms found (λ rs are is. are_completed es have apps rs ms are is) (library_in es a.name a.vsn) refl ls all next)
  where
    -- one library more, and those after it
    with_first : (l : Library) (ls : List Library) (ms : List Library) → IsLibrary l → is_at a.name a.vsn l ≡ true → AreLibrariesOf apps ms
        → cond (not (is_some (library_in es l.app.name l.app.vsn))) (l ∷ new_libraries es ms) (new_libraries es ms) ≡ ls → AreCompleted es (a ∷ apps) ls (l ∷ ms)
    with_first l ls ms is at are new = record { libraries = (is, at, are); new = new }

    by : (n : Library × List Library) (ms : List Library) → completed es apps n.1 ≡ Some ms
        → ((rs : List Library) → AllByRecursion IsLibrary rs → completed es apps rs ≡ Some ms → AreCompleted es apps rs ms) → (o : Option Library) → library_in es a.name a.vsn ≡ o → (ls : List Library) → AllByRecursion IsLibrary ls
        → own_or_next o a ls ≡ Some n → AreCompleted es (a ∷ apps) ls (n.0 ∷ ms)
    by n ms found more (Some own) is ls all e =
        let same : (own, ls) ≡ n = cc in
        let at : is_at a.name a.vsn own ≡ true = found_passes (is_at a.name a.vsn) (libraries_named es) own is in
        let later = more ls all (subst (λ (m : Library × List Library). completed es apps m.1 ≡ Some ms) (sym same) found) in
        subst (λ (m : Library × List Library). AreCompleted es (a ∷ apps) ls (m.0 ∷ ms)) same
        (with_first own ls ms (all_found IsLibrary (is_at a.name a.vsn) (libraries_named es) have own is) at later.libraries
        (ap (λ o. cond (not (is_some o)) (own ∷ new_libraries es ms) (new_libraries es ms)) (sym (looked_up es a own at) ∙ is) ∙ later.new))
    by n ms found more None is [] all e = absurd cc
    by n ms found more None is (l ∷ ls) all e =
        let (at, taken) = passed (is_at a.name a.vsn l) (Some (l, ls)) n e in
        let same : (l, ls) ≡ n = cc taken in
        let later = more ls all.1 (subst (λ (m : Library × List Library). completed es apps m.1 ≡ Some ms) (sym same) found) in
        subst (λ (m : Library × List Library). AreCompleted es (a ∷ apps) (l ∷ ls) (m.0 ∷ ms)) same
        (with_first l (l ∷ ls) ms all.0 at later.libraries
        (ap (λ o. cond (not (is_some o)) (l ∷ new_libraries es ms) (new_libraries es ms)) (sym (looked_up es a l at) ∙ is) ∙ ap (λ (ks : List Library). l ∷ ks) later.new))

-- What a record brings is complete.
pub brought_complete : (es : Releases) (r : Release) (ls : List Library) (o : Option RelupForm) (p : Bundle) → IsOfRecord es r ls o p → AreCompleted es r.apps ls p.libraries → IsComplete p
brought_complete es r ls o p of done = record {
  libraries = subst (λ (s : Release). AreLibrariesOf s.apps p.libraries) of.release done.libraries;
  faultless = of.faultless;
  matching = of.matching;
}

-- the libraries of applications are libraries
pub of_applications : (apps : List Application) (ls : List Library) → AreLibrariesOf apps ls → AllByRecursion IsLibrary ls
of_applications apps [] are = tt
of_applications [] (l ∷ ls) are = absurd are
of_applications (a ∷ apps) (l ∷ ls) are = (are.0, of_applications apps ls are.2)

-- to an empty list all are new
pub all_new : (ls : List Library) → new_libraries [] ls ≡ ls
all_new [] = refl
all_new (l ∷ ls) = ap (λ (ks : List Library). l ∷ ks) (all_new ls)
