-- The release of a path, as it was read.
use Rattle.std.proofs.Common.{◌≡◌, ◌≢◌, ◌<◌, ℕ, Bool, length, arith, true, false, List, [], ◌∷◌, Option, None, Some, Ok, Err, refl, sym, ap, ◌∙◌, subst}
use Rattle.std.specs.Prelude.{if◌then◌else◌, is_some, Result, IfErr, IfSome}
use Rattle.std.specs.Option.{option_map, option_or, option_and_then, ForSome}
use Rattle.std.specs.Result.{IsErrAnd}
use Rattle.std.specs.List.{AllByRecursion}
use Rattle.std.proofs.lemmas.Bool.Decides.{nat_tests}
use Rattle.erl_term.specs.Value.{value_of}
use Rattle.erl_term.specs.declared.term.Term.{Term}
use Rattle.erl_term.specs.Within.{IsWithin}
use Rattle.rel_files.specs.File.{IsReleaseTerm}
use Rattle.rel_files.specs.Release.{Application, Release}
use Rattle.rel_list.proofs.LibraryLaws.{shared_own}
use Rattle.rel_records.specs.Limits.{is_small}
use Rattle.rel_records.specs.Lists.{HaveLibraries}
use Rattle.rel_records.specs.Writing.{new_libraries, CanBeCarried}
use Rattle.rel_check.specs.Relup.{relup_mismatch}
use Rattle.rel_records.specs.Parts.{files_of}
use Rattle.rel_records.specs.Reading.{StandsForRelup, AreOfRelease}
use Rattle.rel_records.specs.Record.{FileTerms, adds, body_of, relup_or_none}
use Rattle.relup_file.specs.Relup.{RelupForm}
use Rattle.rel_unpack.proofs.BroughtLibraries.{brought_libraries, brought_within}
use Rattle.rel_unpack.proofs.BroughtRelup.{IsRelupOf, brought_relup}
use Rattle.rel_unpack.specs.Relup.{RelupFound}
use Rattle.rel_unpack.specs.Refusal as of_files
use Rattle.rel_unpack.specs.Release.{Found, ReleaseAt, found_of}
use Rattle.rel_unpack.specs.Source.{Source}
use Rattle.rel_unpack.specs.Unpacking.{Brought, brought_of}
use Rattle.rel_unpack.specs.declared.unpacking.ReleaseFiles.{ReleaseFiles}
use Rattle.rel_unpack.specs.declared.error.UnpackError.{UnpackError}
use Rattle.rel_unpack.specs.declared.error.UnpackError.TheVariants.{NoMemory}
use Rattle.rel_unpack.specs.declared.error.UnpackError.TheVariants as of_memory
use Rattle.rel_list.specs.declared.status.Status.{Status}
use Rattle.rel_list.specs.Releases.{Bundle, Releases, first_different, has_one_shot, shared, status_of}
use Rattle.rel_list.specs.Event.Event.{unpacked}
use Rattle.library.specs.Library.{Library, AreLibrariesOf, IsLibrary, library_term}
use Rattle.node_command.proofs.CommandLemmas.{with_it, comes_in}
use Rattle.node_command.specs.Taking.{commanded}
use Rattle.node_command.specs.Files.{HasFileTerms, bundle_brought, terms_brought, unpacked_size, IsWhole, Brings, IsOfFiles, IsReportedAs, reported_files}
use Rattle.node_command.specs.Place.{difference, files_refusal, has_room, own_refusal, refusal_with}
use Rattle.node_command.specs.declared.error.HandlerError.{HandlerError}
use Rattle.node_command.specs.declared.error.HandlerError.TheVariants as command

-- what is reported of a library that differs
abbrev pub reported_library : Library → of_files.Refusal
reported_library l = of_files.Refusal.lib_differs l.app.name

-- a release that was read has few enough applications, and its term says it
abbrev IsUsable : Found → Type 0
IsUsable f = IsReleaseTerm f.term f.release × (is_small f.release ≡ true)

abbrev kept : Found → Bool → Result Found of_files.Refusal
kept f b = if b then Ok f else Err of_files.Refusal.too_many

usable : (f g : Found) (b : Bool) → is_small f.release ≡ b → IsReleaseTerm f.term f.release → Ok g ≡ kept f b → IsUsable g
usable f g true e says is = let same : g ≡ f = cc in subst IsUsable (sym same) (says, e)
usable f g false e says is = absurd cc

found_usable : (source : Source) (path : List ℕ) (g : Found) → ReleaseAt source path (Ok g) → IsUsable g
found_usable source path g (f, (bytes, reads, (has, says)), is) = usable f g (is_small f.release) refl says is

-- what is brought is a release that was found
pub found_in : (source : Source) (path : List ℕ) (b : Brought) → Brings source path (Ok b) → ReleaseAt source path (Ok b.found)
found_in source path b (f, found, (ls, why, gives, (read, reads, is))) = let same : b.found ≡ f = cc in subst (λ g. ReleaseAt source path (Ok g)) (sym same) found

-- the term of its relup stands for it
stands_for : (vsn : List ℕ) (o : Option RelupFound) → IfSome o (IsRelupOf vsn) → StandsForRelup (relup_or_none (option_map (λ (f : RelupFound). f.term) o)) (option_map (λ (f : RelupFound). f.relup) o)
stands_for vsn None of = refl
stands_for vsn (Some f) of = of.says

relup_limits : (vsn : List ℕ) (o : Option RelupFound) → IfSome o (IsRelupOf vsn) → ForSome o (λ f. IsWithin 65 f.term)
relup_limits vsn None of f is = absurd cc
relup_limits vsn (Some g) of f is = let same : g ≡ f = cc is in subst (λ (h : RelupFound). IsWithin 65 h.term) same of.within

-- The terms by which a record carries a release are those of its files.
pub carried_rel : (rel : Term) (relup : Option Term) (b : Brought) → files_of rel relup ≡ terms_brought b → HasFileTerms b → IsWithin 65 (value_of rel)
carried_rel rel relup b same terms = subst (IsWithin 65) (sym (ap (λ (t : FileTerms). t.rel) same)) terms.within

pub carried_relup : (rel : Term) (relup : Option Term) (b : Brought) → files_of rel relup ≡ terms_brought b → HasFileTerms b → ForSome relup (λ term. IsWithin 65 (value_of term))
carried_relup rel relup b same terms term is = go b.relup terms.relup_within (ap (option_map value_of) (sym is) ∙ ap (λ (t : FileTerms). t.relup) same)
  where
    go : (o : Option RelupFound) → ForSome o (λ f. IsWithin 65 f.term) → Some (value_of term) ≡ option_map (λ (f : RelupFound). f.term) o → IsWithin 65 (value_of term)
    go None within never = absurd cc
    go (Some f) within says = let same : value_of term ≡ f.term = cc in subst (IsWithin 65) (sym same) (within f refl)

pub carried_says : (rel : Term) (relup : Option Term) (b : Brought) → files_of rel relup ≡ terms_brought b → HasFileTerms b → AreOfRelease (files_of rel relup) (bundle_brought b).release (bundle_brought b).relup
carried_says rel relup b same terms = subst (λ t. AreOfRelease t (bundle_brought b).release (bundle_brought b).relup) (sym same) terms.says

pub brought_terms : (source : Source) (path : List ℕ) (r : ReleaseFiles) → Brings source path (Ok (brought_of r)) → IsWithin 65 (value_of r.file.term) → HasFileTerms (brought_of r)
brought_terms source path r brings limited =
    let b = brought_of r in
    let of = brought_relup source path b brings in
    record {
      says = record { release = (found_usable source path (found_of r.file) (found_in source path b brings)).0; relup = stands_for b.found.release.vsn b.relup of };
      within = limited;
      relup_within = relup_limits b.found.release.vsn b.relup of;
    }

-- What isn't refused for its applications can be taken into a node.
carried_so : (apps : List Application) (ls : List Library) → AreLibrariesOf apps ls → AllByRecursion (λ (l : Library). IsWithin 68 (library_term l)) ls → CanBeCarried ls
carried_so apps [] are within = tt
carried_so [] (l ∷ ls) are within = absurd are
carried_so (a ∷ apps) (l ∷ ls) (is, at, are) (few, within) = ((is, few), carried_so apps ls are within)

-- it has no relup, or one that it can have
matching_in : (vsn : List ℕ) (o : Option RelupFound) → IfSome o (IsRelupOf vsn) → option_and_then (relup_mismatch vsn) (option_map (λ (f : RelupFound). f.relup) o) ≡ None
matching_in vsn None of = refl
matching_in vsn (Some f) of = of.allowed

-- What isn't refused isn't refused for its applications.
pub free_so : (room : Bool) (b : Brought) → refusal_with room b ≡ None → b.refusal ≡ None
free_so room b free = go b.refusal free
  where
    go : (o : Option of_files.Refusal) → option_or o (if room then b.relup_refusal else Some of_files.Refusal.too_many) ≡ None → o ≡ None
    go None none = refl
    go (Some why) none = absurd cc

pub brought_whole : (source : Source) (path : List ℕ) (b : Brought) → Brings source path (Ok b) → own_refusal b ≡ None → IsWhole b
brought_whole source path b brings free =
    let (are, faultless) = brought_libraries source path b brings (free_so true b free) in
    let matching = matching_in b.found.release.vsn b.relup (brought_relup source path b brings) in
    record { complete = record { libraries = are; faultless = faultless; matching = matching }; carried = carried_so b.found.release.apps b.libraries are (brought_within source path b brings) }

-- The libraries that a list shares with what it is to take are those that were brought.
pub shared_so : (es : Releases) (ls : List Library) → HaveLibraries es → CanBeCarried ls → first_different es ls ≡ None → shared es ls ≡ ls
shared_so es ls have all agree = shared_own es ls have (libraries ls all) agree
  where
    libraries : (ks : List Library) → CanBeCarried ks → AllByRecursion IsLibrary ks
    libraries [] all = tt
    libraries (k ∷ ks) all = (all.0.0, libraries ks all.1)

-- The bundle that a list takes, with the libraries that the list shares with it, is what was brought.
pub own_libraries : (es : Releases) (b : Brought) (p : Bundle) (ls : List Library) → HaveLibraries es → CanBeCarried b.libraries → first_different es b.libraries ≡ None → p ≡ bundle_brought b
    → ls ≡ shared es p.libraries → ls ≡ b.libraries
own_libraries es b p ls have all agree is own = own ∙ ap (λ (q : Bundle). shared es q.libraries) is ∙ shared_so es b.libraries have all agree

pub shared_bundle : (b : Brought) (p : Bundle) (ls : List Library) → p ≡ bundle_brought b → ls ≡ b.libraries → record p { libraries = ls } ≡ bundle_brought b
shared_bundle b p ls is own = ap (λ (q : Bundle). record q { libraries = ls }) is ∙ ap (λ ks. record (bundle_brought b) { libraries = ks }) own

-- its record has so many bytes
pub written_size : (b : Brought) (es : Releases) (files : FileTerms) (ls : List Library) (body : List ℕ) → files ≡ terms_brought b → ls ≡ b.libraries
    → ((r : Release) (o : Option RelupForm) → body ≡ body_of files (adds r (new_libraries es ls) o)) → length body ≡ unpacked_size b es
written_size b es files ls body same own is =
    let p = bundle_brought b in
    ap length (is p.release p.relup) ∙ ap (λ ks. length (body_of files (adds p.release (new_libraries es ks) p.relup))) own
    ∙ ap (λ t. length (body_of t (adds p.release (new_libraries es b.libraries) p.relup))) same

-- A list with room for it takes what is new and agrees with it.
pub takes_it : (b : Brought) (es : Releases) → has_one_shot es ≡ false → is_small b.found.release ≡ true → status_of b.found.release.vsn es ≡ None → first_different es b.libraries ≡ None → has_room es ≡ true
    → (next : Releases) × (commanded (unpacked (bundle_brought b)) es ≡ Ok next)
takes_it b es free small fresh agree room =
    let p = bundle_brought b in
    let few : length es < 32 = grind (arith, nat_tests) in
    (with_it p es free, comes_in p es free small (ap is_some fresh) (ap is_some agree) few)

-- what was brought, handed on
pub brings_same : (source : Source) (path : List ℕ) (r s : ReleaseFiles) → s ≡ r → Brings source path (Ok (brought_of r)) → Brings source path (Ok (brought_of s))
brings_same source path r s same brings = subst (λ g. Brings source path (Ok (brought_of g))) (sym same) brings

pub still_whole : (r s : ReleaseFiles) → s ≡ r → (own_refusal (brought_of r) ≡ None → IsWhole (brought_of r)) → own_refusal (brought_of r) ≡ None → IsWhole (brought_of s)
still_whole r s same whole free = subst (λ g. IsWhole (brought_of g)) (sym same) (whole free)

pub still_terms : (r s : ReleaseFiles) → s ≡ r → HasFileTerms (brought_of r) → HasFileTerms (brought_of s)
still_terms r s same terms = subst (λ g. HasFileTerms (brought_of g)) (sym same) terms

pub still_free : (room : Bool) (r s : ReleaseFiles) → s ≡ r → refusal_with room (brought_of r) ≡ None → refusal_with room (brought_of s) ≡ None
still_free room r s same free = ap (λ (g : ReleaseFiles). refusal_with room (brought_of g)) same ∙ free

-- Where its applications aren't why, a node without room for it is.
pub reported_no_room : (room : Bool) (b : Brought) → room ≡ false → b.refusal ≡ None → IsReportedAs (refusal_with room b) command.TooMany
reported_no_room room b none free = record {
  error = of_memory.TooMany;
  reported = refl;
  refused = ap (λ (o : Option of_files.Refusal). option_or o (if room then b.relup_refusal else Some of_files.Refusal.too_many)) free
      ∙ ap (λ (r : Bool). if r then b.relup_refusal else Some of_files.Refusal.too_many) none;
}

-- Where there is no refusal, there is room.
pub room_so : (room : Bool) (b : Brought) → refusal_with room b ≡ None → (room ≡ true) × (own_refusal b ≡ None)
room_so true b free = (refl, free)
room_so false b free = absurd (go b.refusal free)
  where
    go : (o : Option of_files.Refusal) → option_or o (Some of_files.Refusal.too_many) ≡ None → ⊥
    go None none = cc none
    go (Some why) none = cc none

pub still_agree : (es : Releases) (r s : ReleaseFiles) → s ≡ r → first_different es (brought_of r).libraries ≡ None → first_different es (brought_of s).libraries ≡ None
still_agree es r s same agree = ap (λ (g : ReleaseFiles). first_different es (brought_of g).libraries) same ∙ agree

-- a version that isn't listed has no status
pub none_listed : (o : Option Status) → is_some o ≡ false → o ≡ None
none_listed None is = refl
none_listed (Some s) is = absurd cc

-- what became of a refusal of a release for its file
pub refused_as : {X : Type 0} (source : Source) (path : List ℕ) (r : Result X HandlerError) (e : UnpackError) → IsErrAnd r (λ w. w ≡ reported_files e)
    → (e ≢ NoMemory → Brings source path (Err (of_files.refusal_of e))) → IfErr r (IsOfFiles source path)
refused_as source path (Ok x) e never found = absurd never
refused_as source path (Err w) e is found = record { error = e; reported = is; read = found }

-- memory was refused, whatever the files
pub no_memory : (source : Source) (path : List ℕ) → IsOfFiles source path command.NoMemory
no_memory source path = record { error = NoMemory; reported = refl; read = λ known. absurd (known refl) }

-- A version that is listed is not refused for its files, and neither is what isn't, and agrees with the list.
pub listed_free : (b : Brought) (es : Releases) → is_some (status_of b.found.release.vsn es) ≡ true → files_refusal b es ≡ None
listed_free b es listed = ap (λ (there : Bool). if there then None else option_or (difference b.libraries es) (refusal_with (has_room es) b)) listed

pub brought_free : (b : Brought) (es : Releases) → first_different es b.libraries ≡ None → refusal_with (has_room es) b ≡ None → files_refusal b es ≡ None
brought_free b es agree free = either (is_some (status_of b.found.release.vsn es)) (option_or (difference b.libraries es) why) ((λ k. option_or (option_map reported_library (agree k)) why) ∙ free)
  where
    why : Option of_files.Refusal
    why = refusal_with (has_room es) b

    either : (listed : Bool) (o : Option of_files.Refusal) → o ≡ None → (if listed then None else o) ≡ None
    either true o none = refl
    either false o none = none

-- Where the version isn't listed, the first library that differs bars it, or else the refusal after it.
pub fresh_refusal : (b : Brought) (es : Releases) → is_some (status_of b.found.release.vsn es) ≡ false → files_refusal b es ≡ option_or (difference b.libraries es) (refusal_with (has_room es) b)
fresh_refusal b es fresh = ap (λ (there : Bool). if there then None else option_or (difference b.libraries es) (refusal_with (has_room es) b)) fresh

pub differs_so : (ls : List Library) (es : Releases) (l : Library) → first_different es ls ≡ Some l → difference ls es ≡ Some (reported_library l)
differs_so ls es l found = ap (option_map reported_library) found

-- a library that differs bars a release whose version isn't listed, whatever is wrong after it
pub barred_so : (b : Brought) (es : Releases) (e : HandlerError) → status_of b.found.release.vsn es ≡ None → IsReportedAs (difference b.libraries es) e → IsReportedAs (files_refusal b es) e
barred_so b es e fresh barred = record {
  error = barred.error;
  reported = barred.reported;
  refused = fresh_refusal b es (ap is_some fresh) ∙ ap (λ d. option_or d (refusal_with (has_room es) b)) barred.refused;
}

pub agrees_so : (b : Brought) (es : Releases) → status_of b.found.release.vsn es ≡ None → first_different es b.libraries ≡ None → files_refusal b es ≡ refusal_with (has_room es) b
agrees_so b es fresh agree = fresh_refusal b es (ap is_some fresh) ∙ ap (λ o. option_or (option_map reported_library o) (refusal_with (has_room es) b)) agree
