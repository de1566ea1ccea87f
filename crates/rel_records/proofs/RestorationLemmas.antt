-- An image of a list that records make restores it.
use Rattle.std.proofs.Common.{◌≡◌, inl, inr, ℕ, ◌+◌, ◌<◌, ◌≤◌, Bool, true, false, cond, not, List, [], ◌∷◌, ◌++◌, length, map, take, drop, Option, Some, None, is_some, refl, sym, ap, subst, ◌∙◌, append-nil, append_assoc, arith, length-append}
use Rattle.std.specs.Prelude.{◌||◌, if◌then◌else◌}
use Rattle.std.specs.List.{AllByRecursion}
use Rattle.std.specs.Option.{option_and_then}
use Rattle.std.specs.Str.{bytes_eq}
use Rattle.std.proofs.lemmas.Bool.{cases_Bool}
use Rattle.std.proofs.lemmas.List.{take_at, drop_at}
use Rattle.library.specs.Library.{Library, IsLibrary, agrees, is_at}
use Rattle.library.proofs.Terms.{same_libraries}
use Rattle.rel_list.specs.declared.status.Status.{Status}
use Rattle.rel_list.specs.declared.status.Status.TheVariants.{Unpacked, Current, Old, Permanent, OneShot}
use Rattle.rel_list.specs.Releases.{Bundle, Entry, HasDistinctVersions, Releases, bundle_in, each_once, first_different, libraries_named, libraries_of, library_in, status_of, of_status, has_one_shot}
use Rattle.rel_list.specs.Event.{assigned_status, recorded, list_assigned, step}
use Rattle.rel_list.specs.Event.Event.{made, unpacked}
use Rattle.rel_list.specs.Change.{has_other_temporary, may_be_given}
use Rattle.rel_list.specs.Status.{is_current, is_one_shot, is_temporary}
use Rattle.rel_list.proofs.OneShotLaws.{none-push}
use Rattle.rel_list.proofs.LibraryLaws.{all-append, is_like, libraries-push}
use Rattle.rel_list.proofs.Orderly.{differs_back, first_differs, is_itself, none_behind, unlisted-with_statuses}
use Rattle.rel_list.proofs.Orderly.{none_at_all as unlisted-cons}
use Rattle.rel_list.proofs.RestLaws.{not_temporary}
use Rattle.rel_records.specs.Image.{imaged}
use Rattle.rel_records.specs.Limits.{is_small}
use Rattle.rel_records.specs.Lists.{HaveLibraries, all_come_in, assign_all, brought_by, comes_in, count_new, may_be_assigned, own_status, restored}
use Rattle.rel_records.specs.Record.{Assignment}
use Rattle.rel_records.specs.Startable.{AreStartable, IsStartable}
use Rattle.rel_records.specs.Writing.{new_libraries}
use Rattle.rel_records.proofs.AgreementLemmas.{Agree, IsOneOf, found_one, one-left, one-right}
use Rattle.rel_records.proofs.CompletionLemmas.{all_new, completed_first, found_passes, of_applications}
use Rattle.rel_records.proofs.EventRecords.{AreApartFrom, AreOfOthers, and_false, behind_first, beside_none, brought_whole, none_given, unassigned}
use Rattle.rel_records.proofs.EventRecords.{comes_in as unpacked_comes_in}
use Rattle.rel_records.proofs.MentionLemmas.{apart_within, counted, mentioned, named_more, new_behind, once_more, unset}
use Rattle.rel_records.proofs.RecordPlaces.{recorded-push}

-- each release has no more applications than it may have
abbrev pub AreSmall : Releases → Type 0
AreSmall es = AllByRecursion (λ (e : Entry). is_small e.release ≡ true) es

-- none of these releases is in the list
abbrev AreNew : Releases → Releases → Type 0
AreNew es after = AllByRecursion (λ (e : Entry). status_of e.release.vsn es ≡ None) after

-- a release after a list is none of another version
unlisted-push : (v : List ℕ) (es : Releases) (e : Entry) → status_of v es ≡ None → bytes_eq v e.release.vsn ≡ false → status_of v (es ++ e ∷ []) ≡ None
unlisted-push v [] e none differ = unlisted-cons v e [] differ none
unlisted-push v (f ∷ es) e none differ = unlisted-cons v f (es ++ e ∷ []) (first_differs v f es none) (unlisted-push v es e (none_behind v f es none) differ)

new-push : (es : Releases) (e : Entry) (after : Releases) → AreNew es after → status_of e.release.vsn after ≡ None → AreNew (es ++ unset e ∷ []) after
new-push es e [] new none = tt
new-push es e (x ∷ after) new none = (
  unlisted-push x.release.vsn es (unset e) new.0 (differs_back e.release.vsn x.release.vsn (first_differs e.release.vsn x after none)),
  new-push es e after new.1 (none_behind e.release.vsn x after none),
)

-- each later one is new after the first
new_behind_first : (e : Entry) (after : Releases) → status_of e.release.vsn after ≡ None → AreNew (e ∷ []) after
new_behind_first e [] none = tt
new_behind_first e (x ∷ after) none = (
  unlisted-cons x.release.vsn e [] (differs_back e.release.vsn x.release.vsn (first_differs e.release.vsn x after none)) refl,
  new_behind_first e after (none_behind e.release.vsn x after none),
)

-- what agrees with the list's libraries differs from none of them
none_differ : (es : Releases) (ls : List Library) → ((l k : Library) → IsOneOf l ls → IsOneOf k (libraries_named es) → is_like l k ≡ true → k ≡ l) → AllByRecursion IsLibrary ls → first_different es ls ≡ None
none_differ es [] agree all = refl
none_differ es (l ∷ ls) agree all =
    ap (λ (b : Bool). cond b (Some l) (first_different es ls)) (go (library_in es l.app.name l.app.vsn) refl) ∙ none_differ es ls (λ k m here there like. agree k m (inr here) there like) all.1
  where
    go : (o : Option Library) → library_in es l.app.name l.app.vsn ≡ o → not (agrees o l) ≡ false
    go None none = refl
    go (Some k) found =
        let same : k ≡ l = agree l k (inl refl) (found_one (is_at l.app.name l.app.vsn) (libraries_named es) k found) (found_passes (is_at l.app.name l.app.vsn) (libraries_named es) k found) in
        ap not ((same_libraries k l (subst IsLibrary (sym same) all.0) all.0).1 same)

-- the first release comes in
first_comes_in : (e : Entry) → IsStartable e → is_small e.release ≡ true → comes_in (imaged e) e.libraries [] ≡ Some (record e { status = Permanent } ∷ [])
first_comes_in e is small =
    ap (λ b. if b then option_and_then (λ (p : Bundle). step (made p) []) (brought_by [] e.release e.libraries e.relup) else None) small
    ∙ ap (option_and_then (λ (p : Bundle). step (made p) []))
    (brought_whole [] (bundle_in e) e.libraries (completed_first e.release.apps e.libraries is.complete.libraries) is.complete)

-- and so does a further one
further_comes_in : (f : Entry) (fs : Releases) (e : Entry) → recorded (f ∷ fs) ≡ f ∷ fs → has_one_shot (f ∷ fs) ≡ false → HaveLibraries (f ∷ fs) → IsStartable e → is_small e.release ≡ true
    → status_of e.release.vsn (f ∷ fs) ≡ None → first_different (f ∷ fs) e.libraries ≡ None → length (f ∷ fs) < 32
    → comes_in (imaged e) (new_libraries (f ∷ fs) e.libraries) (f ∷ fs) ≡ Some ((f ∷ fs) ++ unset e ∷ [])
further_comes_in f fs e settled free have is small new agree few =
    subst (λ (es : Releases). comes_in (imaged e) (new_libraries (f ∷ fs) e.libraries) es ≡ Some (es ++ unset e ∷ [])) settled
    (unpacked_comes_in (bundle_in e) (f ∷ fs) ((f ∷ fs) ++ unset e ∷ []) have (small, few, is.complete) entered ∙ ap (λ (l : Releases). Some l) (recorded-push (f ∷ fs) (unset e)))
  where
    entered : step (unpacked (bundle_in e)) (f ∷ fs) ≡ Some ((f ∷ fs) ++ unset e ∷ [])
    entered = λ j. if free j then None else (if is_some (new j) || is_some (agree j) then None else Some ((f ∷ fs) ++ unset e ∷ []))

-- the libraries of the next release, and those after it
module _ (es : Releases) (e : Entry) (rest : List Library) (is : IsStartable e) where
  own_taken : take (count_new es e.release.apps) (new_libraries es e.libraries ++ rest) ≡ new_libraries es e.libraries
  own_taken = take_at (new_libraries es e.libraries) rest (count_new es e.release.apps) (sym (counted es e.release.apps e.libraries is.complete.libraries))

  rest_left : drop (count_new es e.release.apps) (new_libraries es e.libraries ++ rest) ≡ rest
  rest_left = drop_at (new_libraries es e.libraries) rest (count_new es e.release.apps) (sym (counted es e.release.apps e.libraries is.complete.libraries))

-- the releases after the first come in one after another
all_further : (f : Entry) (fs after : Releases) → recorded (f ∷ fs) ≡ f ∷ fs → has_one_shot (f ∷ fs) ≡ false → HaveLibraries (f ∷ fs) → AreStartable after → AreSmall after → AreNew (f ∷ fs) after → HasDistinctVersions after
    → Agree (libraries_named (f ∷ fs) ++ libraries_named after) → length (f ∷ fs) + length after ≤ 32
    → all_come_in (map imaged after) (new_behind (f ∷ fs) after) (f ∷ fs) ≡ Some ((f ∷ fs) ++ map unset after)
all_further f fs [] settled free have startable small new distinct agree few = ap (λ (l : Releases). Some l) (sym (append-nil (f ∷ fs)))
all_further f fs (e ∷ after) settled free have startable small new distinct agree few =
    let es : Releases = f ∷ fs in
    let brought : AllByRecursion IsLibrary e.libraries = of_applications e.release.apps e.libraries startable.0.complete.libraries in
    let same : first_different es e.libraries ≡ None =
    none_differ es e.libraries (λ l k here there like. agree l k (one-right l (libraries_named es) (libraries_named (e ∷ after)) (one-left l e.libraries (libraries_named after) here)) (one-left k (libraries_named es) (libraries_named (e ∷ after)) there) like) brought in
    let comes = further_comes_in f fs e settled free have startable.0 small.0 new.0 same (omega (arith, few)) in
    let later : List Library = new_behind (es ++ unset e ∷ []) after in
    let more : length (es ++ unset e ∷ []) + length after ≤ 32 = omega (arith, few, length-append es (unset e ∷ [])) in
    (λ j. option_and_then (all_come_in (map imaged after) (rest_left es e later startable.0 j)) (comes_in (imaged e) (own_taken es e later startable.0 j) es))
    ∙ ap (option_and_then (all_come_in (map imaged after) later)) comes
    ∙ all_further f (fs ++ unset e ∷ []) after (recorded-push es (unset e) ∙ ap (λ (l : Releases). l ++ unset e ∷ []) settled) (none-push es (unset e) refl free)
    (subst (AllByRecursion IsLibrary) (sym (libraries-push es (unset e))) (all-append IsLibrary (libraries_named es) e.libraries have brought))
    startable.1 small.1 (new-push es e after new.1 distinct.0) distinct.1 (subst Agree (sym (named_more es e after)) agree) more
    ∙ ap (λ (l : Releases). Some l) (append_assoc es (unset e ∷ []) (map unset after))

-- Statuses

-- a release of the list, with its status
abbrev pub settled_so : Entry → Assignment
settled_so e = own_status (imaged e)

others : (v : List ℕ) (es : Releases) → status_of v es ≡ None → AreOfOthers v (map own_status (map imaged es))
others v [] none = tt
others v (x ∷ es) none = (differs_back v x.release.vsn (first_differs v x es none), others v es (none_behind v x es none))

-- each status may be written
abbrev pub AreSettled : Releases → Type 0
AreSettled es = AllByRecursion (λ (e : Entry). not (is_current e.status) ≡ true) es

-- where at most one release is a one-shot, none of the others becomes one beside it
none_among : (es : Releases) → length (of_status is_temporary es) ≡ 0 → AllByRecursion (λ (a : Assignment). is_one_shot a.status ≡ false) (map own_status (map imaged es))
none_among [] few = tt
none_among (x ∷ es) few = elim (cases_Bool (is_temporary x.status)) [
  | inl is ↦ let one : length (x ∷ of_status is_temporary es) ≡ 0 = rw is at few in absurd (omega (arith, one))
  | inr is ↦ (not_temporary x.status is, none_among es (rw is at few))
]

apart_from_first : (x : Entry) (es : Releases) → length (of_status is_temporary (x ∷ es)) ≤ 1 → AreApartFrom x.status (map own_status (map imaged es))
apart_from_first x es few = elim (cases_Bool (is_temporary x.status)) [
  | inl is ↦ let one : length (x ∷ of_status is_temporary es) ≤ 1 = rw is at few in none_given x.status _ (none_among es (omega (arith, one)))
  | inr is ↦ beside_none x.status _ is
]

-- so few are after the first
few_behind : (x : Entry) (es : Releases) → length (of_status is_temporary (x ∷ es)) ≤ 1 → length (of_status is_temporary es) ≤ 1
few_behind x es few = elim (cases_Bool (is_temporary x.status)) [
  | inl is ↦ let one : length (x ∷ of_status is_temporary es) ≤ 1 = rw is at few in omega (arith, one)
  | inr is ↦ rw is at few
]

none-unset : (v : List ℕ) (es : Releases) → has_other_temporary v (map unset es) ≡ false
none-unset v [] = refl
none-unset v (x ∷ es) = rw (and_false (not (bytes_eq v x.release.vsn))) (none-unset v es)

-- a release may get its own status beside others that are neither current nor one-shots
of_its_own : (s : Status) (v : List ℕ) (x : Entry) (es : Releases) → not (is_current s) ≡ true → bytes_eq v x.release.vsn ≡ true → has_other_temporary v es ≡ false → may_be_given s v (x ∷ es) ≡ true
of_its_own Unpacked v x es settled is calm = rw is refl
of_its_own Current v x es settled is calm = absurd cc
of_its_own Old v x es settled is calm = rw is refl
of_its_own Permanent v x es settled is calm = rw is refl
of_its_own OneShot v x es settled is calm = rw (is, calm) refl

-- the first release gets its status, and then the others theirs
first_set : (x : Entry) (s : Status) (es mid : Releases) → not (is_current x.status) ≡ true → length (of_status is_temporary (x ∷ es)) ≤ 1 → status_of x.release.vsn es ≡ None
    → status_of x.release.vsn mid ≡ None → has_other_temporary x.release.vsn mid ≡ false → assign_all (map own_status (map imaged es)) mid ≡ Some es → assign_all (map own_status (map imaged (x ∷ es))) (record x { status = s } ∷ mid) ≡ Some (x ∷ es)
first_set x s es mid settled few none also calm rest =
    ap (λ b. if b then assign_all given (list_assigned x.release.vsn x.status (record x { status = s } ∷ mid)) else None) may
    ∙ ap (assign_all given) set
    ∙ behind_first x given mid es (others x.release.vsn es none) (apart_from_first x es few) rest
  where
    given : List Assignment
    given = map own_status (map imaged es)

    may : may_be_assigned (settled_so x) (record x { status = s } ∷ mid) ≡ true
    may = of_its_own x.status x.release.vsn (record x { status = s }) mid settled (is_itself x.release.vsn) calm

    set : list_assigned x.release.vsn x.status (record x { status = s } ∷ mid) ≡ x ∷ mid
    set =
        ap (λ b. record x { status = assigned_status x.status b s } ∷ list_assigned x.release.vsn x.status mid) (is_itself x.release.vsn)
        ∙ ap (λ (l : Releases). x ∷ l) (unassigned x.release.vsn x.status mid also)

unlisted-unset : (v : List ℕ) (es : Releases) → status_of v es ≡ None → status_of v (map unset es) ≡ None
unlisted-unset v es none = unlisted-with_statuses (λ vsn s. Unpacked) v es none

all_set : (es : Releases) → HasDistinctVersions es → AreSettled es → length (of_status is_temporary es) ≤ 1 → assign_all (map own_status (map imaged es)) (map unset es) ≡ Some es
all_set [] distinct settled few = refl
all_set (x ∷ es) distinct settled few =
    first_set x Unpacked es (map unset es) settled.0 few distinct.0 (unlisted-unset x.release.vsn es distinct.0) (none-unset x.release.vsn es)
    (all_set es distinct.1 settled.1 (few_behind x es few))

-- The libraries in order of first mention are those of the first release, and those that are new after it.
mentioned_first : (e : Entry) (after : Releases) → AreStartable (e ∷ after) → libraries_of (e ∷ after) ≡ e.libraries ++ new_behind (record e { status = Permanent } ∷ []) after
mentioned_first e after startable =
    ap (λ (ls : List Library). each_once (ls ++ libraries_named after)) (sym (append-nil e.libraries))
    ∙ sym (mentioned (record e { status = Permanent } ∷ []) after startable.1)
    ∙ ap (λ (ls : List Library). ls ++ new_behind (record e { status = Permanent } ∷ []) after)
    (ap each_once (append-nil e.libraries) ∙ once_more [] e.libraries (apart_within e.release.apps e.libraries startable.0.distinct startable.0.complete.libraries) ∙ all_new e.libraries)

-- What an image needs to restore a list.
pub record IsRestorable (es : Releases) : Type 0 where
  pub startable : AreStartable es
  pub small : AreSmall es
  pub settled : AreSettled es
  pub distinct : HasDistinctVersions es
  pub agree : Agree (libraries_named es)
  pub few : length es ≤ 32
  pub one_temporary : length (of_status is_temporary es) ≤ 1

pub restored_so : (e : Entry) (es : Releases) → IsRestorable (e ∷ es) → restored (map imaged (e ∷ es)) (libraries_of (e ∷ es)) ≡ Some (e ∷ es)
restored_so e es so =
    ap (λ (ls : List Library). restored (map imaged (e ∷ es)) ls) (mentioned_first e es so.startable)
    ∙ ap (option_and_then (assign_all (map own_status (map imaged (e ∷ es))))) all_in
    ∙ first_set e Permanent es (map unset es) so.settled.0 so.one_temporary so.distinct.0 (unlisted-unset e.release.vsn es so.distinct.0) (none-unset e.release.vsn es)
    (all_set es so.distinct.1 so.settled.1 (few_behind e es so.one_temporary))
  where
    first : Entry
    first = record e { status = Permanent }

    later : List Library
    later = new_behind (first ∷ []) es

    own : take (count_new [] e.release.apps) (e.libraries ++ later) ≡ e.libraries
    own = ap (λ (ls : List Library). take (count_new [] e.release.apps) (ls ++ later)) (sym (all_new e.libraries)) ∙ own_taken [] e later so.startable.0 ∙ all_new e.libraries

    rest : drop (count_new [] e.release.apps) (e.libraries ++ later) ≡ later
    rest = ap (λ (ls : List Library). drop (count_new [] e.release.apps) (ls ++ later)) (sym (all_new e.libraries)) ∙ rest_left [] e later so.startable.0

    brought : AllByRecursion IsLibrary e.libraries
    brought = of_applications e.release.apps e.libraries so.startable.0.complete.libraries

    named : libraries_named (first ∷ []) ≡ e.libraries
    named = append-nil e.libraries

    all_in : all_come_in (map imaged (e ∷ es)) (e.libraries ++ later) [] ≡ Some (first ∷ map unset es)
    all_in =
        (λ j. option_and_then (all_come_in (map imaged es) (rest j)) (comes_in (imaged e) (own j) []))
        ∙ ap (option_and_then (all_come_in (map imaged es) later)) (first_comes_in e so.startable.0 so.small.0)
        ∙ all_further first [] es refl refl (subst (AllByRecursion IsLibrary) (sym named) brought) so.startable.1 so.small.1 (new_behind_first first es so.distinct.0) so.distinct.1
        (subst (λ (ls : List Library). Agree (ls ++ libraries_named es)) (sym named) so.agree) (let few = so.few in omega (arith, few))
