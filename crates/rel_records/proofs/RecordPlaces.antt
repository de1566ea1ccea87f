-- What stands after a record.
use Rattle.std.proofs.Common.{◌≡◌, ℕ, Bool, true, false, List, [], ◌∷◌, ◌++◌, length, Some, None, Option, refl, sym, ap, ◌∙◌, subst}
use Rattle.std.specs.Prelude.{◌&&◌, ◌||◌, is_some, nat_lt, if◌then◌else◌}
use Rattle.std.specs.List.{AllByRecursion}
use Rattle.std.specs.Option.{option_and_then}
use Rattle.std.specs.Str.{bytes_eq}
use Rattle.rel_files.specs.Release.{Release}
use Rattle.rel_files.proofs.Options.{chained, passed}
use Rattle.library.specs.Library.{Library}
use Rattle.relup_file.specs.Relup.{RelupForm}
use Rattle.rel_check.specs.declared.relup.RelupMismatch.{RelupMismatch}
use Rattle.rel_check.specs.Fault.{Fault, release_fault}
use Rattle.rel_list.specs.declared.status.Status.{Status}
use Rattle.rel_list.specs.declared.status.Status.TheVariants.{Unpacked, Current, Old, Permanent, OneShot}
use Rattle.rel_list.specs.Change.{may_be_given}
use Rattle.rel_list.specs.Releases.{Bundle, Releases, Entry, status_of}
use Rattle.rel_list.specs.Event.{Event, entry, is_barred, recorded, recorded_status, step, without, list_assigned, assigned_status, may_be_removed}
use Rattle.rel_list.specs.Event.Event.{made, removed, unpacked}
use Rattle.rel_records.specs.Format.{allows}
use Rattle.rel_records.specs.Limits.{has_one_permanent, is_small, most_releases}
use Rattle.rel_records.specs.Record.{Assignment, Record, makes, adds, assigns, removes, images}
use Rattle.rel_records.specs.Lists.{may_be_assigned, added_by, assign_all, brought_by, completed, if_faultless, made_by, mismatch_in, taken_by, with_one_permanent, assigned, assigned_in, MakesFrom}
use Rattle.rel_list.proofs.OwnRules.{never_made_again, own_of_step}
use Rattle.rel_records.proofs.InvariantLemmas.{IsOf, kept_behind}
pub use Rattle.rel_records.proofs.StatusLemmas.{first_recorded, rest_recorded}

-- after each record exactly one release is permanent
pub assigned_so : (r : Record) (es next : Releases) → assigned r es ≡ Some next → (taken_by r es ≡ Some next) × (has_one_permanent next ≡ true)
assigned_so r es next e = go (taken_by r es) e
  where
    one : (l : Releases) (b : Bool) → has_one_permanent l ≡ b → (if b then Some l else None) ≡ Some next → (Some l ≡ Some next) × (has_one_permanent next ≡ true)
    one l true is e = (e, let same : l ≡ next = cc e in ap has_one_permanent (sym same) ∙ is)
    one l false is e = absurd cc

    go : (o : Option Releases) → with_one_permanent o ≡ Some next → (o ≡ Some next) × (has_one_permanent next ≡ true)
    go None e = absurd cc
    go (Some l) e = one l (has_one_permanent l) refl e

-- so it is in a store of each format
pub taken_so : (format : ℕ) (r : Record) (es next : Releases) → assigned_in format r es ≡ Some next → taken_by r es ≡ Some next
taken_so format r es next e = (assigned_so r es next (passed (allows format r) (assigned r es) next e).1).0

pub one_behind : (r : Record) (es next : Releases) → assigned r es ≡ Some next → has_one_permanent next ≡ true
one_behind r es next e = (assigned_so r es next e).1

-- what has one permanent release stays
pub kept : (es : Releases) → has_one_permanent es ≡ true → with_one_permanent (Some es) ≡ Some es
kept es one = ap (λ b. if b then Some es else None) one

-- a status that may be assigned is reported as it is
as_given : (s : Status) (v : List ℕ) (es : Releases) → may_be_given s v es ≡ true → recorded_status s ≡ s
as_given Unpacked v es may = refl
as_given Current v es may = absurd cc
as_given Old v es may = refl
as_given Permanent v es may = refl
as_given OneShot v es may = refl

-- no assignment of such a status makes a release current
recorded-assigned : (t : Status) → recorded_status t ≡ t → (b : Bool) (s : Status) → recorded_status s ≡ s → recorded_status (assigned_status t b s) ≡ assigned_status t b s
recorded-assigned t new true s old = new
recorded-assigned t new false s old = old

recorded-list_assigned : (v : List ℕ) (t : Status) (es : Releases) → recorded_status t ≡ t → recorded es ≡ es → recorded (list_assigned v t es) ≡ list_assigned v t es
recorded-list_assigned v t [] new is = refl
recorded-list_assigned v t (e ∷ es) new is =
    λ k. record e { status = recorded-assigned t new (bytes_eq v e.release.vsn) e.status (first_recorded e es is) k } ∷ recorded-list_assigned v t es new (rest_recorded e es is) k

recorded-assign_all : (given : List Assignment) (es next : Releases) → assign_all given es ≡ Some next → recorded es ≡ es → recorded next ≡ next
recorded-assign_all [] es next e is = let same : es ≡ next = cc e in subst (λ l. recorded l ≡ l) same is
recorded-assign_all (a ∷ given) es next e is =
    let (may, rest) = passed (may_be_assigned a es) (assign_all given (list_assigned a.vsn a.status es)) next e in
    recorded-assign_all given (list_assigned a.vsn a.status es) next rest (recorded-list_assigned a.vsn a.status es (as_given a.status a.vsn es may) is)

pub recorded-push : (es : Releases) (e : Entry) → recorded (es ++ e ∷ []) ≡ recorded es ++ record e { status = recorded_status e.status } ∷ []
recorded-push [] e = refl
recorded-push (f ∷ es) e = ap (λ l. record f { status = recorded_status f.status } ∷ l) (recorded-push es e)

-- a removal leaves the others as records report them
pub recorded-without : (v : List ℕ) (es : Releases) → recorded (without v es) ≡ without v (recorded es)
recorded-without v [] = refl
recorded-without v (e ∷ es) = go (bytes_eq v e.release.vsn) (recorded-without v es)
  where
    go : (b : Bool) → recorded (without v es) ≡ without v (recorded es) → recorded (if b then es else e ∷ without v es) ≡ (if b then recorded es else record e { status = recorded_status e.status } ∷ without v (recorded es))
    go true rest = refl
    go false rest = ap (λ l. record e { status = recorded_status e.status } ∷ l) rest

-- What a record brings is its release, with the libraries that the new ones complete, and its relup.
pub record IsOfRecord (es : Releases) (r : Release) (ls : List Library) (o : Option RelupForm) (p : Bundle) : Type 0 where
  pub release : r ≡ p.release
  pub libraries : completed es r.apps ls ≡ Some p.libraries
  pub relup : o ≡ p.relup
  pub faultless : release_fault p.release.apps p.libraries ≡ None
  pub matching : mismatch_in p ≡ None

pub of_record : (es : Releases) (r : Release) (ls : List Library) (o : Option RelupForm) (p : Bundle) → brought_by es r ls o ≡ Some p → IsOfRecord es r ls o p
of_record es r ls o p e =
    let (ks, found, whole) = chained (λ (ks : List Library). if_faultless (with_libraries ks)) (completed es r.apps ls) p e in
    by ks found (release_fault r.apps ks) (mismatch_in (with_libraries ks)) refl refl whole
  where
    with_libraries : List Library → Bundle
    with_libraries ks = record { release = r; libraries = ks; relup = o }

    by : (ks : List Library) → completed es r.apps ls ≡ Some ks → (f : Option Fault) (m : Option RelupMismatch) → release_fault r.apps ks ≡ f → mismatch_in (with_libraries ks) ≡ m
        → (if is_some f || is_some m then None else Some (with_libraries ks)) ≡ Some p → IsOfRecord es r ls o p
    by ks found None None faultless matching whole =
        let same : with_libraries ks ≡ p = cc whole in
        subst (IsOfRecord es r ls o) same (record { release = refl; libraries = found; relup = refl; faultless = faultless; matching = matching })
    by ks found (Some f) m faultless matching whole = absurd cc
    by ks found None (Some m) faultless matching whole = absurd cc

-- A record that brings a release is the event that brings it.
pub event_of_record : (event : Bundle → Event) (b : Bool) (r : Release) (ls : List Library) (o : Option RelupForm) (es next : Releases)
    → (if b then option_and_then (λ (p : Bundle). step (event p) es) (brought_by es r ls o) else None) ≡ Some next → (p : Bundle) × IsOfRecord es r ls o p × (step (event p) es ≡ Some next)
event_of_record event b r ls o es next e =
    let (kept_limits, stepped) = passed b (option_and_then (λ (p : Bundle). step (event p) es) (brought_by es r ls o)) next e in
    let (p, brought, is) = chained (λ (p : Bundle). step (event p) es) (brought_by es r ls o) next stepped in
    (p, of_record es r ls o p brought, is)

-- a release that comes in is last
pub pushed_last : (p : Bundle) (es next : Releases) → step (unpacked p) es ≡ Some next → es ++ entry p Unpacked ∷ [] ≡ next
pushed_last p es next e = unless (is_barred p es) (own_of_step (unpacked p) es next e).1
  where
    unless : (b : Bool) → (if b then None else Some (es ++ entry p Unpacked ∷ [])) ≡ Some next → es ++ entry p Unpacked ∷ [] ≡ next
    unless true e = absurd cc
    unless false e = cc e

settled_first : (p : Bundle) (es next : Releases) → step (made p) es ≡ Some next → recorded next ≡ next
settled_first p [] next is = let one : entry p Permanent ∷ [] ≡ next = cc is in subst (λ l. recorded l ≡ l) one refl
settled_first p (f ∷ fs) next is = absurd (never_made_again p f fs next is)

-- what always holds holds of each
always : {A : Type 0} (xs : List A) → AllByRecursion (λ (x : A). Unit {0}) xs
always [] = tt
always (x ∷ xs) = (tt, always xs)

any_record : (r : Record) → IsOf (λ (r : Release) (o : Option RelupForm). Unit {0}) (λ (l : Library). Unit {0}) r
any_record (makes r ls o) = (tt, always ls)
any_record (adds r ls o) = (tt, always ls)
any_record (assigns given) = tt
any_record (removes w) = tt
any_record (images xs ls) = (always xs, always ls)

-- no record makes a release current
pub settled_behind : (r : Record) (es next : Releases) → taken_by r es ≡ Some next → recorded es ≡ es → recorded next ≡ next
settled_behind r es next e same =
    kept_behind (λ (r : Release) (o : Option RelupForm). Unit {0}) (λ (l : Library). Unit {0}) (λ (l : Releases). recorded l ≡ l) first further recorded-assign_all left r es next (any_record r) e same
  where
    first : (r : Release) (ls : List Library) (o : Option RelupForm) (es next : Releases) → Unit {0} → AllByRecursion (λ (l : Library). Unit {0}) ls → made_by r ls o es ≡ Some next → recorded es ≡ es → recorded next ≡ next
    first r ls o es next of all e same = let (p, of, is) = event_of_record made (is_small r) r ls o es next e in settled_first p es next is

    further : (r : Release) (ls : List Library) (o : Option RelupForm) (es next : Releases) → Unit {0} → AllByRecursion (λ (l : Library). Unit {0}) ls → added_by r ls o es ≡ Some next → recorded es ≡ es → recorded next ≡ next
    further r ls o es next of all e same =
        let (p, of, is) = event_of_record unpacked (is_small r && nat_lt (length es) most_releases) r ls o es next e in
        subst (λ l. recorded l ≡ l) (pushed_last p es next is) (recorded-push es (entry p Unpacked) ∙ ap (λ l. l ++ entry p Unpacked ∷ []) same)

    left : (w : List ℕ) (es next : Releases) → step (removed w) es ≡ Some next → recorded es ≡ es → recorded next ≡ next
    left w es next e same =
        let (may, is) = passed (may_be_removed (status_of w es)) (Some (without w es)) next (own_of_step (removed w) es next e).1 in
        let gone : without w es ≡ next = cc is in
        subst (λ l. recorded l ≡ l) gone (recorded-without w es ∙ ap (without w) same)

pub settled_made : (format : ℕ) (es : Releases) (bodies : List (List ℕ)) (end : Releases) → MakesFrom format es bodies end → recorded es ≡ es → recorded end ≡ end
settled_made format es [] end is same = ap recorded is ∙ same ∙ sym is
settled_made format es (body ∷ bodies) end (r, next, spelled, taken, rest) same =
    settled_made format next bodies end rest (settled_behind r es next (taken_so format r es next taken) same)
