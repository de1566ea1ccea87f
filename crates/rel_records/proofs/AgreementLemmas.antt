-- In a list that records make, libraries of one name and version are the same.
use Rattle.std.proofs.Common.{◌≡◌, ◌⊎◌, inl, inr, ℕ, Bool, true, false, cond, List, [], ◌∷◌, ◌++◌, length, map, Option, Some, None, refl, sym, ap, subst, ◌∙◌, find, append-nil}
use Rattle.std.specs.Prelude.{◌&&◌, nat_lt, if◌then◌else◌, Contains}
use Rattle.std.specs.List.{AllByRecursion}
use Rattle.std.specs.Option.{option_and_then, unwrap_or}
use Rattle.std.specs.Str.{bytes_eq}
use Rattle.std.proofs.lemmas.List.Elements.{Contains-append_left, Contains-append_right, Contains-push}
use Rattle.std.proofs.lemmas.Slice.Eq.{bytes_eq-Decides}
use Rattle.rel_files.specs.Name.{AreDistinct}
use Rattle.rel_files.specs.Release.{Application, Release}
use Rattle.rel_files.proofs.Options.{both_true, passed, both}
use Rattle.relup_file.specs.Relup.{RelupForm}
use Rattle.library.specs.Library.{Library, AreLibrariesOf, IsLibrary, is_at}
use Rattle.rel_list.specs.declared.status.Status.TheVariants.{Unpacked, Permanent}
use Rattle.rel_list.specs.Releases.{Bundle, Releases, Entry, differs, entry, first_different, libraries_named, library_in, status_of}
use Rattle.rel_list.specs.Event.{list_assigned, may_be_removed, step, without}
use Rattle.rel_list.specs.Event.Event.{made, removed, unpacked}
use Rattle.rel_list.proofs.LibraryLaws.{is_like, libraries-push, none_differs, own_library, libraries-with_statuses, same_name}
use Rattle.rel_list.proofs.OwnRules.{never_made_again, own_of_step}
use Rattle.rel_records.specs.Limits.{is_small, most_releases}
use Rattle.rel_records.specs.Lists.{HaveLibraries, Makes, added_by, assign_all, brought_by, made_by, may_be_assigned}
use Rattle.rel_records.specs.Record.{Assignment}
use Rattle.rel_records.specs.Startable.{AreStartable, IsStartable}
use Rattle.rel_records.proofs.CompletionLemmas.{at_names, of_applications}
use Rattle.rel_records.proofs.EachRelease.{each_first, each_further, each_left, each_set}
use Rattle.rel_records.proofs.EventRecords.{unbarred}
use Rattle.rel_records.proofs.MadeLemmas.{AreSaid, kept_made}
use Rattle.rel_records.proofs.RecordPlaces.{event_of_record, pushed_last}
use Rattle.rel_records.proofs.StartableLemmas.{brought_startable, startable_libraries, still_startable}

-- it is one of them
abbrev pub IsOneOf : Library → List Library → Type 0
IsOneOf l [] = ⊥
IsOneOf l (k ∷ ks) = (k ≡ l) ⊎ IsOneOf l ks

pub one-left : (l : Library) (ls ks : List Library) → IsOneOf l ls → IsOneOf l (ls ++ ks)
one-left l [] ks here = absurd here
one-left l (m ∷ ls) ks (inl is) = inl is
one-left l (m ∷ ls) ks (inr later) = inr (one-left l ls ks later)

pub one-right : (l : Library) (ls ks : List Library) → IsOneOf l ks → IsOneOf l (ls ++ ks)
one-right l [] ks here = here
one-right l (m ∷ ls) ks here = inr (one-right l ls ks here)

one-either : (l : Library) (ls ks : List Library) → IsOneOf l (ls ++ ks) → IsOneOf l ls ⊎ IsOneOf l ks
one-either l [] ks here = inr here
one-either l (m ∷ ls) ks (inl is) = inl (inl is)
one-either l (m ∷ ls) ks (inr later) = elim (one-either l ls ks later) [ inl a ↦ inl (inr a) | inr b ↦ inr b ]

-- what holds of each holds of one of them
pub holds_of_one : (P : Library → Type 0) (ls : List Library) (l : Library) → AllByRecursion P ls → IsOneOf l ls → P l
holds_of_one P [] l all here = absurd here
holds_of_one P (k ∷ ls) l all (inl same) = subst P same all.0
holds_of_one P (k ∷ ls) l all (inr later) = holds_of_one P ls l all.1 later

-- what is found is one of them
pub found_one : (test : Library → Bool) (ls : List Library) (l : Library) → find test ls ≡ Some l → IsOneOf l ls
found_one test [] l is = absurd cc
found_one test (k ∷ ls) l is = go (test k) (found_one test ls l) is
  where
    go : (b : Bool) → (find test ls ≡ Some l → IsOneOf l ls) → cond b (Some k) (find test ls) ≡ Some l → (k ≡ l) ⊎ IsOneOf l ls
    go true behind is = let same : k ≡ l = cc is in inl same
    go false behind is = inr (behind is)

-- where one of them passes the test, one is found
some_found : (test : Library → Bool) (ls : List Library) (l : Library) → IsOneOf l ls → test l ≡ true → find test ls ≡ None → ⊥
some_found test [] l here passes none = here
some_found test (k ∷ ls) l here passes none = go (test k) refl here (λ later. some_found test ls l later passes) none
  where
    go : (b : Bool) → test k ≡ b → (k ≡ l) ⊎ IsOneOf l ls → (IsOneOf l ls → find test ls ≡ None → ⊥) → cond b (Some k) (find test ls) ≡ None → ⊥
    go true is here behind none = cc none
    go false is (inl same) behind none = cc (is, passes, ap test same)
    go false is (inr later) behind none = behind later none

-- Libraries of one name and version are the same.
abbrev pub Agree : List Library → Type 0
Agree ls = (l k : Library) → IsOneOf l ls → IsOneOf k ls → is_like l k ≡ true → k ≡ l

pub like_back : (l k : Library) → is_like l k ≡ true → is_like k l ≡ true
like_back l k like =
    let (name, vsn) = same_name l k like in
    both_true (bytes_eq l.app.name k.app.name) (bytes_eq l.app.vsn k.app.vsn) ((bytes_eq-Decides l.app.name k.app.name).1 (sym name)) ((bytes_eq-Decides l.app.vsn k.app.vsn).1 (sym vsn))

-- the names of applications
abbrev pub names_of : List Application → List (List ℕ)
names_of apps = map (λ (a : Application). a.name) apps

contains_first : (n : List ℕ) (ns : List (List ℕ)) → Contains (n ∷ ns) n
contains_first n ns = Contains-append_left (n ∷ []) ns n (Contains-push [] n)

contains_later : (n m : List ℕ) (ns : List (List ℕ)) → Contains ns m → Contains (n ∷ ns) m
contains_later n m ns there = Contains-append_right (n ∷ []) ns m there

-- a library of applications has the name of one of them
named_there : (apps : List Application) (ls : List Library) (l : Library) → AreLibrariesOf apps ls → IsOneOf l ls → Contains (names_of apps) l.app.name
named_there apps [] l are here = absurd here
named_there [] (k ∷ ls) l are here = absurd are
named_there (a ∷ apps) (k ∷ ls) l are (inl same) =
    subst (Contains (a.name ∷ names_of apps)) (sym (at_names a k are.1).0 ∙ ap (λ (m : Library). m.app.name) same) (contains_first a.name (names_of apps))
named_there (a ∷ apps) (k ∷ ls) l are (inr later) = contains_later a.name l.app.name (names_of apps) (named_there apps ls l are.2 later)

-- no other one has the name of the first
pub unlike : (a : Application) (apps : List Application) (m : Library) (ls : List Library) (k : Library) → AreDistinct (names_of (a ∷ apps)) → AreLibrariesOf (a ∷ apps) (m ∷ ls) → IsOneOf k ls
    → is_like m k ≡ true → ⊥
unlike a apps m ls k distinct are there like =
    distinct.0 (subst (Contains (names_of apps)) ((same_name m k like).0 ∙ (at_names a m are.1).0) (named_there apps ls k are.2 there))

-- the libraries of distinct applications agree
agree_within : (apps : List Application) (ls : List Library) → AreDistinct (names_of apps) → AreLibrariesOf apps ls → (l k : Library) → IsOneOf l ls → IsOneOf k ls → is_like l k ≡ true → k ≡ l
agree_within apps [] distinct are l k here there like = absurd here
agree_within [] (m ∷ ls) distinct are l k here there like = absurd are
agree_within (a ∷ apps) (m ∷ ls) distinct are l k (inl p) (inl q) like = sym q ∙ p
agree_within (a ∷ apps) (m ∷ ls) distinct are l k (inl p) (inr there) like = absurd (unlike a apps m ls k distinct are there (subst (λ (x : Library). is_like x k ≡ true) (sym p) like))
agree_within (a ∷ apps) (m ∷ ls) distinct are l k (inr here) (inl q) like =
    absurd (unlike a apps m ls l distinct are here (subst (λ (x : Library). is_like x l ≡ true) (sym q) (like_back l k like)))
agree_within (a ∷ apps) (m ∷ ls) distinct are l k (inr here) (inr there) like = agree_within apps ls distinct.1 are.2 l k here there like

-- where the first that differs from the list's is none, none differs
each_agrees : (es : Releases) (ls : List Library) (k : Library) → first_different es ls ≡ None → IsOneOf k ls → differs es k ≡ false
each_agrees es [] k none there = absurd there
each_agrees es (l ∷ ls) k none (inl same) = subst (λ (x : Library). differs es x ≡ false) same (none_differs es l ls none).0
each_agrees es (l ∷ ls) k none (inr later) = each_agrees es ls k (none_differs es l ls none).1 later

-- one of the list's is the one of its name and version that comes in
meets : (es : Releases) → HaveLibraries es → Agree (libraries_named es) → (l k : Library) → IsOneOf l (libraries_named es) → IsLibrary k → differs es k ≡ false → is_like k l ≡ true → l ≡ k
meets es have old l k here is same like = go (library_in es k.app.name k.app.vsn) refl (own_library es k have is same)
  where
    go : (o : Option Library) → library_in es k.app.name k.app.vsn ≡ o → unwrap_or o k ≡ k → l ≡ k
    go None none own = absurd (some_found (is_at k.app.name k.app.vsn) (libraries_named es) l here like none)
    go (Some m) found own =
        let there : IsOneOf k (libraries_named es) = subst (λ (x : Library). IsOneOf x (libraries_named es)) own (found_one (is_at k.app.name k.app.vsn) (libraries_named es) m found) in
        old k l there here like

agree-brought : (es : Releases) (ls : List Library) → HaveLibraries es → AllByRecursion IsLibrary ls → Agree (libraries_named es) → Agree ls → first_different es ls ≡ None → Agree (libraries_named es ++ ls)
agree-brought es ls have all old own none l k here there like = by (one-either l (libraries_named es) ls here) (one-either k (libraries_named es) ls there)
  where
    by : IsOneOf l (libraries_named es) ⊎ IsOneOf l ls → IsOneOf k (libraries_named es) ⊎ IsOneOf k ls → k ≡ l
    by (inl a) (inl b) = old l k a b like
    by (inr a) (inr b) = own l k a b like
    by (inl a) (inr b) = sym (meets es have old l k a (holds_of_one IsLibrary ls k all b) (each_agrees es ls k none b) (like_back l k like))
    by (inr a) (inl b) = meets es have old k l b (holds_of_one IsLibrary ls l all a) (each_agrees es ls l none a) like

libraries-assign_all : (given : List Assignment) (es next : Releases) → assign_all given es ≡ Some next → libraries_named next ≡ libraries_named es
libraries-assign_all [] es next is = let same : es ≡ next = cc is in ap libraries_named (sym same)
libraries-assign_all (a ∷ given) es next is =
    let (may, rest) = passed (may_be_assigned a es) (assign_all given (list_assigned a.vsn a.status es)) next is in
    libraries-assign_all given (list_assigned a.vsn a.status es) next rest ∙ libraries-with_statuses _ es

one-without : (v : List ℕ) (es : Releases) (l : Library) → IsOneOf l (libraries_named (without v es)) → IsOneOf l (libraries_named es)
one-without v [] l here = here
one-without v (e ∷ es) l here = go (bytes_eq v e.release.vsn) (one-without v es l) here
  where
    go : (b : Bool) → (IsOneOf l (libraries_named (without v es)) → IsOneOf l (libraries_named es)) → IsOneOf l (libraries_named (if b then es else e ∷ without v es)) → IsOneOf l (e.libraries ++ libraries_named es)
    go true rest here = one-right l e.libraries (libraries_named es) here
    go false rest here = elim (one-either l e.libraries (libraries_named (without v es)) here) [
      | inl a ↦ one-left l e.libraries (libraries_named es) a
      | inr b ↦ one-right l e.libraries (libraries_named es) (rest b)
    ]

-- What records keep of a list: each release can be started, and libraries of one name and version are the same.
abbrev pub Agreeing : Releases → Type 0
Agreeing es = AreStartable es × Agree (libraries_named es)

-- the libraries of a release that can be started agree
agree_of : (e : Entry) → IsStartable e → Agree e.libraries
agree_of e is = agree_within e.release.apps e.libraries is.distinct is.complete.libraries

first_agrees : (r : Release) (ls : List Library) (o : Option RelupForm) (es next : Releases) → AreSaid r o → AllByRecursion IsLibrary ls → made_by r ls o es ≡ Some next → Agreeing es → Agreeing next
first_agrees r ls o es next said all e holds =
    let startable = each_first IsStartable still_startable brought_startable r ls o es next said all e holds.0 in
    let (p, of, is) = event_of_record made (is_small r) r ls o es next e in
    (startable, alone p es next is startable)
  where
    alone : (p : Bundle) (es next : Releases) → step (made p) es ≡ Some next → AreStartable next → Agree (libraries_named next)
    alone p [] next is startable =
        let one : entry p Permanent ∷ [] ≡ next = cc is in
        let there : IsStartable (entry p Permanent) × Unit {0} = subst AreStartable (sym one) startable in
        subst (λ (es : Releases). Agree (libraries_named es)) one (subst Agree (sym (append-nil p.libraries)) (agree_of (entry p Permanent) there.0))
    alone p (f ∷ fs) next is startable = absurd (never_made_again p f fs next is)

further_agrees : (r : Release) (ls : List Library) (o : Option RelupForm) (es next : Releases) → AreSaid r o → AllByRecursion IsLibrary ls → added_by r ls o es ≡ Some next → Agreeing es → Agreeing next
further_agrees r ls o es next said all e holds =
    let allowed = is_small r && nat_lt (length es) most_releases in
    let (may, rest) = passed allowed (option_and_then (λ (p : Bundle). step (unpacked p) es) (brought_by es r ls o)) next e in
    let (p, of, is) = event_of_record unpacked allowed r ls o es next e in
    let comes : IsStartable (entry p Unpacked) = brought_startable es r ls o p Unpacked holds.0 (both (is_small r) (nat_lt (length es) most_releases) may).0 said all of in
    let brought : AllByRecursion IsLibrary p.libraries = of_applications p.release.apps p.libraries comes.complete.libraries in
    let agree : Agree (libraries_named es ++ p.libraries) =
    agree-brought es p.libraries (startable_libraries es holds.0) brought holds.1 (agree_of (entry p Unpacked) comes) (unbarred p es next is).1 in (
      each_further IsStartable still_startable brought_startable r ls o es next said all e holds.0,
      subst (λ (l : Releases). Agree (libraries_named l)) (pushed_last p es next is) (subst Agree (sym (libraries-push es (entry p Unpacked))) agree),
    )

statuses_agree : (given : List Assignment) (es next : Releases) → assign_all given es ≡ Some next → Agreeing es → Agreeing next
statuses_agree given es next is holds =
    (each_set IsStartable still_startable given es next is holds.0, subst Agree (sym (libraries-assign_all given es next is)) holds.1)

left_agrees : (v : List ℕ) (es next : Releases) → step (removed v) es ≡ Some next → Agreeing es → Agreeing next
left_agrees v es next is holds =
    let (may, gone) = passed (may_be_removed (status_of v es)) (Some (without v es)) next (own_of_step (removed v) es next is).1 in
    let same : without v es ≡ next = cc gone in
    (each_left IsStartable v es next is holds.0, subst (λ (l : Releases). Agree (libraries_named l)) same (λ l k a b. holds.1 l k (one-without v es l a) (one-without v es k b)))

nothing_agrees : Agree []
nothing_agrees l k here there like = absurd here

pub make_agreeing : (format : ℕ) (bodies : List (List ℕ)) (es : Releases) → Makes format bodies es → Agreeing es
make_agreeing = kept_made Agreeing first_agrees further_agrees statuses_agree left_agrees (tt, nothing_agrees)
