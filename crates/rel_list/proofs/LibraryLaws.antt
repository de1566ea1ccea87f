-- The libraries of a list: which ones its releases name, and each once.
use Rattle.std.proofs.Common.{◌≡◌, ℕ, Bool, true, false, not, cond, List, [], ◌∷◌, ◌++◌, filter, find, Option, Some, None, is_some, inl, inr, refl, sym, ap, subst, ◌∙◌, true≢false, append_assoc}
use Rattle.std.specs.List.{AllByRecursion}
use Rattle.std.specs.Option.{option_or, unwrap_or}
use Rattle.std.specs.Str.{bytes_eq}
use Rattle.std.proofs.lemmas.Bool.{cases_Bool}
use Rattle.std.proofs.lemmas.Grind.{flat_map-append}
use Rattle.std.proofs.lemmas.List.{append-nil}
use Rattle.std.proofs.lemmas.List.Elements.{filter-append}
use Rattle.std.proofs.lemmas.List.Folds.{find-append}
use Rattle.rel_files.proofs.Options.{both, both_true}
use Rattle.library.specs.Library.{Library, IsLibrary, is_at, library_at, agrees, is_same_library}
use Rattle.library.proofs.Terms.{same_libraries}
use Rattle.rel_list.specs.Releases.{Releases, Entry, libraries_named, library_in, each_once, shared, differs, first_different}
use Rattle.rel_list.specs.declared.status.Status.{Status}
use Rattle.rel_list.specs.Event.{recorded, recorded_status, with_statuses}
use Rattle.rel_list.proofs.Orderly.{same_version, is_itself}

-- Boots, and releases that come in

-- a boot leaves the libraries
pub libraries-with_statuses : (f : List ℕ → Status → Status) (es : Releases) → libraries_named (with_statuses f es) ≡ libraries_named es
libraries-with_statuses f [] = refl
libraries-with_statuses f (e ∷ es) = ap (λ (ls : List Library). e.libraries ++ ls) (libraries-with_statuses f es)

pub libraries-recorded : (es : Releases) → libraries_named (recorded es) ≡ libraries_named es
libraries-recorded es = libraries-with_statuses (λ vsn s. recorded_status s) es

-- a release that comes in brings its libraries after the others
pub libraries-push : (es : Releases) (e : Entry) → libraries_named (es ++ e ∷ []) ≡ libraries_named es ++ e.libraries
libraries-push es e =
    flat_map-append (λ (f : Entry). f.libraries) es (e ∷ []) ∙ ap (λ (ls : List Library). libraries_named es ++ ls) (append-nil e.libraries)

-- Look-ups

-- the first release that has it has the library
pub library_in-cons : (e : Entry) (es : Releases) (name vsn : List ℕ) → library_in (e ∷ es) name vsn ≡ option_or (library_at name vsn e.libraries) (library_in es name vsn)
library_in-cons e es name vsn = find-append (is_at name vsn) e.libraries (libraries_named es)

pub library_here : (e : Entry) (es : Releases) (name vsn : List ℕ) (l : Library) → library_at name vsn e.libraries ≡ Some l → library_in (e ∷ es) name vsn ≡ Some l
library_here e es name vsn l is = library_in-cons e es name vsn ∙ ap (λ (o : Option Library). option_or o (library_in es name vsn)) is

pub library_behind : (e : Entry) (es : Releases) (name vsn : List ℕ) → library_at name vsn e.libraries ≡ None → library_in (e ∷ es) name vsn ≡ library_in es name vsn
library_behind e es name vsn none = library_in-cons e es name vsn ∙ ap (λ (o : Option Library). option_or o (library_in es name vsn)) none

-- Names and versions

-- the one is at the name and the version of the other
abbrev pub is_like : Library → Library → Bool
is_like l k = is_at l.app.name l.app.vsn k

-- one of them is
abbrev pub is_among : Library → List Library → Bool
is_among l ls = is_some (library_at l.app.name l.app.vsn ls)

pub same_name : (l k : Library) → is_like l k ≡ true → (k.app.name ≡ l.app.name) × (k.app.vsn ≡ l.app.vsn)
same_name l k is =
    let parts = both (bytes_eq k.app.name l.app.name) (bytes_eq k.app.vsn l.app.vsn) is in
    (same_version k.app.name l.app.name parts.0, same_version k.app.vsn l.app.vsn parts.1)

-- so all that is at the one's is at the other's
alike : (l k : Library) → is_like l k ≡ true → (m : Library) → is_like k m ≡ is_like l m
alike l k is m = λ j. is_at ((same_name l k is).0 j) ((same_name l k is).1 j) m

like_itself : (l : Library) → is_like l l ≡ true
like_itself l = both_true (bytes_eq l.app.name l.app.name) (bytes_eq l.app.vsn l.app.vsn) (is_itself l.app.name) (is_itself l.app.vsn)

-- Each once

-- all of them that aren't at the name and version of this one
abbrev others : Library → List Library → List Library
others k ls = filter (λ (m : Library). not (is_like k m)) ls

-- among those a library of another name or version is found as among all
among-others : (k l : Library) → is_like k l ≡ false → (ls : List Library) → is_among l (others k ls) ≡ is_among l ls
among-others k l differ [] = refl
among-others k l differ (m ∷ ls) = elim (cases_Bool (is_like k m)) [
  | inl is ↦ rw is (elim (cases_Bool (is_like l m)) [
    | inl also ↦ absurd (true≢false (sym (like_itself l) ∙ sym (alike l m also l) ∙ alike k m is l ∙ differ))
    | inr not_it ↦ rw not_it (among-others k l differ ls)
  ])
  | inr not_it ↦ rw not_it (ahead (is_like l m) (among-others k l differ ls))
]
  where
    ahead : (b : Bool) → is_among l (others k ls) ≡ is_among l ls
        → is_some (cond b (Some m) (library_at l.app.name l.app.vsn (others k ls))) ≡ is_some (cond b (Some m) (library_at l.app.name l.app.vsn ls))
    ahead true rest = refl
    ahead false rest = rest

-- one more library is kept where none of its name and version is among them
pub each_once-push : (ks : List Library) (l : Library) → each_once (ks ++ l ∷ []) ≡ cond (is_among l (each_once ks)) (each_once ks) (each_once ks ++ l ∷ [])
each_once-push [] l = refl
each_once-push (k ∷ ks) l = ap (λ (ls : List Library). k ∷ others k ls) (each_once-push ks l) ∙ elim (cases_Bool (is_like k l)) [
  | inl is ↦ like is (is_among l (each_once ks))
  | inr not_it ↦ unlike not_it (is_among l (each_once ks)) refl
]
  where
    firsts : List Library
    firsts = each_once ks

    front : List Library
    front = k ∷ others k firsts

    -- whether it is found after the first
    found : Bool → Bool → Bool
    found b a = cond b true a

    found_of : (b : Bool) → is_some (cond b (Some k) (library_at l.app.name l.app.vsn (others k firsts))) ≡ found b (is_among l (others k firsts))
    found_of true = refl
    found_of false = refl

    like : is_like k l ≡ true → (a : Bool) → k ∷ others k (cond a firsts (firsts ++ l ∷ [])) ≡ cond (is_among l front) front (front ++ l ∷ [])
    like is a =
        let here : is_like l k ≡ true = alike k l is k ∙ like_itself k in
        let dropped : others k (firsts ++ l ∷ []) ≡ others k firsts =
        filter-append (λ (m : Library). not (is_like k m)) firsts (l ∷ []) ∙ ap (λ (b : Bool). others k firsts ++ cond (not b) (l ∷ []) []) is ∙ append-nil (others k firsts) in
        left a dropped ∙ sym (ap (λ (b : Bool). cond b front (front ++ l ∷ [])) (found_of (is_like l k) ∙ ap (λ (b : Bool). found b (is_among l (others k firsts))) here))
      where
        left : (a : Bool) → others k (firsts ++ l ∷ []) ≡ others k firsts → k ∷ others k (cond a firsts (firsts ++ l ∷ [])) ≡ front
        left true dropped = refl
        left false dropped = ap (λ (ls : List Library). k ∷ ls) dropped

    unlike : is_like k l ≡ false → (a : Bool) → is_among l firsts ≡ a → k ∷ others k (cond a firsts (firsts ++ l ∷ [])) ≡ cond (is_among l front) front (front ++ l ∷ [])
    unlike differ a is =
        let apart : is_like l k ≡ false = elim (cases_Bool (is_like l k)) [
          | inl same ↦ absurd (true≢false (sym (like_itself l) ∙ sym (alike l k same l) ∙ differ))
          | inr not_it ↦ not_it
        ] in
        let kept : others k (firsts ++ l ∷ []) ≡ others k firsts ++ l ∷ [] =
        filter-append (λ (m : Library). not (is_like k m)) firsts (l ∷ []) ∙ ap (λ (b : Bool). others k firsts ++ cond (not b) (l ∷ []) []) differ in
        let answer : is_among l front ≡ a =
        found_of (is_like l k) ∙ ap (λ (b : Bool). found b (is_among l (others k firsts))) apart ∙ among-others k l differ firsts ∙ is in
        right a kept ∙ sym (ap (λ (b : Bool). cond b front (front ++ l ∷ [])) answer)
      where
        right : (a : Bool) → others k (firsts ++ l ∷ []) ≡ others k firsts ++ l ∷ [] → k ∷ others k (cond a firsts (firsts ++ l ∷ [])) ≡ cond a front (front ++ l ∷ [])
        right true kept = refl
        right false kept = ap (λ (ls : List Library). k ∷ ls) kept

-- so they go on being each once, where one more is added only if none of its name and version is among them
pub once-more : (ls before after : List Library) (k : Library) (old new : List Library) → after ≡ before ++ k ∷ [] → old ≡ each_once (ls ++ before)
    → new ≡ cond (is_among k old) old (old ++ k ∷ []) → new ≡ each_once (ls ++ after)
once-more ls before after k old new grown so_far is =
    is
    ∙ ap (λ (found : List Library). cond (is_among k found) found (found ++ k ∷ [])) so_far
    ∙ sym (each_once-push (ls ++ before) k)
    ∙ ap each_once (append_assoc ls before (k ∷ []) ∙ ap (λ (more : List Library). ls ++ more) (sym grown))

-- Libraries that are shared

-- no library differs from the list's where the first that differs is none
pub none_differs : (es : Releases) (l : Library) (ls : List Library) → first_different es (l ∷ ls) ≡ None → (differs es l ≡ false) × (first_different es ls ≡ None)
none_differs es l ls none = go (differs es l) none
  where
    go : (b : Bool) → cond b (Some l) (first_different es ls) ≡ None → (b ≡ false) × (first_different es ls ≡ None)
    go false none = (refl, none)
    go true none = cc

-- what holds of each holds of the one that is found
module _ (P : Library → Type 0) where
  pub all_found : (test : Library → Bool) (ls : List Library) → AllByRecursion P ls → (k : Library) → find test ls ≡ Some k → P k
  all_found test [] all k is = absurd cc
  all_found test (l ∷ ls) all k is = go (test l) (all_found test ls all.1 k) is
    where
      go : (b : Bool) → (find test ls ≡ Some k → P k) → cond b (Some l) (find test ls) ≡ Some k → P k
      go true behind is = let same : l ≡ k = cc is in subst P same all.0
      go false behind is = behind is

-- so what doesn't differ from the list's is the list's
pub own_library : (es : Releases) (l : Library) → AllByRecursion IsLibrary (libraries_named es) → IsLibrary l → differs es l ≡ false
    → unwrap_or (library_in es l.app.name l.app.vsn) l ≡ l
own_library es l all is same = go (library_in es l.app.name l.app.vsn) (all_found IsLibrary (is_at l.app.name l.app.vsn) (libraries_named es) all) same
  where
    agree : (b : Bool) → not b ≡ false → b ≡ true
    agree true e = refl
    agree false e = absurd (true≢false e)

    go : (o : Option Library) → ((k : Library) → o ≡ Some k → IsLibrary k) → not (agrees o l) ≡ false → unwrap_or o l ≡ l
    go None found same = refl
    go (Some k) found same = (same_libraries k l (found k refl) is).0 (agree (is_same_library k l) same)

-- libraries of which none differs from the list's are shared as themselves
pub shared_own : (es : Releases) (ls : List Library) → AllByRecursion IsLibrary (libraries_named es) → AllByRecursion IsLibrary ls → first_different es ls ≡ None
    → shared es ls ≡ ls
shared_own es [] all are none = refl
shared_own es (l ∷ ls) all are none =
    let (same, rest) = none_differs es l ls none in
    let here = own_library es l all are.0 same in
    let behind = shared_own es ls all are.1 rest in
    λ j. here j ∷ behind j

-- what holds of each library of two lists holds of each of both
pub all-append : (P : Library → Type 0) (ls ks : List Library) → AllByRecursion P ls → AllByRecursion P ks → AllByRecursion P (ls ++ ks)
all-append P [] ks all also = also
all-append P (l ∷ ls) ks all also = (all.0, all-append P ls ks all.1 also)
