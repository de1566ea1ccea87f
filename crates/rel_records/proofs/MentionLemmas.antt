-- The libraries of a list in order of first mention are the new ones of its releases, one release after another.
use Rattle.std.proofs.Common.{◌≡◌, inl, inr, Bool, true, false, cond, not, List, [], ◌∷◌, ◌++◌, length, filter, find, Option, Some, None, is_some, suc, refl, sym, ap, ◌∙◌, append-nil, append_assoc}
use Rattle.std.specs.Prelude.{◌&&◌}
use Rattle.std.specs.Option.{option_or}
use Rattle.std.specs.Str.{bytes_eq}
use Rattle.std.proofs.lemmas.List.Folds.{find-append}
use Rattle.rel_files.specs.Name.{AreDistinct}
use Rattle.rel_files.specs.Release.{Application}
use Rattle.library.specs.Library.{Library, AreLibrariesOf}
use Rattle.rel_list.specs.declared.status.Status.TheVariants.{Unpacked}
use Rattle.rel_list.specs.Releases.{Entry, Releases, each_once, libraries_named, library_in}
use Rattle.rel_list.proofs.LibraryLaws.{each_once-push, is_among, is_like, libraries-push, same_name}
use Rattle.rel_records.specs.Lists.{count_new}
use Rattle.rel_records.specs.Startable.{AreStartable}
use Rattle.rel_records.specs.Writing.{new_libraries}
use Rattle.rel_records.proofs.AgreementLemmas.{IsOneOf, like_back, names_of, unlike}
use Rattle.rel_records.proofs.CompletionLemmas.{looked_up}

-- those that aren't among others yet
abbrev pub new_among : List Library → List Library → List Library
new_among ks ls = filter (λ (l : Library). not (is_among l ks)) ls

-- what isn't taken away is found as before
found_among_others : (test keep : Library → Bool) → ((m : Library) → test m ≡ true → keep m ≡ true) → (ls : List Library) → find test (filter keep ls) ≡ find test ls
found_among_others test keep kept [] = refl
found_among_others test keep kept (l ∷ ls) = go (test l) refl (keep l) refl (found_among_others test keep kept ls)
  where
    go : (b : Bool) → test l ≡ b → (c : Bool) → keep l ≡ c → find test (filter keep ls) ≡ find test ls
        → find test (cond c (l ∷ filter keep ls) (filter keep ls)) ≡ cond b (Some l) (find test ls)
    go true is true also rest = ap (λ (b : Bool). cond b (Some l) (find test (filter keep ls))) is
    go true is false also rest = cc (also, kept l is)
    go false is true also rest = ap (λ (b : Bool). cond b (Some l) (find test (filter keep ls))) is ∙ rest
    go false is false also rest = rest

-- one that is like two is among those that are like either
not_like : (l k m : Library) → is_like l k ≡ false → is_like l m ≡ true → not (is_like k m) ≡ true
not_like l k m differ same = go (is_like k m) refl
  where
    go : (b : Bool) → is_like k m ≡ b → not b ≡ true
    go false is = refl
    go true is =
        let (name, vsn) = same_name k m is in
        let also : is_like l k ≡ true = (λ j. bytes_eq (sym name j) l.app.name && bytes_eq (sym vsn j) l.app.vsn) ∙ same in
        cc (also, differ)

-- each of them is among the first ones of each name and version
among_once : (l : Library) (ks : List Library) → is_among l (each_once ks) ≡ is_among l ks
among_once l [] = refl
among_once l (k ∷ ks) = go (is_like l k) refl (among_once l ks)
  where
    go : (b : Bool) → is_like l k ≡ b → is_among l (each_once ks) ≡ is_among l ks
        → is_some (cond b (Some k) (find (is_like l) (filter (λ (m : Library). not (is_like k m)) (each_once ks)))) ≡ is_some (cond b (Some k) (find (is_like l) ks))
    go true is rest = refl
    go false is rest = ap is_some (found_among_others (is_like l) (λ (m : Library). not (is_like k m)) (λ m. not_like l k m is) (each_once ks)) ∙ rest

-- no two of them have one name and version
abbrev pub AreApart : List Library → Type 0
AreApart [] = Unit {0}
AreApart (l ∷ ls) = ((k : Library) → IsOneOf k ls → is_like l k ≡ true → ⊥) × AreApart ls

pub apart_within : (apps : List Application) (ls : List Library) → AreDistinct (names_of apps) → AreLibrariesOf apps ls → AreApart ls
apart_within apps [] distinct are = tt
apart_within [] (l ∷ ls) distinct are = absurd are
apart_within (a ∷ apps) (l ∷ ls) distinct are = (λ k there like. unlike a apps l ls k distinct are there like, apart_within apps ls distinct.1 are.2)

-- one more that is like none of them leaves those that are new
none_like : (l : Library) (ks ls : List Library) → ((k : Library) → IsOneOf k ls → is_like l k ≡ true → ⊥) → new_among (ks ++ l ∷ []) ls ≡ new_among ks ls
none_like l ks [] never = refl
none_like l ks (k ∷ ls) never =
    (λ j. cond (not (same j)) (k ∷ new_among (ks ++ l ∷ []) ls) (new_among (ks ++ l ∷ []) ls))
    ∙ ap (λ (ms : List Library). cond (not (is_among k ks)) (k ∷ ms) ms) (none_like l ks ls (λ m there. never m (inr there)))
  where
    by : (o : Option Library) (b : Bool) → is_like k l ≡ b → is_some (option_or o (cond b (Some l) None)) ≡ is_some o
    by (Some m) b is = refl
    by None false is = refl
    by None true is = absurd (never k (inl refl) (like_back k l is))

    same : is_among k (ks ++ l ∷ []) ≡ is_among k ks
    same = ap is_some (find-append (is_like k) ks (l ∷ [])) ∙ by (find (is_like k) ks) (is_like k l) refl

pub once_more : (ks ls : List Library) → AreApart ls → each_once (ks ++ ls) ≡ each_once ks ++ new_among ks ls
once_more ks [] apart = ap each_once (append-nil ks) ∙ sym (append-nil (each_once ks))
once_more ks (l ∷ ls) apart =
    ap each_once (sym (append_assoc ks (l ∷ []) ls))
    ∙ once_more (ks ++ l ∷ []) ls apart.1
    ∙ (λ j. each_once-push ks l j ++ none_like l ks ls apart.0 j)
    ∙ ap (λ (b : Bool). cond b firsts (firsts ++ l ∷ []) ++ new_among ks ls) (among_once l ks)
    ∙ go (is_among l ks)
  where
    firsts : List Library
    firsts = each_once ks

    go : (b : Bool) → cond b firsts (firsts ++ l ∷ []) ++ new_among ks ls ≡ firsts ++ cond (not b) (l ∷ new_among ks ls) (new_among ks ls)
    go true = refl
    go false = append_assoc firsts (l ∷ []) (new_among ks ls)

-- a release that comes in unpacked
abbrev pub unset : Entry → Entry
unset e = record e { status = Unpacked }

-- the libraries that are new with releases which come in after a list, in their order
abbrev pub new_behind : Releases → Releases → List Library
new_behind es [] = []
new_behind es (e ∷ after) = new_libraries es e.libraries ++ new_behind (es ++ unset e ∷ []) after

pub named_more : (es : Releases) (e : Entry) (after : Releases) → libraries_named (es ++ unset e ∷ []) ++ libraries_named after ≡ libraries_named es ++ libraries_named (e ∷ after)
named_more es e after =
    ap (λ (ls : List Library). ls ++ libraries_named after) (libraries-push es (unset e)) ∙ append_assoc (libraries_named es) e.libraries (libraries_named after)

pub mentioned : (es after : Releases) → AreStartable after → each_once (libraries_named es) ++ new_behind es after ≡ each_once (libraries_named es ++ libraries_named after)
mentioned es [] startable = append-nil (each_once (libraries_named es)) ∙ ap each_once (sym (append-nil (libraries_named es)))
mentioned es (e ∷ after) startable =
    sym (append_assoc (each_once (libraries_named es)) (new_libraries es e.libraries) (new_behind (es ++ unset e ∷ []) after))
    ∙ ap (λ (ls : List Library). ls ++ new_behind (es ++ unset e ∷ []) after)
    (sym (once_more (libraries_named es) e.libraries (apart_within e.release.apps e.libraries startable.0.distinct startable.0.complete.libraries)) ∙ ap each_once (sym (libraries-push es (unset e))))
    ∙ mentioned (es ++ unset e ∷ []) after startable.1
    ∙ ap each_once (named_more es e after)

-- as many libraries are new with a release as its applications say
pub counted : (es : Releases) (apps : List Application) (ls : List Library) → AreLibrariesOf apps ls → count_new es apps ≡ length (new_libraries es ls)
counted es [] [] are = refl
counted es [] (l ∷ ls) are = absurd are
counted es (a ∷ apps) [] are = absurd are
counted es (a ∷ apps) (l ∷ ls) (is, at, are) =
    ap (λ (o : Option Library). length (cond (not (is_some o)) (a ∷ later) later)) (looked_up es a l at)
    ∙ go (library_in es l.app.name l.app.vsn) (counted es apps ls are)
  where
    later : List Application
    later = filter (λ (b : Application). not (is_some (library_in es b.name b.vsn))) apps

    go : (o : Option Library) → length later ≡ length (new_libraries es ls) → length (cond (not (is_some o)) (a ∷ later) later) ≡ length (cond (not (is_some o)) (l ∷ new_libraries es ls) (new_libraries es ls))
    go None same = ap suc same
    go (Some k) same = same
