-- What each record keeps of a list.
use Rattle.std.proofs.Common.{◌≡◌, ℕ, zero, suc, List, [], ◌∷◌, map, take, drop, Option, Some, subst}
use Rattle.std.specs.List.{AllByRecursion}
use Rattle.rel_files.specs.Release.{Release}
use Rattle.rel_files.proofs.Options.{chained}
use Rattle.relup_file.specs.Relup.{RelupForm}
use Rattle.library.specs.Library.{Library}
use Rattle.rel_list.specs.Releases.{Releases}
use Rattle.rel_list.specs.Event.{step}
use Rattle.rel_list.specs.Event.Event.{removed}
use Rattle.rel_records.specs.Lists.{all_come_in, added_by, assign_all, comes_in, count_new, made_by, own_status, taken_by}
use Rattle.rel_records.specs.Record.{Assignment, Imaged, Record, makes, adds, assigns, removes, images}
use Rattle.rel_records.proofs.StatusRecords.{set_so}

-- what holds of each holds of each of the first ones, and of each after them
all-take : {A : Type 0} (P : A → Type 0) (n : ℕ) (xs : List A) → AllByRecursion P xs → AllByRecursion P (take n xs)
all-take P zero xs all = tt
all-take P (suc n) [] all = tt
all-take P (suc n) (x ∷ xs) all = (all.0, all-take P n xs all.1)

all-drop : {A : Type 0} (P : A → Type 0) (n : ℕ) (xs : List A) → AllByRecursion P xs → AllByRecursion P (drop n xs)
all-drop P zero xs all = all
all-drop P (suc n) [] all = tt
all-drop P (suc n) (x ∷ xs) all = all-drop P n xs all.1

module _ (Q : Release → Option RelupForm → Type 0) (R : Library → Type 0) where
  -- this holds of the releases of a record with their relups, and that of its libraries
  abbrev pub IsOf : Record → Type 0
  IsOf (makes r ls o) = Q r o × AllByRecursion R ls
  IsOf (adds r ls o) = Q r o × AllByRecursion R ls
  IsOf (images xs ls) = AllByRecursion (λ (x : Imaged). Q x.release x.relup) xs × AllByRecursion R ls
  IsOf r = Unit {0}

  -- what holds after each event of a record, where it held before, holds after the record
  module _ (P : Releases → Type 0)
      (first : (r : Release) (ls : List Library) (o : Option RelupForm) (es next : Releases) → Q r o → AllByRecursion R ls → made_by r ls o es ≡ Some next → P es → P next)
      (further : (r : Release) (ls : List Library) (o : Option RelupForm) (es next : Releases) → Q r o → AllByRecursion R ls → added_by r ls o es ≡ Some next → P es → P next)
      (statuses : (given : List Assignment) (es next : Releases) → assign_all given es ≡ Some next → P es → P next)
      (left : (v : List ℕ) (es next : Releases) → step (removed v) es ≡ Some next → P es → P next) where
    one_comes_in : (x : Imaged) (ls : List Library) (es next : Releases) → Q x.release x.relup → AllByRecursion R ls → comes_in x ls es ≡ Some next → P es → P next
    one_comes_in x ls [] next of all e holds = first x.release ls x.relup [] next of all e holds
    one_comes_in x ls (f ∷ es) next of all e holds = further x.release ls x.relup (f ∷ es) next of all e holds

    each_comes_in : (xs : List Imaged) (ls : List Library) (es next : Releases) → AllByRecursion (λ (x : Imaged). Q x.release x.relup) xs → AllByRecursion R ls
        → all_come_in xs ls es ≡ Some next → P es → P next
    each_comes_in [] [] es next of all e holds = let same : es ≡ next = cc in subst P same holds
    each_comes_in [] (l ∷ ls) es next of all e holds = absurd cc
    each_comes_in (x ∷ xs) ls es next of all e holds =
        let n = count_new es x.release.apps in
        let (mid, came, rest) = chained (all_come_in xs (drop n ls)) (comes_in x (take n ls) es) next e in
        each_comes_in xs (drop n ls) mid next of.1 (all-drop R n ls all) rest (one_comes_in x (take n ls) es mid of.0 (all-take R n ls all) came holds)

    pub kept_behind : (r : Record) (es next : Releases) → IsOf r → taken_by r es ≡ Some next → P es → P next
    kept_behind (makes r ls o) es next of e holds = first r ls o es next of.0 of.1 e holds
    kept_behind (adds r ls o) es next of e holds = further r ls o es next of.0 of.1 e holds
    kept_behind (assigns given) es next of e holds = statuses given es next (set_so given es next e).0 holds
    kept_behind (removes v) es next of e holds = left v es next e holds
    kept_behind (images xs ls) [] next of e holds =
        let (mid, came, set) = chained (assign_all (map own_status xs)) (all_come_in xs ls []) next e in
        statuses (map own_status xs) mid next set (each_comes_in xs ls [] mid of.0 of.1 came holds)
    kept_behind (images xs ls) (f ∷ es) next of e holds = absurd cc
