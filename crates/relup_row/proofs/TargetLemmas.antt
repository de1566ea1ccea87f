-- What is fetched is of the target of a way.
use Rattle.std.proofs.Common.{◌≡◌, refl, ap, sym, subst, ◌∙◌, ℕ, Bool, true, false, cond, IsTrue, List, [], ◌∷◌, map, filter, flat_map, find, Option, None, Some, option_map, IfSome, bytes_eq}
use Rattle.std.proofs.lemmas.Slice.Eq.{bytes_eq-Decides}
use Rattle.std.proofs.lemmas.List.Elements.{All-from_recursion, recursion_from_All}
use Rattle.std.proofs.lemmas.Map.Keys.{IsDistinct-head, IsDistinct-tail}
use Rattle.std.specs.List.{AllByRecursion, IsDistinct}
use Rattle.relup_block.specs.Order.{is_among}
use Rattle.relup_row.specs.Release.{RelupAppForm, RelupReleaseForm, app_named, owner}
use Rattle.relup_row.specs.Fetches.{MentionForm, mention, module_of, app_of, firsts, modules_in, fetch}
use Rattle.relup_row.specs.Script.{loaded_by, mentions_by, mentions}
use Rattle.relup_row.specs.Laws.{IsFetchFrom, FetchesFromTarget}
use Rattle.relup_row.proofs.ListLemmas.{of_map, of_parts, of_options, trivially}
use Rattle.relup_row.proofs.OnceLemmas.{of_firsts}

-- The application is found among these by its name.
abbrev pub IsFoundIn : List RelupAppForm → RelupAppForm → Type 0
IsFoundIn apps a = find (λ (b : RelupAppForm). bytes_eq b.name a.name) apps ≡ Some a

behind : (x : RelupAppForm) (all xs : List RelupAppForm) → AllByRecursion (λ name. bytes_eq x.name name ≡ false) (map (λ (a : RelupAppForm). a.name) xs)
    → AllByRecursion (IsFoundIn all) xs → AllByRecursion (IsFoundIn (x ∷ all)) xs
behind x all [] other h = tt
behind x all (y ∷ ys) other h =
    (ap (λ (b : Bool). cond b (Some x) (find (λ (b : RelupAppForm). bytes_eq b.name y.name) all)) other.0 ∙ h.0, behind x all ys other.1 h.1)

-- Each application is found by its name, where all have names of their own.
pub all_found : (apps : List RelupAppForm) → IsDistinct bytes_eq (map (λ (a : RelupAppForm). a.name) apps) → AllByRecursion (IsFoundIn apps) apps
all_found [] h = tt
all_found (x ∷ xs) h =
    let names : List (List ℕ) = map (λ (a : RelupAppForm). a.name) xs in (
      ap (λ (b : Bool). cond b (Some x) (find (λ (b : RelupAppForm). bytes_eq b.name x.name) xs)) ((bytes_eq-Decides x.name x.name).1 refl),
      behind x xs xs (IsDistinct-head bytes_eq x.name names h) (all_found xs (IsDistinct-tail bytes_eq x.name names h)),
    )

-- What is found passes the test, and what holds of all holds of it.
found_one : {A : Type 0} (P : A → Type 0) (test : A → Bool) (xs : List A) (a : A) → AllByRecursion P xs → find test xs ≡ Some a → P a × IsTrue (test a)
found_one P test [] a h e = absurd cc
found_one P test (x ∷ xs) a h e = go (found_one P test xs a h.1) (test x) refl e
  where
    go : (find test xs ≡ Some a → P a × IsTrue (test a)) → (b : Bool) → test x ≡ b → cond b (Some x) (find test xs) ≡ Some a → P a × IsTrue (test a)
    go more true is q = let same : x ≡ a = cc in (subst P same h.0, ap test (sym same) ∙ is)
    go more false is q = more q

module _ (r : RelupReleaseForm) where
  -- The module is one of an application that is found by its name.
  record IsOwned (m : MentionForm) : Type 0 where
    found : IsFoundIn r.apps m.app
    own : IsTrue (is_among m.name m.app.modules)

  mention_owned : AllByRecursion (IsFoundIn r.apps) r.apps → (name : List ℕ) → IfSome (mention r name) IsOwned
  mention_owned all name = go (owner name r) refl
    where
      go : (o : Option RelupAppForm) → owner name r ≡ o → IfSome (option_map (λ (a : RelupAppForm). record { name = name; app = a }) o) IsOwned
      go None e = tt
      go (Some a) e =
          let there = found_one (IsFoundIn r.apps) (λ (b : RelupAppForm). is_among name b.modules) r.apps a all e in
          record { found = there.0; own = there.1 }

  abbrev is_of : RelupAppForm → MentionForm → Bool
  is_of a m = bytes_eq m.app.name a.name

  -- The modules that are fetched of an application are its own.
  own_modules : (m : MentionForm) → IsOwned m → (ns : List MentionForm) → AllByRecursion IsOwned ns
      → AllByRecursion (λ (name : List ℕ). IsTrue (is_among name m.app.modules)) (modules_in m.app.name ns)
  own_modules m is [] h = tt
  own_modules m is (n ∷ ns) h = go (bytes_eq n.app.name m.app.name) refl (own_modules m is ns h.1)
    where
      go : (b : Bool) → bytes_eq n.app.name m.app.name ≡ b → AllByRecursion (λ (name : List ℕ). IsTrue (is_among name m.app.modules)) (modules_in m.app.name ns)
          → AllByRecursion (λ (name : List ℕ). IsTrue (is_among name m.app.modules)) (map module_of (cond b (n ∷ filter (is_of m.app) ns) (filter (is_of m.app) ns)))
      go true e more =
          let both : Some n.app ≡ Some m.app =
          sym h.0.found ∙ (ap (λ (name : List ℕ). app_named name r) ((bytes_eq-Decides n.app.name m.app.name).0 e) ∙ is.found) in
          let same : n.app ≡ m.app = cc in
          (subst (λ (a : RelupAppForm). IsTrue (is_among n.name a.modules)) same h.0.own, more)
      go false e more = more

  fetched_from : (ms : List MentionForm) → AllByRecursion IsOwned ms → (m : MentionForm) → IsOwned m → IsFetchFrom r (fetch (firsts module_of ms) m.app)
  fetched_from ms h m is = record {
    app = m.app;
    named = is.found;
    version = refl;
    own = own_modules m is (firsts module_of ms) (recursion_from_All IsOwned _ (of_firsts module_of IsOwned ms (All-from_recursion IsOwned ms h)));
  }

-- All is fetched from the target.
pub fetches_from_target : FetchesFromTarget
fetches_from_target w rows distinct =
    let Owned = IsOwned w.target in
    let each = mention_owned w.target (all_found w.target.apps distinct) in
    let ms = flat_map (mentions w) rows in
    let all : AllByRecursion Owned ms =
    of_parts Owned (λ is. Unit {0}) (mentions w)
    (λ is any. of_parts Owned (λ i. Unit {0}) (mentions_by w) (λ i none. of_options Owned (λ name. Unit {0}) (mention w.target) (λ name nothing. each name) (loaded_by w i) (trivially (loaded_by w i)))
    is (trivially is)) rows (trivially rows) in
    of_map (IsFetchFrom w.target) Owned (λ (m : MentionForm). fetch (firsts module_of ms) m.app) (fetched_from w.target ms all) (firsts app_of ms)
    (recursion_from_All Owned _ (of_firsts app_of Owned ms (All-from_recursion Owned ms all)))
