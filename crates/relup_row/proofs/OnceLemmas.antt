-- The first mentions of modules are fetched, application by application: so no module is fetched twice, and those are fetched that
-- are mentioned.
use Rattle.std.proofs.Common.{◌≡◌, refl, sym, ap, subst, ◌∙◌, ℕ, Bool, true, false, cond, not, ◌&&◌, ◌||◌, List, [], ◌∷◌, ◌++◌, map, filter, All, bytes_eq, IsPermutation, arith}
use Rattle.std.specs.List.{AllByRecursion, IsDistinct}
use Rattle.std.proofs.lemmas.Bool.{not-true, false≢true, and_from, and_right}
use Rattle.std.proofs.lemmas.Cmp.{nat_list_eq_equiv}
use Rattle.std.proofs.lemmas.List.{map-append, length-map, get_or-map}
use Rattle.std.proofs.lemmas.List.Elements.{All-head, All-tail, All-cons, All-filter, All-from_recursion, recursion_from_All, filter_passes, filter_agree}
use Rattle.std.proofs.lemmas.List.Folds.{list_any_at}
use Rattle.std.proofs.lemmas.List.Sorted.{IsPermutation-refl, IsPermutation-trans, IsPermutation-map, IsPermutation-append_right, IsPermutation-filter_both, list_any-IsPermutation}
use Rattle.std.proofs.lemmas.Map.Keys.{IsDistinct-head, IsDistinct-tail, IsDistinct-cons, IsDistinct-IsPermutation}
use Rattle.std.proofs.lemmas.Map.Views.{any-filter_same}
use Rattle.std.proofs.lemmas.Slice.Eq.{bytes_eq-Decides}
use Rattle.relup_block.specs.Order.{is_among}
use Rattle.relup_row.specs.Fetches.{MentionForm, module_of, app_of, differs, firsts, modules_in, fetch, fetches}
use Rattle.relup_row.specs.Laws.{fetched, FetchesOnce, FetchesMentioned}
use Rattle.relup_row.proofs.FirstLemmas.{filter_both}

-- another name than this one
abbrev is_another : List ℕ → List ℕ → Bool
is_another name other = not (bytes_eq name other)

abbrev Apart : List ℕ → List ℕ → Type 0
Apart name other = bytes_eq name other ≡ false

-- Some of distinct names are distinct.
distinct_some : (test : List ℕ → Bool) (names : List (List ℕ)) → IsDistinct bytes_eq names → IsDistinct bytes_eq (filter test names)
distinct_some test [] distinct = distinct
distinct_some test (n ∷ names) distinct =
    go (test n) (All-from_recursion (Apart n) names (IsDistinct-head bytes_eq n names distinct)) (distinct_some test names (IsDistinct-tail bytes_eq n names distinct))
  where
    go : (b : Bool) → All (Apart n) names → IsDistinct bytes_eq (filter test names) → IsDistinct bytes_eq (cond b (n ∷ filter test names) (filter test names))
    go true apart more = IsDistinct-cons bytes_eq n _ (recursion_from_All (Apart n) _ (All-filter test (Apart n) names apart)) more
    go false apart more = more

-- The keys of first mentions
module _ (key : MentionForm → List ℕ) where
  abbrev keys : List MentionForm → List (List ℕ)
  keys ms = map key (firsts key ms)

  other_keys : (m : MentionForm) (ms : List MentionForm) → map key (filter (differs key m) ms) ≡ filter (is_another (key m)) (map key ms)
  other_keys m [] = refl
  other_keys m (n ∷ ms) = go (differs key m n) (other_keys m ms)
    where
      go : (b : Bool) → map key (filter (differs key m) ms) ≡ filter (is_another (key m)) (map key ms)
          → map key (cond b (n ∷ filter (differs key m) ms) (filter (differs key m) ms))
          ≡ cond b (key n ∷ filter (is_another (key m)) (map key ms)) (filter (is_another (key m)) (map key ms))
      go true more = ap (λ ks. key n ∷ ks) more
      go false more = more

  -- The keys of first mentions are distinct.
  distinct_keys : (ms : List MentionForm) → IsDistinct bytes_eq (keys ms)
  unfolding IsDistinct
  distinct_keys [] = tt
  distinct_keys (m ∷ ms) =
      let others = is_another (key m) in
      let passes = filter_passes others (keys ms) in
      subst (λ ks. IsDistinct bytes_eq (key m ∷ ks)) (sym (other_keys m (firsts key ms)))
      (IsDistinct-cons bytes_eq (key m) (filter others (keys ms))
      (recursion_from_All (Apart (key m)) _ (λ k d within. not-true (bytes_eq (key m) _) (passes k d within)))
      (distinct_some others (keys ms) (distinct_keys ms)))

  -- The keys of first mentions are those of all mentions.
  same_keys : (ms : List MentionForm) (name : List ℕ) → is_among name (keys ms) ≡ is_among name (map key ms)
  same_keys [] name = refl
  same_keys (m ∷ ms) name =
      let here = bytes_eq (key m) name in
      ap (λ ks. here || is_among name ks) (other_keys m (firsts key ms))
      ∙ ap (λ b. here || b) (any-filter_same (λ k. bytes_eq k name) (is_another (key m)) (not here) alike (keys ms))
      ∙ either here (is_among name (keys ms))
      ∙ ap (λ b. here || b) (same_keys ms name)
    where
      alike : (k : List ℕ) → bytes_eq k name ≡ true → is_another (key m) k ≡ is_another (key m) name
      alike k same = ap (is_another (key m)) ((bytes_eq-Decides k name).0 same)

      either : (b c : Bool) → (b || (not b && c)) ≡ (b || c)
      either true c = refl
      either false c = refl

  -- What holds of all mentions holds of the first ones.
  pub of_firsts : (P : MentionForm → Type 0) (ms : List MentionForm) → All P ms → All P (firsts key ms)
  of_firsts P [] h = h
  of_firsts P (m ∷ ms) h = All-cons P m _ (All-head P m ms h) (All-filter (differs key m) P (firsts key ms) (of_firsts P ms (All-tail P m ms h)))

-- A mention is of one of these applications.
abbrev IsOf : List (List ℕ) → MentionForm → Type 0
IsOf names m = is_among (app_of m) names ≡ true

-- the modules of the fetches of some mentions' applications
abbrev modules_of : List MentionForm → List MentionForm → List (List ℕ)
modules_of ms apps = fetched (map (λ (m : MentionForm). fetch ms m.app) apps)

-- The mentions of other applications than this one
module _ (app : List ℕ) where
  abbrev is_of_another : MentionForm → Bool
  is_of_another m = is_another app (app_of m)

  -- The mentions of other applications than this one have all modules that are mentioned of each of these others.
  modules_of_another : (other : List ℕ) → Apart app other → (ms : List MentionForm) → modules_in other (filter is_of_another ms) ≡ modules_in other ms
  modules_of_another other apart ms =
      ap (map module_of) (filter_both is_of_another has ms ∙ filter_agree _ has (λ m. both m (has m) refl) ms)
    where
      has : MentionForm → Bool
      has m = bytes_eq (app_of m) other

      both : (m : MentionForm) (b : Bool) → bytes_eq (app_of m) other ≡ b → (is_of_another m && b) ≡ b
      both m true e = and_from (is_of_another m) true (ap (is_another app) ((bytes_eq-Decides (app_of m) other).0 e) ∙ ap not apart) refl
      both m false e = and_right (is_of_another m) false refl

  modules_of_others : (ms apps : List MentionForm) → AllByRecursion (Apart app) (map app_of apps) → modules_of (filter is_of_another ms) apps ≡ modules_of ms apps
  modules_of_others ms [] apart = refl
  modules_of_others ms (a ∷ apps) apart = λ i. modules_of_another (app_of a) apart.0 ms i ++ modules_of_others ms apps apart.1 i

  -- Of the mentions of this application and of others, those that aren't of this one are of the others.
  are_of_others : (names : List (List ℕ)) (ms : List MentionForm) → All (IsOf (app ∷ names)) ms → All (IsOf names) (filter is_of_another ms)
  are_of_others names ms of k d within =
      other (bytes_eq app _) _ (All-filter is_of_another (IsOf (app ∷ names)) ms of k d within) (filter_passes is_of_another ms k d within)
    where
      other : (b c : Bool) → (b || c) ≡ true → not b ≡ true → c ≡ true
      other true c e n = absurd (false≢true n)
      other false c e n = e

-- The fetches of distinct applications have each mention's module once, if it is of one of these applications.
grouped : (ms apps : List MentionForm) → IsDistinct bytes_eq (map app_of apps) → All (IsOf (map app_of apps)) ms
    → IsPermutation (map module_of ms) (modules_of ms apps)
grouped [] [] distinct of = IsPermutation-refl []
grouped (m ∷ ms) [] distinct of = absurd (false≢true (of 0 m (omega arith)))
grouped ms (a ∷ apps) distinct of =
    let names = map app_of apps in
    let here = λ (m : MentionForm). bytes_eq (app_of m) (app_of a) in
    let others = filter (is_of_another (app_of a)) ms in
    IsPermutation-trans _ _ _
    (IsPermutation-map module_of _ _
    (IsPermutation-filter_both here (is_of_another (app_of a)) (λ m. ap not (nat_list_eq_equiv.symm (app_of a) (app_of m))) ms))
    (subst (λ ks. IsPermutation ks (modules_of ms (a ∷ apps))) (sym (map-append module_of (filter here ms) others))
    (IsPermutation-append_right (modules_in (app_of a) ms) _ _
    (subst (IsPermutation (map module_of others)) (modules_of_others (app_of a) ms apps (IsDistinct-head bytes_eq (app_of a) names distinct))
    (grouped others apps (IsDistinct-tail bytes_eq (app_of a) names distinct) (are_of_others (app_of a) names ms of)))))

-- The applications of the first mentions of modules have first mentions too.
of_mentioned : (ms : List MentionForm) → All (IsOf (keys app_of ms)) (firsts module_of ms)
of_mentioned ms k d within = same_keys app_of ms _ ∙ of_firsts module_of (IsOf (map app_of ms)) ms mentioned k d within
  where
    mentioned : All (IsOf (map app_of ms)) ms
    mentioned i e below =
        list_any_at (λ n. bytes_eq n _) (map app_of ms) i (app_of e) (omega (arith, length-map ms app_of))
        ((bytes_eq-Decides _ _).1 (get_or-map app_of ms i e (app_of e) below))

each_once : (ms : List MentionForm) → IsPermutation (keys module_of ms) (fetched (fetches ms))
each_once ms = grouped (firsts module_of ms) (firsts app_of ms) (distinct_keys app_of ms) (of_mentioned ms)

pub fetches_once : FetchesOnce
fetches_once ms = IsDistinct-IsPermutation bytes_eq nat_list_eq_equiv.symm _ _ (each_once ms) (distinct_keys module_of ms)

pub fetches_mentioned : FetchesMentioned
fetches_mentioned ms name = sym (list_any-IsPermutation _ _ _ (each_once ms)) ∙ same_keys module_of ms name
