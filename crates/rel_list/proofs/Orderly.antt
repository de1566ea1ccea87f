-- What events keep of a list: distinct versions, and at most one release that is current or a one-shot.
use Rattle.std.proofs.Common.{◌≡◌, ℕ, ◌≤◌, Bool, true, false, cond, List, [], ◌∷◌, length, filter, Option, Some, None, is_some, refl, sym, ap, ◌∙◌, true≢false, find, arith}
use Rattle.std.specs.Option.{option_map}
use Rattle.std.specs.Str.{bytes_eq}
use Rattle.std.proofs.lemmas.Slice.Eq.{bytes_eq-Decides}
use Rattle.rel_list.specs.declared.status.Status.{Status}
use Rattle.rel_list.specs.Releases.{Releases, Entry, status_of, HasDistinctVersions}
use Rattle.rel_list.specs.Event.{with_statuses}

-- the releases of a version
abbrev pub of_version : List ℕ → Releases → Releases
of_version v es = filter (λ (e : Entry). bytes_eq v e.release.vsn) es

-- the status of the first release, or of one after it
abbrev pub status_or : Bool → Entry → Option Entry → Option Status
status_or b e behind = option_map (λ (f : Entry). f.status) (cond b (Some e) behind)

-- equal versions
pub same_version : (v w : List ℕ) → bytes_eq v w ≡ true → v ≡ w
same_version v w same = (bytes_eq-Decides v w).0 same

pub is_itself : (v : List ℕ) → bytes_eq v v ≡ true
is_itself v = (bytes_eq-Decides v v).1 refl

-- versions that differ, in the other order
pub differs_back : (v w : List ℕ) → bytes_eq v w ≡ false → bytes_eq w v ≡ false
differs_back v w differs = go (bytes_eq w v) refl
  where
    go : (b : Bool) → bytes_eq w v ≡ b → b ≡ false
    go false is = refl
    go true is = absurd (true≢false (sym (is_itself v) ∙ ap (bytes_eq v) (sym (same_version w v is)) ∙ differs))

-- where a list has no release of a version, its first is none
pub first_differs : (v : List ℕ) (e : Entry) (es : Releases) → status_of v (e ∷ es) ≡ None → bytes_eq v e.release.vsn ≡ false
first_differs v e es none = go (bytes_eq v e.release.vsn) none
  where
    go : (b : Bool) → status_or b e (find (λ (f : Entry). bytes_eq v f.release.vsn) es) ≡ None → b ≡ false
    go false none = refl
    go true none = cc

-- nor is there one after it
pub none_behind : (v : List ℕ) (e : Entry) (es : Releases) → status_of v (e ∷ es) ≡ None → status_of v es ≡ None
none_behind v e es none = go (bytes_eq v e.release.vsn) none
  where
    go : (b : Bool) → status_or b e (find (λ (f : Entry). bytes_eq v f.release.vsn) es) ≡ None → status_of v es ≡ None
    go false none = none
    go true none = cc

-- where neither is, there is none
pub none_at_all : (v : List ℕ) (e : Entry) (es : Releases) → bytes_eq v e.release.vsn ≡ false → status_of v es ≡ None → status_of v (e ∷ es) ≡ None
none_at_all v e es differs none = ap (λ b. status_or b e (find (λ (f : Entry). bytes_eq v f.release.vsn) es)) differs ∙ none

-- so the list without that version is the list
pub none_of_version : (v : List ℕ) (es : Releases) → status_of v es ≡ None → of_version v es ≡ []
none_of_version v [] none = refl
none_of_version v (e ∷ es) none =
    ap (λ b. cond b (e ∷ of_version v es) (of_version v es)) (first_differs v e es none) ∙ none_of_version v es (none_behind v e es none)

-- a version stands at most once
pub at_most_once : (v : List ℕ) (es : Releases) → HasDistinctVersions es → length (of_version v es) ≤ 1
at_most_once v [] distinct = omega arith
at_most_once v (e ∷ es) distinct = go (bytes_eq v e.release.vsn) refl (at_most_once v es distinct.1)
  where
    go : (b : Bool) → bytes_eq v e.release.vsn ≡ b → length (of_version v es) ≤ 1 → length (cond b (e ∷ of_version v es) (of_version v es)) ≤ 1
    go false is rest = rest
    go true is rest =
        let none : of_version v es ≡ [] = none_of_version v es (ap (λ w. status_of w es) (same_version v e.release.vsn is) ∙ distinct.0) in
        omega (arith, ap length none)

-- and exactly once where it is listed
pub exactly_once : (v : List ℕ) (es : Releases) → HasDistinctVersions es → is_some (status_of v es) ≡ true → length (of_version v es) ≡ 1
exactly_once v [] distinct listed = absurd (true≢false (sym listed))
exactly_once v (e ∷ es) distinct listed = go (bytes_eq v e.release.vsn) refl (exactly_once v es distinct.1) listed
  where
    go : (b : Bool) → bytes_eq v e.release.vsn ≡ b → (is_some (status_of v es) ≡ true → length (of_version v es) ≡ 1) → is_some (status_or b e (find (λ (f : Entry). bytes_eq v f.release.vsn) es)) ≡ true
        → length (cond b (e ∷ of_version v es) (of_version v es)) ≡ 1
    go false is rest listed = rest listed
    go true is rest listed =
        let none : of_version v es ≡ [] = none_of_version v es (ap (λ w. status_of w es) (same_version v e.release.vsn is) ∙ distinct.0) in
        omega (arith, ap length none)

-- one more on the left only where there is one more on the right
pub one_more : (a b : Bool) (x : Entry) (xs : Releases) (y : Entry) (ys : Releases) → (a ≡ true → b ≡ true) → length xs ≤ length ys
    → length (cond a (x ∷ xs) xs) ≤ length (cond b (y ∷ ys) ys)
one_more false false x xs y ys only rest = rest
one_more false true x xs y ys only rest = omega (arith, rest)
one_more true true x xs y ys only rest = omega (arith, rest)
one_more true false x xs y ys only rest = absurd (true≢false (sym (only refl)))

pub as_many : (a b : Bool) (x : Entry) (xs : Releases) (y : Entry) (ys : Releases) → a ≡ b → length xs ≡ length ys
    → length (cond a (x ∷ xs) xs) ≡ length (cond b (y ∷ ys) ys)
as_many false false x xs y ys same rest = rest
as_many true true x xs y ys same rest = omega (arith, rest)
as_many true false x xs y ys same rest = absurd (true≢false same)
as_many false true x xs y ys same rest = absurd (true≢false (sym same))

module _ (f : List ℕ → Status → Status) where
  -- other statuses leave the versions
  pub listed-with_statuses : (v : List ℕ) (es : Releases) → is_some (status_of v (with_statuses f es)) ≡ is_some (status_of v es)
  listed-with_statuses v [] = refl
  listed-with_statuses v (e ∷ es) = go (bytes_eq v e.release.vsn) (listed-with_statuses v es)
    where
      go : (b : Bool) → is_some (status_of v (with_statuses f es)) ≡ is_some (status_of v es)
          → is_some (status_or b (record e { status = f e.release.vsn e.status }) (find (λ (e : Entry). bytes_eq v e.release.vsn) (with_statuses f es)))
          ≡ is_some (status_or b e (find (λ (e : Entry). bytes_eq v e.release.vsn) es))
      go true rest = refl
      go false rest = rest

  pub unlisted-with_statuses : (v : List ℕ) (es : Releases) → status_of v es ≡ None → status_of v (with_statuses f es) ≡ None
  unlisted-with_statuses v es none = go (status_of v (with_statuses f es)) (listed-with_statuses v es ∙ ap is_some none)
    where
      go : (o : Option Status) → is_some o ≡ false → o ≡ None
      go None is = refl
      go (Some s) is = absurd (true≢false is)

  pub distinct-with_statuses : (es : Releases) → HasDistinctVersions es → HasDistinctVersions (with_statuses f es)
  distinct-with_statuses [] distinct = tt
  distinct-with_statuses (e ∷ es) distinct = (unlisted-with_statuses e.release.vsn es distinct.0, distinct-with_statuses es distinct.1)

  module _ (p q : Entry → Bool) where
    -- where only releases of one kind become ones of another, there are no more of these
    pub no_more : ((e : Entry) → p (record e { status = f e.release.vsn e.status }) ≡ true → q e ≡ true)
        → (es : Releases) → length (filter p (with_statuses f es)) ≤ length (filter q es)
    no_more only [] = omega arith
    no_more only (e ∷ es) = one_more (p (record e { status = f e.release.vsn e.status })) (q e) _ _ e _ (only e) (no_more only es)

    -- where those of one kind become those of another, there are as many of these
    pub just_as_many : ((e : Entry) → p (record e { status = f e.release.vsn e.status }) ≡ q e)
        → (es : Releases) → length (filter p (with_statuses f es)) ≡ length (filter q es)
    just_as_many same [] = refl
    just_as_many same (e ∷ es) = as_many (p (record e { status = f e.release.vsn e.status })) (q e) _ _ e _ (same e) (just_as_many same es)
