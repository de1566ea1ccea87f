-- The application with the supervisor of a child.
use Rattle.std.proofs.Common.{◌≡◌, ℕ, suc, ◌+◌, ◌<◌, Bool, true, false, List, [], ◌∷◌, ◌++◌, length, map, take, drop, Option, Some, None, ◌==◌, ◌||◌, if◌then◌else◌, slice_index_or, slice_set, refl, ap, sym, ◌∙◌, arith}
use Rattle.std.specs.List.{filter, find, flat_map, list_any}
use Rattle.std.specs.Option.{option_and_then}
use Rattle.std.proofs.lemmas.List.{drop_more, get_or_read, map-append, set_split}
use Rattle.std.proofs.Math.Seq.{map-set_same}
use Rattle.sup_tree.specs.declared.tree.StartedApp.{StartedApp}
use Rattle.started_members.specs.Places.{Change, child_in, members_with}
use Rattle.sup_tree.specs.Children.{has_one_supervisor, IsPlaceOfOnlySuper, IsPlaceOfSuper, SupervisesAt, app_with, apps_with, child_place}
use Rattle.sup_tree.specs.Tree.{App, app_of}
use Rattle.started_members.specs.Members.{supervises_in, supervisors_in}

-- no application so far has a supervisor of the module
pub record NoneSoFar (name : List ℕ) (apps : List StartedApp) (place : ℕ) : Type 0 where
  pub found : find (λ (a : App). supervises_in name a.members) (map app_of apps) ≡ find (λ (a : App). supervises_in name a.members) (map app_of (drop place apps))
  pub left : (f : Change) (id : List ℕ) → apps_with f name id (map app_of apps) ≡ map app_of (take place apps) ++ apps_with f name id (map app_of (drop place apps))

-- this one has
pub super_here : (name : List ℕ) (apps : List StartedApp) (place : ℕ) (a : StartedApp) → place < length apps → a ≡ slice_index_or apps place a → supervises_in name a.members.items ≡ true
    → NoneSoFar name apps place → SupervisesAt name apps place
super_here name apps place a inside at super so_far =
    let rest = drop (place + 1) apps in
    let split : drop place apps ≡ a ∷ rest = drop_more apps place a inside ∙ ap (λ x. x ∷ rest) (sym at) in
    let next : suc place ≡ place + 1 = omega arith in
    let is = λ (d : StartedApp). get_or_read apps place a inside at d in
    record {
      inside = inside;
      there = λ d. so_far.found ∙ (ap (λ l. find (λ (x : App). supervises_in name x.members) (map app_of l)) split
          ∙ (ap (λ b. if b then Some (app_of a) else find (λ (x : App). supervises_in name x.members) (map app_of rest)) super ∙ ap (λ x. Some (app_of x)) (is d)));
      changed = λ f id b same.
          ap (map app_of) (set_split apps place b inside)
          ∙ (map-append app_of (take place apps) (b ∷ drop (suc place) apps)
          ∙ ((λ j. map app_of (take place apps) ++ (same ∙ ap (λ x. app_with f name id (app_of x)) (sym (is b))) j ∷ map app_of (drop (next j) apps))
          ∙ sym (so_far.left f id ∙ (ap (λ l. map app_of (take place apps) ++ apps_with f name id (map app_of l)) split
          ∙ ap (λ t. map app_of (take place apps) ++ (if t then app_with f name id (app_of a) ∷ map app_of rest else app_of a ∷ apps_with f name id (map app_of rest))) super))));
    }

none_kept : {A : Type 0} (p : A → Bool) (xs : List A) → list_any p xs ≡ false → filter p xs ≡ []
none_kept p [] none = refl
none_kept {A} p (x ∷ xs) none = go (p x) none (none_kept p xs)
  where
    go : (b : Bool) → (b || list_any p xs) ≡ false → (list_any p xs ≡ false → filter p xs ≡ []) → (if b then x ∷ filter p xs else filter p xs) ≡ []
    go true wrong later = absurd cc
    go false behind later = later behind

-- where no application has a supervisor of the module, none is started
no_supers : (name : List ℕ) (apps : List App) → find (λ (a : App). supervises_in name a.members) apps ≡ None → flat_map (λ (a : App). supervisors_in name a.members) apps ≡ []
no_supers name [] none = refl
no_supers name (a ∷ as') none = go (supervises_in name a.members) refl none (no_supers name as')
  where
    go : (b : Bool) → supervises_in name a.members ≡ b → (if b then Some a else find (λ (x : App). supervises_in name x.members) as') ≡ None
        → (find (λ (x : App). supervises_in name x.members) as' ≡ None → flat_map (λ (x : App). supervisors_in name x.members) as' ≡ [])
        → flat_map (λ (x : App). supervisors_in name x.members) (a ∷ as') ≡ []
    go true is wrong later = absurd cc
    go false is behind later = λ j. none_kept _ a.members is j ++ later behind j

-- so where exactly one is, its application has a place
pub only_super : (name : List ℕ) (apps : List StartedApp) (o : Option ℕ) → has_one_supervisor name (map app_of apps) ≡ true → IsPlaceOfSuper name apps o → IsPlaceOfOnlySuper name apps o
only_super name apps None one none = absurd (let wrong : false ≡ true = sym (ap (λ l. length l == 1) (no_supers name (map app_of apps) none)) ∙ one in cc)
only_super name apps (Some place) one at = (one, at)

-- the child is that of the application which was found
pub child_there : (name id : List ℕ) (apps : List StartedApp) (place : ℕ) (a : StartedApp) → SupervisesAt name apps place → a ≡ slice_index_or apps place a
    → child_in name id a.members.items ≡ child_place name id (map app_of apps)
child_there name id apps place a at is =
    ap (λ (x : StartedApp). child_in name id x.members.items) is ∙ sym (ap (option_and_then (λ (x : App). child_in name id x.members)) (at.there a))

-- that application changes as its child does
pub app_changed : (f : Change) (name id : List ℕ) (apps : List StartedApp) (place : ℕ) (a b : StartedApp) → SupervisesAt name apps place → a ≡ slice_index_or apps place a
    → app_of b ≡ app_with f name id (app_of a) → map app_of (slice_set apps place b) ≡ apps_with f name id (map app_of apps)
app_changed f name id apps place a b at is same =
    at.changed f id b (same ∙ ap (λ (x : StartedApp). app_with f name id (app_of x)) (get_or_read apps place a at.inside is b))

-- or stays as it is
pub changed_unless : (stays : Bool) (f : Change) (name id : List ℕ) (apps : List StartedApp) (place : ℕ) (a b : StartedApp) → SupervisesAt name apps place → a ≡ slice_index_or apps place a
    → app_of b ≡ (record (app_of a) { members = if stays then a.members.items else members_with f name id a.members.items })
    → map app_of (slice_set apps place b) ≡ (if stays then map app_of apps else apps_with f name id (map app_of apps))
changed_unless true f name id apps place a b at is same = map-set_same app_of apps place b a (same ∙ ap app_of is)
changed_unless false f name id apps place a b at is same = app_changed f name id apps place a b at is same
