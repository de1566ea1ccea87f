-- The children of started supervisors, by the module of the supervisor and the id of the child (OTP: supervisor,
-- terminate_child/2, delete_child/2). One that has ended is kept with its specification, unless it is temporary.
use Rattle.std.specs.Prelude.{◌≡◌, ℕ, ◌==◌, Bool, true, false, List, [], ◌∷◌, ◌<◌, length, map, reverse, slice_index_or, slice_set, Option, Some, None, if◌then◌else◌, Result, Ok, Err}
use Rattle.std.specs.List.{find, flat_map}
use Rattle.std.specs.Option.{option_and_then, option_map_or}
use Rattle.proc_table.specs.declared.view.View.{View}
use Rattle.started_members.specs.declared.member.Member.{Member}
use Rattle.started_members.specs.declared.looks.Stay.TheVariants.{Up}
use Rattle.sup_tree.specs.declared.tree.StartedApp.{StartedApp}
use Rattle.started_members.specs.Ends.{EndedInOrder}
use Rattle.sup_tree.specs.Tree.{App, app_of}
use Rattle.started_members.specs.Members.{pids_of, processes_among, supervises_in, supervisors_in}
use Rattle.started_members.specs.Places.{Place, child_in, with_below, Change, members_with, specification_kept, nothing_kept, ChildLookedAt, ChildEndedUnless}

-- whether exactly one supervisor of this module is started
abbrev pub has_one_supervisor : List ℕ → List App → Bool
has_one_supervisor name apps = length (flat_map (λ (a : App). supervisors_in name a.members) apps) == 1

-- the child of this id of the supervisor of this module, if it has such a child
abbrev pub child_place : List ℕ → List ℕ → List App → Option Place
child_place name id apps = option_and_then (λ (a : App). child_in name id a.members) (find (λ (a : App). supervises_in name a.members) apps)

-- that child, and those below it
abbrev pub child_members : List ℕ → List ℕ → List App → List Member
child_members name id apps = option_map_or with_below (child_place name id apps) []

abbrev pub app_with : Change → List ℕ → List ℕ → App → App
app_with f name id a = record a { members = members_with f name id a.members }

-- so it is in the first application with a supervisor of this module
abbrev pub apps_with : Change → List ℕ → List ℕ → List App → List App
apps_with f name id [] = []
apps_with f name id (a ∷ as') = if supervises_in name a.members then app_with f name id a ∷ as' else a ∷ apps_with f name id as'

-- the child has ended, and those below it
abbrev pub child_terminated : List ℕ → List ℕ → List App → List App
child_terminated = apps_with specification_kept

-- the child is gone with its specification
abbrev pub child_deleted : List ℕ → List ℕ → List App → List App
child_deleted = apps_with nothing_kept

-- The processes of the child were given up, the last first.
pub record ChildTerminated (name id : List ℕ) (apps : List App) (v : View) (apps' : List App) (w : View) : Type 0 where
  pub one : has_one_supervisor name apps ≡ true
  pub ended : EndedInOrder (reverse (pids_of (processes_among (child_members name id apps)))) v w
  pub tree : apps' ≡ child_terminated name id apps

-- A child is terminated, or the module hasn't exactly one supervisor.
abbrev pub TerminatesChild : {X E : Type 0} → List ℕ → List ℕ → List App → View → Result X E → List App → View → Type 0
TerminatesChild name id apps v (Ok x) apps' w = ChildTerminated name id apps v apps' w
TerminatesChild name id apps v (Err e) apps' w = (has_one_supervisor name apps ≡ false) × (apps' ≡ apps) × (w ≡ v)

-- The child stays, or it is gone with its specification.
pub record ChildDeleted (name id : List ℕ) (apps : List App) (v : View) (stays : Bool) (apps' : List App) (w : View) : Type 0 where
  pub one : has_one_supervisor name apps ≡ true
  pub look : View
  pub looked : ChildLookedAt Up (child_place name id apps) stays v look
  pub ended : ChildEndedUnless stays (child_place name id apps) look w
  pub tree : apps' ≡ (if stays then apps else child_deleted name id apps)

-- A child is deleted, unless it stays; or the module hasn't exactly one supervisor.
abbrev pub DeletesChild : {E : Type 0} → List ℕ → List ℕ → List App → View → Result Bool E → List App → View → Type 0
DeletesChild name id apps v (Ok stays) apps' w = ChildDeleted name id apps v stays apps' w
DeletesChild name id apps v (Err e) apps' w = (has_one_supervisor name apps ≡ false) × (apps' ≡ apps) × (w ≡ v)

-- The first application with a supervisor of this module stands after so many others.
pub record SupervisesAt (name : List ℕ) (apps : List StartedApp) (place : ℕ) : Type 0 where
  pub inside : place < length apps
  pub there : (d : StartedApp) → find (λ (a : App). supervises_in name a.members) (map app_of apps) ≡ Some (app_of (slice_index_or apps place d))
  pub changed : (f : Change) (id : List ℕ) (b : StartedApp) → app_of b ≡ app_with f name id (app_of (slice_index_or apps place b))
      → map app_of (slice_set apps place b) ≡ apps_with f name id (map app_of apps)

-- where it stands; or no application has such a supervisor
abbrev pub IsPlaceOfSuper : List ℕ → List StartedApp → Option ℕ → Type 0
IsPlaceOfSuper name apps None = find (λ (a : App). supervises_in name a.members) (map app_of apps) ≡ None
IsPlaceOfSuper name apps (Some place) = SupervisesAt name apps place

-- where the only one stands; or not exactly one supervisor of the module is started
abbrev pub IsPlaceOfOnlySuper : List ℕ → List StartedApp → Option ℕ → Type 0
IsPlaceOfOnlySuper name apps None = has_one_supervisor name (map app_of apps) ≡ false
IsPlaceOfOnlySuper name apps (Some place) = (has_one_supervisor name (map app_of apps) ≡ true) × SupervisesAt name apps place
