-- What stop_app answers, and what it leaves.
use Rattle.std.specs.Prelude.{◌≡◌, ℕ, ◌<◌, List, length, map, remove, reverse, slice_index_or, Option, Some, None, Result, Ok, Err}
use Rattle.proc_table.specs.declared.view.View.{View}
use Rattle.sup_tree.specs.declared.tree.StartedApp.{StartedApp}
use Rattle.sup_tree.specs.Tree.{App, app_of, app_named, app_pids, without}
use Rattle.started_members.specs.Ends.{EndedInOrder}

-- The application was started, its processes were given up, the last first, and it isn't started any more.
pub record AppStopped (name : List ℕ) (apps : List App) (v : View) (apps' : List App) (w : View) : Type 0 where
  pub app : App
  pub there : app_named name apps ≡ Some app
  pub ended : EndedInOrder (reverse (app_pids app)) v w
  pub tree : apps' ≡ without name apps

-- The application is stopped, or isn't started.
abbrev pub StopsApp : {X E : Type 0} → List ℕ → List App → View → Result X E → List App → View → Type 0
StopsApp name apps v (Ok x) apps' w = AppStopped name apps v apps' w
StopsApp name apps v (Err e) apps' w = (app_named name apps ≡ None) × (apps' ≡ apps) × (w ≡ v)

-- the application of this name stands after so many others
pub record StandsAt (name : List ℕ) (apps : List StartedApp) (place : ℕ) : Type 0 where
  pub inside : place < length apps
  pub there : (d : StartedApp) → app_named name (map app_of apps) ≡ Some (app_of (slice_index_or apps place d))
  pub others : without name (map app_of apps) ≡ map app_of (remove apps place)

abbrev pub IsPlaceOf : List ℕ → List StartedApp → Option ℕ → Type 0
IsPlaceOf name apps None = app_named name (map app_of apps) ≡ None
IsPlaceOf name apps (Some place) = StandsAt name apps place
