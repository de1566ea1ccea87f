-- The courses of processes where a child of a supervisor begins again (OTP: supervisor:restart_child/2).
use Rattle.std.specs.Prelude.{◌≡◌, ℕ, ◌<◌, ◌≤◌, Bool, true, false, List, length, if◌then◌else◌, Option, Some, None, Result, Ok, Err}
use Rattle.proc_table.specs.declared.pid.Pid.{Pid}
use Rattle.proc_table.specs.declared.view.View.{View}
use Rattle.mod_table.specs.Tables.{Tables}
use Rattle.sup_tree.specs.Walk.{Start, starts_among}
use Rattle.sup_tree.specs.declared.error.RestartError.{RestartError}
use Rattle.sup_tree.specs.declared.error.RestartError.TheVariants.{NoSuper, NoSlot}
use Rattle.started_members.specs.declared.looks.Stay.TheVariants.{UpOrTemporary}
use Rattle.started_members.specs.declared.member.MemberState.{MemberState}
use Rattle.started_members.specs.declared.member.MemberState.TheVariants.{Process}
use Rattle.started_members.specs.Places.{Place, in_place}
use Rattle.sup_tree.specs.Children.{apps_with, child_place, has_one_supervisor}
use Rattle.sup_tree.specs.Restarts.{RestartFaultIs, super_app}
use Rattle.started_members.specs.Begins.{restart_fault, restart_members, members_at}
use Rattle.sup_tree.specs.Tree.{App}
use Rattle.held_processes.specs.declared.children.HeldEnd.{HeldEnd}
use Rattle.held_processes.specs.declared.children.HeldEnd.TheVariants.{GivenUp}
use Rattle.held_processes.specs.declared.restarts.NotRestarted.{NotRestarted}
use Rattle.held_processes.specs.Applications.{Scene, all_begun, all_stopped, pids_for, room_in, round_in}
use Rattle.held_processes.specs.Children.{IsStay, child_pids}
use Rattle.held_processes.specs.Course.{Courses}
use Rattle.held_processes.specs.Following.{AllFollow, HeldSlots}
use Rattle.held_processes.specs.Operations.{is_held}

-- whether what stood for a child was given up: it was held, or it was given up for want of slots
abbrev pub was_given_up : HeldEnd → RestartError → Bool
was_given_up GivenUp e = true
was_given_up end NoSlot = true
was_given_up end e = false

-- the courses where what stood for a child is given up
abbrev pub child_ended : Scene → Option Place → Courses
child_ended s o = all_stopped s.values (child_pids o) s.courses

-- the processes that begin with it
abbrev pub restart_starts : Tables → Place → List Start
restart_starts tables p = starts_among (restart_members tables p.child)

-- where they begin, once what stood for it is given up
abbrev pub restart_pids : Tables → Place → Scene → List Pid
restart_pids tables p s = pids_for (length (restart_starts tables p)) (round_in s.values (child_ended s (Some p)))

-- the child of this id of the supervisor of this module begins again
abbrev pub with_restarted : List ℕ → List ℕ → Tables → Place → Scene → Scene
with_restarted name id tables p s = record s {
  apps = apps_with (in_place (members_at (restart_members tables p.child) (restart_pids tables p s))) name id s.apps;
  courses = all_begun (super_app name s.apps) (restart_starts tables p) (restart_pids tables p s) (child_ended s (Some p));
}

-- The child stays, or there is none.
pub record IsKeptIn (first : View) (name id : List ℕ) (s : Scene) (apps : List App) (hs : HeldSlots) (v w : View) : Type 0 where
  pub one : has_one_supervisor name s.apps ≡ true
  pub stay : IsStay first UpOrTemporary s.courses (child_place name id s.apps) true v w
  pub tree : apps ≡ s.apps
  pub follow : AllFollow first s.courses hs w

-- The child began again.
pub record IsRestartedIn (first : View) (name id : List ℕ) (tables : Tables) (s : Scene) (apps : List App) (hs : HeldSlots) (v w : View) : Type 0 where
  pub one : has_one_supervisor name s.apps ≡ true
  pub place : Place
  pub there : child_place name id s.apps ≡ Some place
  pub stay : IsStay first UpOrTemporary s.courses (Some place) false v w
  pub sound : restart_fault tables place.child ≡ None
  pub room : length (restart_starts tables place) ≤ room_in s.values (child_ended s (Some place))
  pub tree : apps ≡ (with_restarted name id tables place s).apps
  pub follow : AllFollow first (with_restarted name id tables place s).courses hs w

-- why a child doesn't begin again
abbrev pub IsWhyItDidNot : RestartError → Tables → Place → Scene → Type 0
IsWhyItDidNot NoSlot tables p s = (restart_fault tables p.child ≡ None) × (room_in s.values (child_ended s (Some p)) < length (restart_starts tables p))
IsWhyItDidNot e tables p s = RestartFaultIs e (restart_fault tables p.child)

-- whether the process of a child is held, where one stands for it
abbrev pub is_held_state : MemberState → Courses → Bool
is_held_state (Process q) cs = is_held (cs q.pid.slot).hold
is_held_state m cs = false

-- whether what stood for a child that doesn't begin again is given up: its process is held, or there are too few slots
abbrev pub gives_up : RestartError → Place → Courses → Bool
gives_up NoSuper p cs = false
gives_up NoSlot p cs = true
gives_up e p cs = is_held_state p.child.state cs

-- The child didn't begin again. What stood for it may be given up all the same.
pub record IsNotRestartedIn (first : View) (name id : List ℕ) (tables : Tables) (s : Scene) (e : NotRestarted) (apps : List App) (hs : HeldSlots) (v w : View) : Type 0 where
  pub one : has_one_supervisor name s.apps ≡ true
  pub place : Place
  pub there : child_place name id s.apps ≡ Some place
  pub stay : IsStay first UpOrTemporary s.courses (Some place) false v w
  pub why : IsWhyItDidNot e.error tables place s
  pub tree : apps ≡ s.apps
  pub given_up : e.given_up ≡ gives_up e.error place s.courses
  pub follow : AllFollow first (if e.given_up then child_ended s (Some place) else s.courses) hs w

abbrev pub FailsToRestart : RestartError → View → List ℕ → List ℕ → Tables → Scene → NotRestarted → List App → HeldSlots → View → View → Type 0
FailsToRestart NoSuper first name id tables s e apps hs v w =
    (has_one_supervisor name s.apps ≡ false) × (e.given_up ≡ false) × (apps ≡ s.apps) × AllFollow first s.courses hs w
FailsToRestart x first name id tables s e apps hs v w = IsNotRestartedIn first name id tables s e apps hs v w

-- The child stays, or it began again, or why it didn't.
abbrev pub RestartsIn : View → List ℕ → List ℕ → Tables → Scene → Result Bool NotRestarted → List App → HeldSlots → View → View → Type 0
RestartsIn first name id tables s (Ok true) apps hs v w = IsKeptIn first name id s apps hs v w
RestartsIn first name id tables s (Ok false) apps hs v w = IsRestartedIn first name id tables s apps hs v w
RestartsIn first name id tables s (Err e) apps hs v w = FailsToRestart e.error first name id tables s e apps hs v w
