-- The courses of processes where a child of a supervisor is terminated, or deleted (OTP: supervisor:terminate_child/2 and
-- delete_child/2).
use Rattle.std.specs.Prelude.{◌≡◌, ◌≢◌, ℕ, ◌<◌, Bool, true, false, List, [], ◌∷◌, if◌then◌else◌, Option, Some, None, Result, Ok, Err}
use Rattle.std.specs.Option.{option_map_or}
use Rattle.proc_table.specs.declared.pid.Pid.{Pid}
use Rattle.proc_table.specs.declared.view.View.{View}
use Rattle.proc_table.specs.Agrees.{slots}
use Rattle.proc_table.specs.Views.{seen}
use Rattle.proc_table.specs.Waits.{HasTaken}
use Rattle.started_members.specs.declared.looks.Kept.{Kept}
use Rattle.started_members.specs.declared.looks.Stay.{Stay}
use Rattle.started_members.specs.declared.looks.Stay.TheVariants.{Up}
use Rattle.started_members.specs.declared.member.MemberState.{MemberState}
use Rattle.started_members.specs.declared.member.MemberState.TheVariants.{Ended, Process, Supervisor}
use Rattle.started_members.specs.Places.{Place}
use Rattle.sup_tree.specs.Children.{child_deleted, child_members, child_place, child_terminated, has_one_supervisor}
use Rattle.started_members.specs.Looks.{kept_at, process_stays}
use Rattle.sup_tree.specs.Tree.{App}
use Rattle.started_members.specs.Members.{pids_of, processes_among}
use Rattle.held_processes.specs.Applications.{Scene, all_stopped}
use Rattle.held_processes.specs.declared.children.HeldEnd.{HeldEnd}
use Rattle.held_processes.specs.declared.children.HeldEnd.TheVariants.{Stays, GivenUp, NotHeld}
use Rattle.held_processes.specs.Course.{Courses, if_held}
use Rattle.held_processes.specs.Course.Hold.{not_held}
use Rattle.held_processes.specs.Following.{AllFollow, AreLonger, HeldSlots, Stand}
use Rattle.held_processes.specs.Operations.{Values, give_up_at, now_in, values_seen}

-- the child of this id of the supervisor of this module is terminated, if it has such a child
abbrev pub with_terminated : List ℕ → List ℕ → Scene → Scene
with_terminated name id s = record s {
  apps = child_terminated name id s.apps;
  courses = all_stopped s.values (pids_of (processes_among (child_members name id s.apps))) s.courses;
}

-- The child is terminated.
pub record IsTerminatedIn (first : View) (name id : List ℕ) (s : Scene) (apps : List App) (hs : HeldSlots) (w : View) : Type 0 where
  pub one : has_one_supervisor name s.apps ≡ true
  pub tree : apps ≡ (with_terminated name id s).apps
  pub follow : AllFollow first (with_terminated name id s).courses hs w

-- The child is terminated, or nothing was done: not exactly one supervisor of the module is started.
abbrev pub TerminatesIn : {X E : Type 0} → View → List ℕ → List ℕ → Scene → Result X E → List App → HeldSlots → View → Type 0
TerminatesIn first name id s (Ok x) apps hs w = IsTerminatedIn first name id s apps hs w
TerminatesIn first name id s (Err e) apps hs w = (has_one_supervisor name s.apps ≡ false) × (apps ≡ s.apps) × AllFollow first s.courses hs w

-- whether what stands for a child stays, where this stands in the slots
abbrev pub state_stays : Kept → Values → MemberState → Bool
state_stays kept values Ended = false
state_stays kept values (Process q) = process_stays kept q.pid (values q.pid.slot)
state_stays kept values (Supervisor m) = true

-- whether nothing is to be done to a child: it stays, or there is none
abbrev pub child_stays : Stay → Values → Option Place → Bool
child_stays stay values None = true
child_stays stay values (Some p) = state_stays (kept_at stay p.child.restart) values p.child.state

-- Of each slot the handler has seen the history up to here.
abbrev pub AreSeen : View → Courses → View → Type 0
AreSeen first cs v = (p : ℕ) → p < slots → Stand first.lent (seen first p) (cs p).blocks (seen v p)

-- The slot of what stands for a child was taken between these two moments, if that is a process which isn't held.
abbrev pub IsStateTaken : Courses → MemberState → View → View → Type 0
IsStateTaken cs (Process q) v w = (cs q.pid.slot).hold ≡ not_held → HasTaken q.pid.slot v w
IsStateTaken cs m v w = Unit {0}

abbrev pub IsChildTaken : Courses → Option Place → View → View → Type 0
IsChildTaken cs None v w = Unit {0}
IsChildTaken cs (Some p) v w = IsStateTaken cs p.child.state v w

-- Whether a child stays, by histories that the handler has seen: after those that it had seen before, and in front of those that
-- it has seen now. Its slot was taken between these. One that stays does so by what the handler has seen now.
abbrev pub IsStay : View → Stay → Courses → Option Place → Bool → View → View → Type 0
IsStay first stay cs o stays v w =
    (u : View) × AreSeen first cs u × (stays ≡ child_stays stay (now_in (values_seen u) cs) o) × AreLonger v u × AreLonger u w
    × IsChildTaken cs o v w × (stays ≡ true → child_stays stay (now_in (values_seen w) cs) o ≡ true)

-- where the process of a child is, if one stands for it
abbrev pub child_pids : Option Place → List Pid
child_pids o = option_map_or (λ (p : Place). pids_of (processes_among (p.child ∷ []))) o []

-- the child of this id of the supervisor of this module is deleted, if it has such a child
abbrev pub with_deleted : List ℕ → List ℕ → Scene → Scene
with_deleted name id s = record s {
  apps = child_deleted name id s.apps;
  courses = all_stopped s.values (child_pids (child_place name id s.apps)) s.courses;
}

-- The child stays, or it is deleted.
pub record IsDeletedIn (first : View) (name id : List ℕ) (s : Scene) (stays : Bool) (apps : List App) (hs : HeldSlots) (v w : View) : Type 0 where
  pub one : has_one_supervisor name s.apps ≡ true
  pub stay : IsStay first Up s.courses (child_place name id s.apps) stays v w
  pub tree : apps ≡ (if stays then s.apps else (with_deleted name id s).apps)
  pub follow : AllFollow first (if stays then s.courses else (with_deleted name id s).courses) hs w

-- The child stays or is deleted, or nothing was done: not exactly one supervisor of the module is started.
abbrev pub DeletesIn : {E : Type 0} → View → List ℕ → List ℕ → Scene → Result Bool E → List App → HeldSlots → View → View → Type 0
DeletesIn first name id s (Ok stays) apps hs v w = IsDeletedIn first name id s stays apps hs v w
DeletesIn first name id s (Err e) apps hs v w = (has_one_supervisor name s.apps ≡ false) × (apps ≡ s.apps) × AllFollow first s.courses hs w

-- whether a process that is held stays
abbrev pub held_stays : Kept → Pid → Values → Courses → Bool
held_stays kept pid seen cs = process_stays kept pid (now_in seen cs pid.slot)

-- Whether it is held, and stays then, is reported of each start and courses that were followed.
abbrev pub ReportsStay : Kept → Pid → HeldSlots → Option Bool → Type 0
ReportsStay kept pid hs o = (first : View) (cs : Courses) (v : View) → AllFollow first cs hs v → o ≡ if_held (cs pid.slot).hold (Some (held_stays kept pid (values_seen v) cs)) None

-- What became of a process that may be held: it is held and stays, or it was held and is given up and let go, or it isn't held.
-- Where it wasn't given up, nothing was seen.
abbrev pub ProcessEndsHeld : View → Kept → Pid → Courses → View → HeldEnd → HeldSlots → View → Type 0
ProcessEndsHeld first kept pid cs v Stays hs w =
    (held_stays kept pid (values_seen v) cs ≡ true) × ((cs pid.slot).hold ≢ not_held) × AllFollow first cs hs w × (w ≡ v)
ProcessEndsHeld first kept pid cs v GivenUp hs w =
    (held_stays kept pid (values_seen v) cs ≡ false) × ((cs pid.slot).hold ≢ not_held) × AllFollow first (give_up_at pid.slot cs) hs w
ProcessEndsHeld first kept pid cs v NotHeld hs w = ((cs pid.slot).hold ≡ not_held) × AllFollow first cs hs w × (w ≡ v)

-- What became of the process of a child that may be held, where one stands for the child. Without a process nothing is held.
abbrev pub StateEndsHeld : View → Kept → MemberState → Courses → View → HeldEnd → HeldSlots → View → Type 0
StateEndsHeld first kept (Process q) cs v e hs w = ProcessEndsHeld first kept q.pid cs v e hs w
StateEndsHeld first kept m cs v e hs w = (e ≡ NotHeld) × AllFollow first cs hs w

abbrev pub ChildEndsHeld : View → Stay → Option Place → Courses → View → HeldEnd → HeldSlots → View → Type 0
ChildEndsHeld first stay None cs v e hs w = (e ≡ NotHeld) × AllFollow first cs hs w
ChildEndsHeld first stay (Some p) cs v e hs w = StateEndsHeld first (kept_at stay p.child.restart) p.child.state cs v e hs w
