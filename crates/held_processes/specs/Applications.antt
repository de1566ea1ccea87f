-- The courses of processes where applications are started and stopped (OTP: application:start/1 and stop/1).
use Rattle.std.specs.Prelude.{◌≡◌, ℕ, zero, suc, ◌+◌, ◌<◌, ◌≤◌, ◌==◌, List, [], ◌∷◌, ◌++◌, length, reverse, is_some, Option, Some, None, if◌then◌else◌, Result, Ok, Err}
use Rattle.std.proofs.Common.{arith}
use Rattle.std.specs.Option.{option_map, option_or}
use Rattle.proc_history.specs.declared.beginning.Beginning.{Beginning}
use Rattle.proc_history.specs.declared.value.Value.{Value}
use Rattle.proc_history.specs.Events.Event.{begin, given_up}
use Rattle.proc_history.specs.Histories.{replay_from}
use Rattle.proc_history.specs.Values.{next_round}
use Rattle.proc_table.specs.declared.pid.Pid.{Pid}
use Rattle.proc_table.specs.declared.view.View.{View}
use Rattle.proc_table.specs.Agrees.{slots}
use Rattle.mod_table.specs.Tables.{Tables}
use Rattle.sup_tree.specs.declared.error.StartError.{StartError}
use Rattle.started_members.specs.declared.member.StartedProcess.{StartedProcess}
use Rattle.started_members.specs.Begins.{beginning_of, members_at}
use Rattle.started_members.specs.Ends.{stands}
use Rattle.sup_tree.specs.Tree.{App, app_named, app_pids, without}
use Rattle.sup_tree.specs.Starts.{IsWhy}
use Rattle.sup_tree.specs.Walk.{Start, app_fault, app_members, app_starts}
use Rattle.held_processes.specs.Course.{Courses, add_alone, added, if_held}
use Rattle.held_processes.specs.Operations.{Values, give_up_at, values_seen}
use Rattle.held_processes.specs.Following.{HeldSlots, AllFollow, Followed}

-- What the handler's own entries make of what stood in a slot, those that are pending too. Calls of others leave its round, and
-- whether a process stands there.
abbrev pub known : Values → Courses → ℕ → Value
known first cs p = replay_from (first p) (added (cs p).blocks ++ (cs p).pending)

-- the round with which a process can begin in a slot; none can where the handler holds the slot
abbrev pub round_in : Values → Courses → ℕ → Option ℕ
round_in first cs p = if_held (cs p).hold None (next_round (known first cs p))

-- in how many of so many lowest slots a process can begin
abbrev pub rounds_below : (ℕ → Option ℕ) → ℕ → ℕ
rounds_below rounds zero = 0
rounds_below rounds (suc n) = rounds_below rounds n + (if is_some (rounds n) then 1 else 0)

-- in how many slots a process can begin
abbrev pub room_in : Values → Courses → ℕ
room_in first cs = rounds_below (round_in first cs) slots

abbrev pub pid_at : (n : ℕ) → n < slots → Option ℕ → Option Pid
pid_at n inside round = option_map (λ r. record { slot = n; round = r; inside = inside }) round

-- the first of so many lowest slots in which a process can begin, with its round
abbrev pub lowest_below : (ℕ → Option ℕ) → (n : ℕ) → n ≤ slots → Option Pid
lowest_below rounds zero few = None
lowest_below rounds (suc n) few = option_or (lowest_below rounds n (omega (arith, few))) (pid_at n (omega (arith, few)) (rounds n))

-- the lowest slot in which a process can begin, with its round
abbrev pub lowest : (ℕ → Option ℕ) → Option Pid
lowest rounds = lowest_below rounds slots (omega arith)

-- none can begin in this slot any more
abbrev pub taken_at : ℕ → (ℕ → Option ℕ) → ℕ → Option ℕ
taken_at slot rounds p = if p == slot then None else rounds p

abbrev pub match_pid : Option Pid → (Pid → List Pid) → List Pid
match_pid None more = []
match_pid (Some pid) more = more pid

-- Where so many processes begin one after another: each in the lowest slot in which one can. There are fewer where none can.
abbrev pub pids_for : ℕ → (ℕ → Option ℕ) → List Pid
pids_for zero rounds = []
pids_for (suc n) rounds = match_pid (lowest rounds) (λ pid. pid ∷ pids_for n (taken_at pid.slot rounds))

-- a process begins in a slot
abbrev pub begun_at : Pid → Beginning → Courses → Courses
begun_at pid b cs p = if p == pid.slot then add_alone (begin pid.round b) (cs p) else cs p

-- processes of an application begin, each where it has its place
abbrev pub all_begun : List ℕ → List Start → List Pid → Courses → Courses
all_begun app (s ∷ ss) (pid ∷ pids) cs = all_begun app ss pids (begun_at pid (beginning_of app s) cs)
all_begun app ss pids cs = cs

-- a process that isn't held is given up, unless it was before
abbrev pub ended_at : Values → Pid → Courses → Courses
ended_at first pid cs p =
    if p == pid.slot then (if stands pid (known first cs p) then add_alone given_up (cs p) else cs p) else cs p

abbrev pub all_ended : Values → List Pid → Courses → Courses
all_ended first [] cs = cs
all_ended first (pid ∷ pids) cs = all_ended first pids (ended_at first pid cs)

-- the process that stands for a member is given up and let go, if it is held
abbrev pub state_ended : Option StartedProcess → Courses → Courses
state_ended None cs = cs
state_ended (Some p) cs = give_up_at p.pid.slot cs

-- the courses where the processes among these that are held are given up and let go
abbrev pub held_ended : List Pid → Courses → Courses
held_ended [] cs = cs
held_ended (pid ∷ pids) cs = held_ended pids (give_up_at pid.slot cs)

-- all processes of an application are given up: first those that are held, then the others, the last first
abbrev pub all_stopped : Values → List Pid → Courses → Courses
all_stopped first pids cs = all_ended first (reverse pids) (held_ended pids cs)

-- The started applications, and the courses of the processes since a script began, when this stood in the slots.
pub record Scene : Type 0 where
  pub values : Values
  pub apps : List App
  pub courses : Courses

-- what the handler follows, beside the applications that are started
abbrev pub scene_at : Followed → List App → Scene
scene_at followed apps = record { values = values_seen followed.first; apps = apps; courses = followed.courses }

-- where the processes of an application begin
abbrev pub places_for : Tables → Option (List ℕ) → Scene → List Pid
places_for tables top s = pids_for (length (app_starts tables top)) (round_in s.values s.courses)

-- an application is started, after those that are
abbrev pub with_started : List ℕ → Option (List ℕ) → Tables → Scene → Scene
with_started name top tables s =
    let pids = places_for tables top s in
    record s {
      apps = s.apps ++ record { name = name; members = members_at (app_members tables top) pids } ∷ [];
      courses = all_begun name (app_starts tables top) pids s.courses;
    }

abbrev pub with_stopped_app : List ℕ → Option App → Scene → Scene
with_stopped_app name None s = s
with_stopped_app name (Some a) s = record s { apps = without name s.apps; courses = all_stopped s.values (app_pids a) s.courses }

-- an application is stopped, if it is started
abbrev pub with_stopped : List ℕ → Scene → Scene
with_stopped name s = with_stopped_app name (app_named name s.apps) s

-- The application is started, and nothing else was done.
pub record IsStartedIn (first : View) (name : List ℕ) (top : Option (List ℕ)) (tables : Tables) (s : Scene) (apps : List App) (hs : HeldSlots) (w : View) : Type 0 where
  pub new : app_named name s.apps ≡ None
  pub sound : app_fault tables top ≡ None
  pub room : length (app_starts tables top) ≤ room_in s.values s.courses
  pub tree : apps ≡ (with_started name top tables s).apps
  pub follow : AllFollow first (with_started name top tables s).courses hs w

-- The application is started, or nothing was done.
abbrev pub StartsIn : {X : Type 0} → View → List ℕ → Option (List ℕ) → Tables → Scene → Result X StartError → List App → HeldSlots → View → Type 0
StartsIn first name top tables s (Ok x) apps hs w = IsStartedIn first name top tables s apps hs w
StartsIn first name top tables s (Err e) apps hs w =
    IsWhy e name top tables s.apps (room_in s.values s.courses) × (apps ≡ s.apps) × AllFollow first s.courses hs w
