-- What start_app answers, and what it leaves.
use Rattle.std.specs.Prelude.{◌≡◌, ℕ, ◌<◌, ◌≤◌, List, [], ◌∷◌, ◌++◌, length, map, Option, Some, None, IsSome, Result, Ok, Err, Vec, vec_capacity}
use Rattle.std.specs.declared.alloc.Global.{Global}
use Rattle.proc_table.specs.declared.view.View.{View}
use Rattle.proc_table.specs.Free.{free_count}
use Rattle.started_members.specs.Tables.{Tables}
use Rattle.app_members.specs.declared.error.MembersError.{MembersError}
use Rattle.app_members.specs.declared.error.MembersError.TheVariants as members
use Rattle.app_members.specs.declared.walk.NewMember as lent
use Rattle.app_members.specs.InMemory.{FaultIs, new_members_of}
use Rattle.sup_tree.specs.declared.begins.NewApp.{NewApp}
use Rattle.sup_tree.specs.declared.error.StartError.{StartError}
use Rattle.sup_tree.specs.declared.error.StartError.TheVariants.{AlreadyStarted, NoTable, Unsupported, NoSlot, NoMemory}
use Rattle.started_members.specs.declared.member.StartedProcess.{StartedProcess}
use Rattle.app_members.specs.Walk.{NewMember, StartFault, app_fault, app_members, app_starts}
use Rattle.app_members.specs.Walk.StartFault.{no_table, unsupported}
use Rattle.sup_tree.specs.Tree.{App, app_named}
use Rattle.started_members.specs.Members.{pids_of}
use Rattle.started_members.specs.Begins.{BeganInOrder, members_at}
use Rattle.started_members.specs.Preparations.{AllBegan, preparation_of}

-- why it isn't started, where it has no members
abbrev pub members_cause : MembersError → StartError
members_cause (members.NoTable m) = NoTable m
members_cause members.Unsupported = Unsupported
members_cause members.NoMemory = NoMemory

-- an error is this fault, or that no memory was left
abbrev pub StartFaultIs : StartError → Option StartFault → Type 0
StartFaultIs (NoTable m) f = f ≡ Some (no_table m.now)
StartFaultIs Unsupported f = f ≡ Some unsupported
StartFaultIs NoMemory f = Unit {0}
StartFaultIs e f = ⊥

-- The members of an application, if nothing is wrong with it, and if there are no more than so many processes among them.
abbrev pub AnswersMembers : ℕ → Tables → Option (List ℕ) → Result (Vec lent.NewMember Global) StartError → Type 0
AnswersMembers most tables top (Ok ms) = (app_fault tables top ≡ None) × (new_members_of ms.items ≡ app_members tables top) × (length (app_starts tables top) ≤ most)
AnswersMembers most tables top (Err NoSlot) = (app_fault tables top ≡ None) × (most < length (app_starts tables top))
AnswersMembers most tables top (Err e) = StartFaultIs e (app_fault tables top)

-- There is room for the members of an application, and none of them stands yet.
pub record HasRoom (new : NewApp) : Type 0 where
  pub none : new.members.items ≡ []
  pub room : length new.prepared.items ≤ vec_capacity new.members

-- All memory is there that an application of this name needs to start with these members.
pub record IsReady (name : List ℕ) (ms : List NewMember) (new : NewApp) : Type 0 where
  pub named : new.name ≡ name
  pub prepared : new.prepared.items ≡ map (preparation_of name) ms
  pub room : HasRoom new

-- The application is ready to start, if nothing is wrong with it.
abbrev pub PreparesApp : List ℕ → Option (List ℕ) → Tables → Result NewApp MembersError → Type 0
PreparesApp name top tables (Ok new) = (app_fault tables top ≡ None) × IsReady name (app_members tables top) new
PreparesApp name top tables (Err e) = FaultIs e (app_fault tables top)

-- The members of an application began one after another, and it stands so.
pub record AppBegan (new : NewApp) (v : View) (app : App) (w : View) : Type 0 where
  pub named : app.name ≡ new.name
  pub began : AllBegan new.prepared.items v app.members w

-- All that the application starts began, and it is started, after those that were, with its members.
pub record AppStarted (name : List ℕ) (top : Option (List ℕ)) (tables : Tables) (apps : List App) (v : View) (apps' : List App) (w : View) : Type 0 where
  pub new : app_named name apps ≡ None
  pub sound : app_fault tables top ≡ None
  pub processes : List StartedProcess
  pub began : BeganInOrder name (app_starts tables top) v processes w
  pub tree : apps' ≡ apps ++ record { name = name; members = members_at (app_members tables top) (pids_of processes) } ∷ []

-- why it isn't started, where a process can begin in so many slots; memory is asked for only where it isn't started yet
abbrev pub IsWhy : StartError → List ℕ → Option (List ℕ) → Tables → List App → ℕ → Type 0
IsWhy AlreadyStarted name top tables apps room = IsSome (app_named name apps)
IsWhy (NoTable m) name top tables apps room = (app_named name apps ≡ None) × (app_fault tables top ≡ Some (no_table m.now))
IsWhy Unsupported name top tables apps room = (app_named name apps ≡ None) × (app_fault tables top ≡ Some unsupported)
IsWhy NoSlot name top tables apps room = (app_named name apps ≡ None) × (app_fault tables top ≡ None) × (room < length (app_starts tables top))
IsWhy NoMemory name top tables apps room = app_named name apps ≡ None

-- The application is started; or nothing is, no process has begun, and nothing was added to any history.
abbrev pub StartsApp : {X : Type 0} → List ℕ → Option (List ℕ) → Tables → List App → View → Result X StartError → List App → View → Type 0
StartsApp name top tables apps v (Ok x) apps' w = AppStarted name top tables apps v apps' w
StartsApp name top tables apps v (Err e) apps' w = IsWhy e name top tables apps (free_count v) × (apps' ≡ apps) × (w ≡ v)
