-- What restart_child answers, and what it leaves (OTP: supervisor, restart_child/2).
use Rattle.std.specs.Prelude.{◌≡◌, ℕ, ◌<◌, Bool, true, false, List, [], length, map, Option, Some, None, Result, Ok, Err, Vec, string_bytes}
use Rattle.std.specs.List.{find}
use Rattle.std.specs.Option.{option_map_or}
use Rattle.std.specs.declared.alloc.Global.{Global}
use Rattle.proc_table.specs.declared.view.View.{View}
use Rattle.proc_table.specs.Free.{free_count}
use Rattle.started_members.specs.Tables.{Tables}
use Rattle.app_members.specs.Walk.{StartFault, starts_among}
use Rattle.app_members.specs.Walk.StartFault.{no_table, unsupported}
use Rattle.started_members.specs.declared.begins.Preparation.{Preparation}
use Rattle.sup_tree.specs.declared.error.RestartError.{RestartError}
use Rattle.sup_tree.specs.declared.error.RestartError.TheVariants.{NoSuper, NoTable, Unsupported, NoSlot, NoMemory}
use Rattle.started_members.specs.declared.looks.Stay.TheVariants.{UpOrTemporary}
use Rattle.started_members.specs.declared.member.Member.{Member}
use Rattle.started_members.specs.declared.member.StartedProcess.{StartedProcess}
use Rattle.started_members.specs.Preparations.{preparation_of}
use Rattle.started_members.specs.Places.{ChildLookedAt, Place, child_in, in_place, replaced}
use Rattle.sup_tree.specs.Children.{app_with, apps_with, child_place, has_one_supervisor}
use Rattle.started_members.specs.Begins.{BeganInOrder, members_at, restart_fault, restart_members}
use Rattle.started_members.specs.Ends.{MemberEnded}
use Rattle.sup_tree.specs.Tree.{App}
use Rattle.started_members.specs.Members.{pids_of, process_in, supervises_in}

-- an error is this fault; or no memory was left
abbrev pub RestartFaultIs : RestartError → Option StartFault → Type 0
RestartFaultIs (NoTable m) f = f ≡ Some (no_table (string_bytes m))
RestartFaultIs Unsupported f = f ≡ Some unsupported
RestartFaultIs NoMemory f = Unit {0}
RestartFaultIs e f = ⊥

-- All memory is there, or the child has a fault.
abbrev pub Prepares : Tables → List ℕ → Member → Result (Vec Preparation Global) RestartError → Type 0
Prepares tables app m (Ok ps) = (restart_fault tables m ≡ None) × (ps.items ≡ map (preparation_of app) (restart_members tables m))
Prepares tables app m (Err e) = RestartFaultIs e (restart_fault tables m)

-- What stood for the child was given up, and it began again with all below it, for the application of this name. What was made of
-- the members is a change of this.
pub record HasRestarted {A : Type 0} (tables : Tables) (app : List ℕ) (p : Place) (change : List Member → A) (v : View) (new : A) (w : View) : Type 0 where
  pub sound : restart_fault tables p.child ≡ None
  pub after_end : View
  pub ended : MemberEnded (process_in p.child) v after_end
  pub processes : List StartedProcess
  pub began : BeganInOrder app (starts_among (restart_members tables p.child)) after_end processes w
  pub is : new ≡ change (members_at (restart_members tables p.child) (pids_of processes))

-- There were too few slots, once what stood for the child was given up.
pub record HasNoSlot (tables : Tables) (p : Place) (v w : View) : Type 0 where
  pub sound : restart_fault tables p.child ≡ None
  pub ended : MemberEnded (process_in p.child) v w
  pub few : free_count w < length (starts_among (restart_members tables p.child))

-- why a child that doesn't stay doesn't begin again
abbrev pub IsWhyNotRestarted : RestartError → Tables → Place → View → View → Type 0
IsWhyNotRestarted NoSlot tables p v w = HasNoSlot tables p v w
IsWhyNotRestarted e tables p v w = RestartFaultIs e (restart_fault tables p.child) × (w ≡ v)

-- A child that doesn't stay began again, or why it didn't: then what is made of the members is as it was.
abbrev pub BeginsAgain : {A X : Type 0} → Tables → List ℕ → Place → (List Member → A) → A → View → Result X RestartError → A → View → Type 0
BeginsAgain tables app p change old v (Ok x) new w = HasRestarted tables app p change v new w
BeginsAgain tables app p change old v (Err e) new w = IsWhyNotRestarted e tables p v w × (new ≡ old)

-- the application where these stand in place of the child there and of those below it
abbrev pub app_at : Place → App → List Member → App
app_at p app ms = record app { members = replaced (in_place ms) p }

-- Nothing was done where the child stays; else it began again, or why it didn't.
abbrev pub RestartsUnless : {A : Type 0} → Bool → Tables → List ℕ → Option Place → (List Member → A) → A → View → Result Bool RestartError → A → View → Type 0
RestartsUnless true tables app o change old v r new w = (r ≡ Ok true) × (new ≡ old) × (w ≡ v)
RestartsUnless false tables app (Some p) change old v (Ok true) new w = ⊥
RestartsUnless false tables app (Some p) change old v r new w = BeginsAgain tables app p change old v r new w
RestartsUnless false tables app None change old v r new w = ⊥

-- The child stays, by a look at what stands for it, or it begins again.
pub record Restarts {A : Type 0} (tables : Tables) (app : List ℕ) (o : Option Place) (change : List Member → A) (old : A) (v : View) (r : Result Bool RestartError) (new : A) (w : View) : Type 0 where
  pub stays : Bool
  pub look : View
  pub looked : ChildLookedAt UpOrTemporary o stays v look
  pub outcome : RestartsUnless stays tables app o change old look r new w

-- What a restart of a child leaves in an application, or why it was refused.
abbrev pub RestartsIn : List ℕ → List ℕ → Tables → App → View → Result Bool RestartError → App → View → Type 0
RestartsIn name id tables app = Restarts tables app.name (child_in name id app.members) (λ (ms : List Member). app_with (in_place ms) name id app) app

-- the name of the application with the supervisor of this module
abbrev pub super_app : List ℕ → List App → List ℕ
super_app name apps = option_map_or (λ (a : App). a.name) (find (λ (a : App). supervises_in name a.members) apps) []

-- What a restart of a child leaves in the tree, or why it was refused: the module may not have exactly one supervisor.
abbrev pub RestartsChild : List ℕ → List ℕ → Tables → List App → View → Result Bool RestartError → List App → View → Type 0
RestartsChild name id tables apps v (Err NoSuper) apps' w = (has_one_supervisor name apps ≡ false) × (apps' ≡ apps) × (w ≡ v)
RestartsChild name id tables apps v r apps' w =
    (has_one_supervisor name apps ≡ true)
    × Restarts tables (super_app name apps) (child_place name id apps) (λ (ms : List Member). apps_with (in_place ms) name id apps) apps v r apps' w
