-- What the handler had seen of each slot stays in front after what is done to applications and to children of supervisors.
use Rattle.std.proofs.Common.{◌≡◌, ℕ, Bool, true, false, List, [], ◌∷◌, reverse, Option, Some, None, Result, Ok, Err, sym, subst}
use Rattle.proc_table.specs.declared.pid.Pid.{Pid}
use Rattle.proc_table.specs.declared.view.View.{View}
use Rattle.mod_table.specs.Tables.{Tables}
use Rattle.sup_tree.specs.Walk.{Start, app_starts, starts_among}
use Rattle.sup_tree.specs.declared.error.RestartError.{RestartError}
use Rattle.sup_tree.specs.declared.error.RestartError.TheVariants.{NoSuper, NoTable, Unsupported, NoSlot, NoMemory}
use Rattle.sup_tree.specs.declared.error.StartError.{StartError}
use Rattle.started_members.specs.declared.looks.Kept.{Kept}
use Rattle.started_members.specs.declared.looks.Stay.{Stay}
use Rattle.started_members.specs.declared.looks.Stay.TheVariants.{Up, UpOrTemporary}
use Rattle.started_members.specs.declared.member.Member.{Member}
use Rattle.started_members.specs.declared.member.MemberState.{MemberState}
use Rattle.started_members.specs.declared.member.MemberState.TheVariants.{Ended, Process, Supervisor}
use Rattle.started_members.specs.declared.member.StartedProcess.{StartedProcess}
use Rattle.started_members.specs.Places.{ChildEndedUnless, ChildLookedAt, Place}
use Rattle.sup_tree.specs.Children.{DeletesChild, TerminatesChild, child_members, child_place}
use Rattle.started_members.specs.Looks.{StateLookedAt, kept_at}
use Rattle.started_members.specs.Begins.{restart_members, BeganInOrder}
use Rattle.sup_tree.specs.Restarts.{Restarts, RestartsChild, RestartsUnless}
use Rattle.sup_tree.specs.Starts.{StartsApp}
use Rattle.started_members.specs.Ends.{EndedAt, EndedInOrder, MemberEnded}
use Rattle.sup_tree.specs.Stops.{StopsApp}
use Rattle.started_members.specs.Members.{pids_of, process_in, processes_among}
use Rattle.sup_tree.specs.Tree.{App, app_pids}
use Rattle.held_processes.specs.Following.{AreLonger}
use Rattle.held_processes.proofs.SlotLemmas.{held_longer, longer_both, longer_still}

-- nothing happened
pub same_longer : (v w : View) → w ≡ v → AreLonger v w
same_longer v w is = subst (AreLonger v) (sym is) (longer_still v)

-- processes begin, one after another
pub began_longer : (app : List ℕ) (ss : List Start) (v : View) (ps : List StartedProcess) (w : View) → BeganInOrder app ss v ps w → AreLonger v w
began_longer app [] v [] w is = same_longer v w is
began_longer app [] v (p ∷ ps) w is = absurd is
began_longer app (s ∷ ss) v [] w is = absurd is
began_longer app (s ∷ ss) v (p ∷ ps) w (u, began, is, later) =
    longer_both v u w (held_longer p.pid.slot _ v began.1.0 began.1.1 u began.1.2 began.1.6) (began_longer app ss u ps w later)

-- a process is given up, and then others
given_up_longer : (pid : Pid) (v w : View) → EndedAt pid v w → AreLonger v w
given_up_longer pid v w (h, u, at, r) = held_longer pid.slot _ v h u w at r

pub ended_longer : (pids : List Pid) (v w : View) → EndedInOrder pids v w → AreLonger v w
ended_longer [] v w is = same_longer v w is
ended_longer (pid ∷ pids) v w (u, ended, later) = longer_both v u w (given_up_longer pid v u ended) (ended_longer pids u w later)

-- an application is started, or stopped
pub start_longer : {X : Type 0} (name : List ℕ) (top : Option (List ℕ)) (tables : Tables) (apps : List App) (v : View) (r : Result X StartError) (apps' : List App) (w : View)
    → StartsApp name top tables apps v r apps' w → AreLonger v w
start_longer name top tables apps v (Ok x) apps' w s = began_longer name (app_starts tables top) v s.processes w s.began
start_longer name top tables apps v (Err e) apps' w s = same_longer v w s.2

pub stop_longer : {X E : Type 0} (name : List ℕ) (apps : List App) (v : View) (r : Result X E) (apps' : List App) (w : View) → StopsApp name apps v r apps' w → AreLonger v w
stop_longer name apps v (Ok x) apps' w s = ended_longer (reverse (app_pids s.app)) v w s.ended
stop_longer name apps v (Err e) apps' w s = same_longer v w s.2

-- a child is looked at, and what stands for it is given up
pub look_longer : (kept : Kept) (m : MemberState) (b : Bool) (v w : View) → StateLookedAt kept m b v w → AreLonger v w
look_longer kept Ended b v w is = same_longer v w is.1
look_longer kept (Process q) b v w (h, u, at, reported, r) = held_longer q.pid.slot [] v h u w at r
look_longer kept (Supervisor m) b v w is = same_longer v w is.1

pub end_longer : (o : Option StartedProcess) (v w : View) → MemberEnded o v w → AreLonger v w
end_longer None v w is = same_longer v w is
end_longer (Some q) v w ended = given_up_longer q.pid v w ended

child_look_longer : (stay : Stay) (o : Option Place) (b : Bool) (v w : View) → ChildLookedAt stay o b v w → AreLonger v w
child_look_longer stay None b v w is = same_longer v w is.1
child_look_longer stay (Some p) b v w is = look_longer (kept_at stay p.child.restart) p.child.state b v w is

child_end_longer : (b : Bool) (o : Option Place) (v w : View) → ChildEndedUnless b o v w → AreLonger v w
child_end_longer true o v w is = same_longer v w is
child_end_longer false None v w is = same_longer v w is
child_end_longer false (Some p) v w is = end_longer (process_in p.child) v w is

-- a child is terminated, or deleted
pub terminate_longer : {X E : Type 0} (name id : List ℕ) (apps : List App) (v : View) (r : Result X E) (apps' : List App) (w : View) → TerminatesChild name id apps v r apps' w → AreLonger v w
terminate_longer name id apps v (Ok x) apps' w t = ended_longer (reverse (pids_of (processes_among (child_members name id apps)))) v w t.ended
terminate_longer name id apps v (Err e) apps' w t = same_longer v w t.2

pub delete_longer : {E : Type 0} (name id : List ℕ) (apps : List App) (v : View) (r : Result Bool E) (apps' : List App) (w : View) → DeletesChild name id apps v r apps' w → AreLonger v w
delete_longer name id apps v (Ok stays) apps' w t =
    let o = child_place name id apps in longer_both v t.look w (child_look_longer Up o stays v t.look t.looked) (child_end_longer stays o t.look w t.ended)
delete_longer name id apps v (Err e) apps' w t = same_longer v w t.2

-- a child begins again
outcome_longer : {A : Type 0} (stays : Bool) (tables : Tables) (app : List ℕ) (o : Option Place) (change : List Member → A) (old : A) (v : View) (r : Result Bool RestartError) (new : A) (w : View)
    → RestartsUnless stays tables app o change old v r new w → AreLonger v w
outcome_longer true tables app o change old v r new w is = same_longer v w is.2
outcome_longer false tables app None change old v r new w is = absurd is
outcome_longer false tables app (Some p) change old v (Ok true) new w is = absurd is
outcome_longer false tables app (Some p) change old v (Ok false) new w is =
    longer_both v is.after_end w (end_longer (process_in p.child) v is.after_end is.ended)
    (began_longer app (starts_among (restart_members tables p.child)) is.after_end is.processes w is.began)
outcome_longer false tables app (Some p) change old v (Err NoSlot) new w is = end_longer (process_in p.child) v w is.0.ended
outcome_longer false tables app (Some p) change old v (Err NoSuper) new w is = same_longer v w is.0.1
outcome_longer false tables app (Some p) change old v (Err (NoTable m)) new w is = same_longer v w is.0.1
outcome_longer false tables app (Some p) change old v (Err Unsupported) new w is = same_longer v w is.0.1
outcome_longer false tables app (Some p) change old v (Err NoMemory) new w is = same_longer v w is.0.1

again_longer : {A : Type 0} (tables : Tables) (app : List ℕ) (o : Option Place) (change : List Member → A) (old : A) (v : View) (r : Result Bool RestartError) (new : A) (w : View)
    → Restarts tables app o change old v r new w → AreLonger v w
again_longer tables app o change old v r new w t =
    longer_both v t.look w (child_look_longer UpOrTemporary o t.stays v t.look t.looked) (outcome_longer t.stays tables app o change old t.look r new w t.outcome)

pub restart_longer : (name id : List ℕ) (tables : Tables) (apps : List App) (v : View) (r : Result Bool RestartError) (apps' : List App) (w : View) → RestartsChild name id tables apps v r apps' w
    → AreLonger v w
restart_longer name id tables apps v (Ok b) apps' w t = again_longer tables _ _ _ apps v (Ok b) apps' w t.1
restart_longer name id tables apps v (Err NoSuper) apps' w t = same_longer v w t.2
restart_longer name id tables apps v (Err (NoTable m)) apps' w t = again_longer tables _ _ _ apps v (Err (NoTable m)) apps' w t.1
restart_longer name id tables apps v (Err Unsupported) apps' w t = again_longer tables _ _ _ apps v (Err Unsupported) apps' w t.1
restart_longer name id tables apps v (Err NoSlot) apps' w t = again_longer tables _ _ _ apps v (Err NoSlot) apps' w t.1
restart_longer name id tables apps v (Err NoMemory) apps' w t = again_longer tables _ _ _ apps v (Err NoMemory) apps' w t.1
