-- The handler holds nothing after what is made of a hold and a release, as starts and stops of applications are.
use Rattle.std.proofs.Common.{◌≡◌, ℕ, false, List, [], ◌∷◌, Option, Result, Ok, Err, refl, ap, sym, subst, ◌∙◌, reverse}
use native.Mathlib.Decide.{ℕ_discrete}
use mathlib.Core.Logic.{dite}
use Rattle.proc_history.specs.declared.beginning.Beginning.{Beginning}
use Rattle.proc_history.specs.Events.{HistoryEntry}
use Rattle.proc_table.specs.declared.pid.Pid.{Pid}
use Rattle.proc_table.specs.declared.view.View.{View}
use Rattle.proc_table.specs.Agrees.{slots}
use Rattle.proc_table.specs.Free.{BeganLowest}
use Rattle.proc_table.specs.Holds.{Holding, Released}
use Rattle.proc_table.specs.Parts.{Part, unseen}
use Rattle.proc_table.specs.Views.{handler_view, is_out}
use Rattle.proc_table.specs.Waits.{HeldAtLast}
use Rattle.proc_table.proofs.WaitLemmas.{held_and_released}
use Rattle.std.proofs.lemmas.List.{get_or-replicate}
use Rattle.mod_table.specs.Tables.{Tables}
use Rattle.sup_tree.specs.declared.error.StartError.{StartError}
use Rattle.started_members.specs.declared.member.StartedProcess.{StartedProcess}
use Rattle.sup_tree.specs.Starts.{AppStarted, StartsApp}
use Rattle.started_members.specs.Begins.{BeganInOrder, beginning_of}
use Rattle.started_members.specs.Ends.{EndedInOrder, ending}
use Rattle.sup_tree.specs.Stops.{StopsApp}
use Rattle.sup_tree.specs.Tree.{App, app_pids}
use Rattle.sup_tree.specs.Walk.{Start, app_starts}
use Rattle.held_processes.specs.Following.{HoldsNothing}
use Rattle.held_processes.specs.Laws.{StartsHoldNothing}

-- a slot that was held is given back
pub nothing_behind : (p : ℕ) (es : List HistoryEntry) (v : View) (h : Holding) (u w : View) → HoldsNothing v → HeldAtLast p v h u → Released p es u w → HoldsNothing w
nothing_behind p es v h u w n at r =
    let e = held_and_released p es v h u w at r in record {
      handler = e.number ∙ n.handler;
      out = λ q inside. dite (ℕ_discrete q p)
          (λ is. subst (λ z. is_out w z ≡ false) (sym is) r.out)
          (λ ne. ap (λ (x : Part). x.out) (e.others q ne) ∙ n.out q inside);
    }

began_nothing : (b : Beginning) (v : View) (pid : Pid) (w : View) → HoldsNothing v → BeganLowest b v (Ok pid) w → HoldsNothing w
began_nothing b v pid w n r = nothing_behind pid.slot _ v r.1.0 r.1.1 w n r.1.2 r.1.6

all_began : (app : List ℕ) (ss : List Start) (v : View) (ps : List StartedProcess) (w : View) → HoldsNothing v → BeganInOrder app ss v ps w → HoldsNothing w
all_began app [] v [] w n r = subst HoldsNothing (sym r) n
all_began app [] v (p ∷ ps) w n r = absurd r
all_began app (s ∷ ss) v [] w n r = absurd r
all_began app (s ∷ ss) v (p ∷ ps) w n r = all_began app ss r.0 ps w (began_nothing (beginning_of app s) v p.pid r.0 n r.1) r.3

all_ended : (ps : List Pid) (v w : View) → HoldsNothing v → EndedInOrder ps v w → HoldsNothing w
all_ended [] v w n r = subst HoldsNothing (sym r) n
all_ended (p ∷ ps) v w n r = all_ended ps r.0 w (nothing_behind p.slot (ending p r.1.0.value) v r.1.0 r.1.1 r.0 n r.1.2 r.1.3) r.2

-- an application is started
pub started_nothing : (name : List ℕ) (top : Option (List ℕ)) (tables : Tables) (apps : List App) (v : View) (apps' : List App) (w : View) → HoldsNothing v → AppStarted name top tables apps v apps' w → HoldsNothing w
started_nothing name top tables apps v apps' w n s = all_began name (app_starts tables top) v s.processes w n s.began

starts_nothing : {X : Type 0} (name : List ℕ) (top : Option (List ℕ)) (tables : Tables) (apps : List App) (v : View) (r : Result X StartError) (apps' : List App) (w : View) → HoldsNothing v
    → StartsApp name top tables apps v r apps' w → HoldsNothing w
starts_nothing name top tables apps v (Ok x) apps' w n s = started_nothing name top tables apps v apps' w n s
starts_nothing name top tables apps v (Err e) apps' w n s = subst HoldsNothing (sym s.2) n

stops_nothing : {X E : Type 0} (name : List ℕ) (apps : List App) (v : View) (r : Result X E) (apps' : List App) (w : View) → HoldsNothing v → StopsApp name apps v r apps' w → HoldsNothing w
stops_nothing name apps v (Ok x) apps' w n s = all_ended (reverse (app_pids s.app)) v w n s.ended
stops_nothing name apps v (Err e) apps' w n s = subst HoldsNothing (sym s.2) n

pub starts_hold_nothing : StartsHoldNothing
starts_hold_nothing = (λ name top tables apps v r apps' w. starts_nothing name top tables apps v r apps' w, λ name apps v r apps' w. stops_nothing name apps v r apps' w)

-- the handler of a new table holds nothing
pub first_nothing : HoldsNothing (handler_view slots)
first_nothing = record { handler = refl; out = λ p inside. ap (λ (x : Part). x.out) (get_or-replicate slots p unseen unseen inside) }
