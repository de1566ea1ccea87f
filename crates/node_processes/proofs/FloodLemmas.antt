-- What a flood answers and leaves, by where the tree has a process.
use Rattle.std.proofs.Common.{◌≡◌, ◌≢◌, ℕ, ◌+◌, List, [], ◌∷◌, ◌++◌, length, append-nil, Some, inl, inr, refl, ap, sym, ◌∙◌, arith}
use Rattle.std.specs.Prelude.{◌-◌, IfOk, OnErr, Result, Ok, Err}
use Rattle.proc_history.specs.declared.value.Outcome.{Outcome}
use Rattle.proc_history.specs.declared.value.Value.{Value}
use Rattle.proc_history.specs.Events.Event.{call}
use Rattle.proc_history.specs.Histories.{replay, replay_from}
use Rattle.proc_history.specs.Values.{nothing, after}
use Rattle.proc_history.proofs.Entries.{replay-append}
use Rattle.proc_table.specs.declared.pid.Pid.{Pid}
use Rattle.proc_table.specs.declared.view.View.{View}
use Rattle.proc_table.specs.Views.{seen}
use Rattle.proc_workers.specs.declared.floods.FloodCounts.{FloodCounts}
use Rattle.proc_workers.specs.Floods.{calls_with, Counts, IsBrokenOff, IsFlooded, outcomes_of}
use Rattle.loaded_modules.specs.Loaded.{NamedModules}
use Rattle.sup_tree.specs.Tree.{App, find_process}
use Rattle.node_processes.specs.Answers.{value_at}
use Rattle.node_processes.specs.Floods.{after_calls, counts_line, flood_line, flooded, flooded_at, flooded_line, LeftByCalls, outcomes_at, outcomes_line}
use Rattle.node_processes.proofs.CommandLemmas.{node}
use Rattle.node_processes.proofs.SlotLemmas.{value_of, value_there, value_set}

-- the calls of a pass leave what calls with their outcomes do
replay_calls : (k input : ℕ) (os : List Outcome) (v : Value) → replay_from v (calls_with k input os) ≡ after_calls input os v
replay_calls k input [] v = refl
replay_calls k input (o ∷ os) v = replay_calls k input os (after v (call input o))

-- what is counted is reported
counted_line : (times : ℕ) (os : List Outcome) (f : FloodCounts) → Counts times os f → outcomes_line times os ≡ counts_line f.done f.crashed f.ended f.down
counted_line times os f c =
    let down : times - length os ≡ f.down = let all = c.down in omega (arith, all) in
    λ i. counts_line (sym c.done i) (sym c.crashed i) (sym c.ended i) (down i)

-- what is left where so many calls stand right after what the handler had seen
left_by : (app id : List ℕ) (input times : ℕ) (v w : View) (apps : List App) (modules : NamedModules) (pid : Pid) → find_process app id apps ≡ Some pid
    → seen w pid.slot ≡ seen v pid.slot ++ calls_with (v.count + 1) input (outcomes_of pid.round input times (value_of v pid.slot)) → ((q : ℕ) → q ≢ pid.slot → seen w q ≡ seen v q)
    → flooded app id input times (node v apps modules) ≡ node w apps modules
left_by app id input times v w apps modules pid found seen_is others =
    let ps = node v apps modules in
    let x = value_of v pid.slot in
    let os = outcomes_of pid.round input times x in
    let behind : Value = after_calls input (outcomes_at input times ps pid) (value_at ps pid) in
    let here : value_of w pid.slot ≡ behind =
    ap replay seen_is ∙ (replay-append nothing (seen v pid.slot) (calls_with (v.count + 1) input os)
    ∙ (replay_calls (v.count + 1) input os x ∙ ap (λ (y : Value). after_calls input (outcomes_of pid.round input times y) y) (sym (value_there v pid.slot pid.inside)))) in
    ap (flooded_at input times ps) found
    ∙ ap (λ (vs : List Value). record { values = vs; apps = apps; modules = modules }) (sym (value_set v w pid.slot behind pid.inside here (λ q ne. ap replay (others q ne))))

-- what a flood of a process reports, and leaves
pub record IsFloodOf (app id : List ℕ) (input times : ℕ) (v w : View) (apps : List App) (modules : NamedModules) (f : FloodCounts) : Type 0 where
  pub reported : flood_line app id input times (node v apps modules) ≡ counts_line f.done f.crashed f.ended f.down
  pub leaves : flooded app id input times (node v apps modules) ≡ node w apps modules

pub is_flood_of : (app id : List ℕ) (input times : ℕ) (v w : View) (apps : List App) (modules : NamedModules) (pid : Pid) (f : FloodCounts) → find_process app id apps ≡ Some pid
    → IsFlooded pid input times v f w → IsFloodOf app id input times v w apps modules f
is_flood_of app id input times v w apps modules pid f found flood =
    let ps = node v apps modules in
    record {
      reported = ap (flooded_line input times ps) found
          ∙ (ap (λ (x : Value). outcomes_line times (outcomes_of pid.round input times x)) (value_there v pid.slot pid.inside)
          ∙ counted_line times (outcomes_of pid.round input times (value_of v pid.slot)) f flood.counts);
      leaves = left_by app id input times v w apps modules pid found flood.seen_is flood.rest.others;
    }

-- a flood that was done, but can't be reported
pub left_by_flood : (app id : List ℕ) (input times : ℕ) (v w : View) (apps : List App) (modules : NamedModules) (pid : Pid) (f : FloodCounts) → find_process app id apps ≡ Some pid
    → IsFlooded pid input times v f w → LeftByCalls app id input times (node v apps modules) (node w apps modules)
left_by_flood app id input times v w apps modules pid f found flood = (times, omega arith, sym (left_by app id input times v w apps modules pid found flood.seen_is flood.rest.others))

-- a flood that was broken off
pub left_by_refused : (app id : List ℕ) (input times : ℕ) (v w : View) (apps : List App) (modules : NamedModules) (pid : Pid) → find_process app id apps ≡ Some pid → IsBrokenOff pid input times v w
    → LeftByCalls app id input times (node v apps modules) (node w apps modules)
left_by_refused app id input times v w apps modules pid found (inl same) =
    (0, omega arith, sym (left_by app id input 0 v w apps modules pid found (ap (λ (z : View). seen z pid.slot) same ∙ sym (append-nil (seen v pid.slot))) (λ q ne. ap (λ (z : View). seen z q) same)))
left_by_refused app id input times v w apps modules pid found (inr (n, most, seen_is, pass)) = (n, most, sym (left_by app id input n v w apps modules pid found seen_is pass.others))

-- what holds anyhow holds where a call fails
pub always_err : {T E : Type 0} (r : Result T E) (P : Type 0) → P → OnErr r P
always_err (Ok v) P p = tt
always_err (Err e) P p = p

-- what holds anyhow holds where a call succeeds
pub always_ok : {T E : Type 0} (r : Result T E) (P : Type 0) → P → IfOk r (λ _. P)
always_ok (Ok v) P p = p
always_ok (Err e) P p = tt
