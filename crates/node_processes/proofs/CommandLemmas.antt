-- What commands on processes answer, by where the tree has a process, and that the handler holds nothing after them.
use Rattle.std.proofs.Common.{◌≡◌, ℕ, ◌+◌, List, [], ◌∷◌, Option, Some, None, refl, ap, sym, ◌∙◌}
use native.Mathlib.Decide.{ℕ_discrete}
use mathlib.Core.Logic.{dite}
use Rattle.proc_history.specs.declared.value.Now.{Now}
use Rattle.proc_history.specs.declared.value.Outcome.{Outcome}
use Rattle.proc_history.specs.declared.value.Outcome.TheVariants as outcome
use Rattle.proc_history.specs.declared.value.Value.{Value}
use Rattle.proc_history.specs.Events.{entry}
use Rattle.proc_history.specs.Events.Event.{call}
use Rattle.proc_history.specs.Histories.{replay}
use Rattle.proc_history.specs.Values.{nothing, up_in, after}
use Rattle.proc_history.proofs.Entries.{replay-append}
use Rattle.proc_table.specs.declared.pass.Tried.{Tried}
use Rattle.proc_table.specs.declared.pass.Tried.TheVariants as tried
use Rattle.proc_table.specs.declared.pid.Pid.{Pid}
use Rattle.proc_table.specs.declared.view.View.{View}
use Rattle.proc_table.specs.Alone.{AnswersAlone, ByOnePass, CalledAlone, DownAlone}
use Rattle.proc_table.specs.Views.{seen}
use Rattle.loaded_modules.specs.Loaded.{NamedModules}
use Rattle.sup_tree.specs.Tree.{App, find_process}
use Rattle.held_processes.specs.Following.{HoldsNothing}
use Rattle.node_processes.specs.Answers.{no_process_line, outcome_line, value_at, state_line, peeked_line, peek_line, reply_line, called_line, call_line, behind_call, called_at, called, outcome_at}
use Rattle.node_processes.specs.InMemory.{values_in, tried_line}
use Rattle.node_processes.specs.Processes.{Processes}
use Rattle.node_processes.proofs.SlotLemmas.{value_of, value_there, value_set, same_values}

-- the processes of a node with these applications and these modules
abbrev pub node : View → List App → NamedModules → Processes
node v apps modules = record { values = values_in v; apps = apps; modules = modules }

-- the answer to `peek`
pub peek_of_found : (app id : List ℕ) (v : View) (apps : List App) (modules : NamedModules) (pid : Pid) → find_process app id apps ≡ Some pid
    → peek_line app id (node v apps modules) ≡ state_line (up_in pid.round (value_of v pid.slot))
peek_of_found app id v apps modules pid is =
    ap (peeked_line (node v apps modules)) is ∙ ap (λ (x : Value). state_line (up_in pid.round x)) (value_there v pid.slot pid.inside)

pub peek_of_none : (app id : List ℕ) (v : View) (apps : List App) (modules : NamedModules) → find_process app id apps ≡ None → peek_line app id (node v apps modules) ≡ no_process_line
peek_of_none app id v apps modules is = ap (peeked_line (node v apps modules)) is

-- a call of a process that isn't there
pub call_of_none : (app id : List ℕ) (input : ℕ) (v : View) (apps : List App) (modules : NamedModules) → find_process app id apps ≡ None
    → (call_line app id input (node v apps modules) ≡ no_process_line) × (called app id input (node v apps modules) ≡ node v apps modules)
call_of_none app id input v apps modules is = (ap (called_line input (node v apps modules)) is, ap (called_at input (node v apps modules)) is)

-- what a call of a process reports, and leaves
pub record IsCalled (app id : List ℕ) (input : ℕ) (v w : View) (apps : List App) (modules : NamedModules) (t : Tried) : Type 0 where
  pub reported : call_line app id input (node v apps modules) ≡ tried_line t
  pub leaves : called app id input (node v apps modules) ≡ node w apps modules

-- by what the process was at
of_process : (app id : List ℕ) (input : ℕ) (v w : View) (apps : List App) (modules : NamedModules) (pid : Pid) (t : Tried) (o : Option Now)
    → find_process app id apps ≡ Some pid → up_in pid.round (value_of v pid.slot) ≡ o → reply_line input o ≡ tried_line t
    → behind_call input (node v apps modules) pid o ≡ node w apps modules → IsCalled app id input v w apps modules t
of_process app id input v w apps modules pid t o found up reported leaves =
    let at : up_in pid.round (value_at (node v apps modules) pid) ≡ o = ap (up_in pid.round) (value_there v pid.slot pid.inside) ∙ up in record {
      reported = ap (called_line input (node v apps modules)) found ∙ (ap (reply_line input) at ∙ reported);
      leaves = ap (called_at input (node v apps modules)) found ∙ (ap (behind_call input (node v apps modules) pid) at ∙ leaves);
    }

-- a call that reached the process
reached : (app id : List ℕ) (input : ℕ) (v w : View) (apps : List App) (modules : NamedModules) (pid : Pid) (t : Tried) (o : Outcome) → find_process app id apps ≡ Some pid
    → CalledAlone pid.slot pid.round input o v w → outcome_line o ≡ tried_line t → IsCalled app id input v w apps modules t
reached app id input v w apps modules pid t o found alone reported =
    let n = alone.up.0 in
    let there : value_at (node v apps modules) pid ≡ value_of v pid.slot = value_there v pid.slot pid.inside in
    let here : value_of w pid.slot ≡ after (value_at (node v apps modules) pid) (call input (outcome_at n input)) =
    ap replay alone.seen_is ∙ (replay-append nothing (seen v pid.slot) (entry (v.count + 1) (call input o) ∷ [])
    ∙ (λ i. after (sym there i) (call input (alone.up.2 i)))) in
    of_process app id input v w apps modules pid t (Some n) found alone.up.1 (ap outcome_line (sym alone.up.2) ∙ reported)
    (ap (λ (vs : List Value). record { values = vs; apps = apps; modules = modules })
    (sym (value_set v w pid.slot (after (value_at (node v apps modules) pid) (call input (outcome_at n input))) pid.inside here (λ q ne. ap replay (alone.rest.others q ne)))))

-- one that found it down
found_down : (app id : List ℕ) (input : ℕ) (v w : View) (apps : List App) (modules : NamedModules) (pid : Pid) → find_process app id apps ≡ Some pid
    → DownAlone pid.slot pid.round v w → IsCalled app id input v w apps modules tried.Down
found_down app id input v w apps modules pid found alone =
    of_process app id input v w apps modules pid tried.Down None found alone.down refl
    (ap (λ (vs : List Value). record { values = vs; apps = apps; modules = modules })
    (sym (same_values v w (λ q. dite (ℕ_discrete q pid.slot) (λ e. ap (λ k. replay (seen w k)) e ∙ (ap replay alone.seen_is ∙ sym (ap (λ k. replay (seen v k)) e))) (λ ne. ap replay (alone.rest.others q ne))))))

pub is_called : (app id : List ℕ) (input : ℕ) (v w : View) (apps : List App) (modules : NamedModules) (pid : Pid) (t : Tried) → find_process app id apps ≡ Some pid
    → AnswersAlone pid.slot pid.round input v t w → IsCalled app id input v w apps modules t
is_called app id input v w apps modules pid (tried.Done r) is alone = reached app id input v w apps modules pid (tried.Done r) (outcome.Done r) is alone refl
is_called app id input v w apps modules pid tried.Crashed is alone = reached app id input v w apps modules pid tried.Crashed outcome.Crashed is alone refl
is_called app id input v w apps modules pid (tried.Ended r) is alone = reached app id input v w apps modules pid (tried.Ended r) (outcome.Ended r) is alone refl
is_called app id input v w apps modules pid tried.Down is alone = found_down app id input v w apps modules pid is alone
is_called app id input v w apps modules pid tried.Busy is alone = absurd alone
is_called app id input v w apps modules pid tried.Held is alone = absurd alone

-- The handler holds nothing after a call.

pub behind_pass : (p : ℕ) (v w : View) → HoldsNothing v → ByOnePass p v w → HoldsNothing w
behind_pass p v w n rest = record { handler = rest.number ∙ n.handler; out = λ q inside. rest.out_is q ∙ n.out q inside }

pub called_nothing : (p round input : ℕ) (v : View) (t : Tried) (w : View) → HoldsNothing v → AnswersAlone p round input v t w → HoldsNothing w
called_nothing p round input v (tried.Done r) w n alone = behind_pass p v w n alone.rest
called_nothing p round input v tried.Crashed w n alone = behind_pass p v w n alone.rest
called_nothing p round input v (tried.Ended r) w n alone = behind_pass p v w n alone.rest
called_nothing p round input v tried.Down w n alone = behind_pass p v w n alone.rest
called_nothing p round input v tried.Busy w n alone = absurd alone
called_nothing p round input v tried.Held w n alone = absurd alone
