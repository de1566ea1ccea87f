-- What a process answers to many calls with one input.
use Rattle.std.specs.Prelude.{◌≡◌, ◌⊎◌, ◌≤◌, ℕ, zero, suc, ◌+◌, List, [], ◌∷◌, ◌++◌, length, Option, Some, None}
use Rattle.proc_history.specs.declared.value.Outcome.{Outcome}
use Rattle.proc_history.specs.declared.value.Outcome.TheVariants as outcome
use Rattle.proc_history.specs.declared.value.Value.{Value}
use Rattle.proc_history.specs.Events.{HistoryEntry, entry}
use Rattle.proc_history.specs.Events.Event.{call}
use Rattle.proc_history.specs.Histories.{replay}
use Rattle.proc_history.specs.Outcomes.{outcome_in}
use Rattle.proc_history.specs.Values.{after}
use Rattle.proc_table.specs.declared.pid.Pid.{Pid}
use Rattle.proc_table.specs.declared.view.View.{View}
use Rattle.proc_table.specs.Alone.{ByOnePass}
use Rattle.proc_table.specs.Views.{seen}
use Rattle.proc_workers.specs.declared.floods.FloodCounts.{FloodCounts}

-- this outcome, and those after it
abbrev pub and_then : Option Outcome → (Outcome → List Outcome) → List Outcome
and_then None more = []
and_then (Some o) more = o ∷ more o

-- The outcomes of so many calls, one after another. Those that don't find the process up in its round have none.
abbrev pub outcomes_of : ℕ → ℕ → ℕ → Value → List Outcome
outcomes_of round input zero v = []
outcomes_of round input (suc n) v = and_then (outcome_in round input v) (λ o. outcomes_of round input n (after v (call input o)))

-- the calls of a pass that had these outcomes
abbrev pub calls_with : ℕ → ℕ → List Outcome → List HistoryEntry
calls_with n input [] = []
calls_with n input (o ∷ os) = entry n (call input o) ∷ calls_with n input os

abbrev pub done_in : List Outcome → ℕ
done_in [] = 0
done_in (outcome.Done r ∷ os) = suc (done_in os)
done_in (o ∷ os) = done_in os

abbrev pub crashed_in : List Outcome → ℕ
crashed_in [] = 0
crashed_in (outcome.Crashed ∷ os) = suc (crashed_in os)
crashed_in (o ∷ os) = crashed_in os

abbrev pub ended_in : List Outcome → ℕ
ended_in [] = 0
ended_in (outcome.Ended r ∷ os) = suc (ended_in os)
ended_in (o ∷ os) = ended_in os

-- how often each outcome came in so many calls; the others found the process down
pub record Counts (times : ℕ) (os : List Outcome) (f : FloodCounts) : Type 0 where
  pub done : f.done ≡ done_in os
  pub crashed : f.crashed ≡ crashed_in os
  pub ended : f.ended ≡ ended_in os
  pub down : f.down + length os ≡ times

-- The process was called so often, by one pass and with nothing between. The calls stand right after what the handler had seen.
pub record IsFlooded (pid : Pid) (input times : ℕ) (v : View) (f : FloodCounts) (w : View) : Type 0 where
  pub counts : Counts times (outcomes_of pid.round input times (replay (seen v pid.slot))) f
  pub seen_is : seen w pid.slot ≡ seen v pid.slot ++ calls_with (v.count + 1) input (outcomes_of pid.round input times (replay (seen v pid.slot)))
  pub rest : ByOnePass pid.slot v w

-- Nothing was done, or the process was called with this input, at most so often, by one pass and with nothing between. The calls
-- stand right after what the handler had seen.
abbrev pub IsBrokenOff : Pid → ℕ → ℕ → View → View → Type 0
IsBrokenOff pid input times v w = (w ≡ v)
    ⊎ ((n : ℕ) × (n ≤ times) × (seen w pid.slot ≡ seen v pid.slot ++ calls_with (v.count + 1) input (outcomes_of pid.round input n (replay (seen v pid.slot)))) × ByOnePass pid.slot v w)
