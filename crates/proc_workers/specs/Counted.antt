-- Answers that are counted.
use Rattle.std.specs.Prelude.{◌≡◌, ◌<◌, ◌≤◌, ℕ, ◌+◌, List, [], ◌∷◌, length, Option, IfSome}
use Rattle.proc_history.specs.declared.value.Outcome.{Outcome}
use Rattle.proc_history.specs.declared.value.Outcome.TheVariants as outcome
use Rattle.proc_table.specs.declared.pass.Tried.{Tried}
use Rattle.proc_table.specs.declared.pass.Tried.TheVariants as tried
use Rattle.proc_table.specs.declared.pid.Pid.{Pid}
use Rattle.proc_table.specs.declared.view.View.{View}
use Rattle.proc_workers.specs.declared.floods.FloodCounts.{FloodCounts}
use Rattle.proc_workers.specs.declared.note.Answer.{Answer}
use Rattle.proc_workers.specs.Floods.{Counts}
use Rattle.proc_workers.specs.Processes.{IsProcess}
use Rattle.proc_workers.specs.Work.{HasAnswered}

-- this answer as an outcome, if it is one, and those after it
abbrev pub outcome_before : Tried → List Outcome → List Outcome
outcome_before (tried.Done r) os = outcome.Done r ∷ os
outcome_before tried.Crashed os = outcome.Crashed ∷ os
outcome_before (tried.Ended r) os = outcome.Ended r ∷ os
outcome_before t os = os

-- the outcomes among answers, in order
abbrev pub outcomes_in : List Answer → List Outcome
outcomes_in [] = []
outcomes_in (a ∷ more) = outcome_before a.tried (outcomes_in more)

-- each is a call of this process with this input
abbrev pub AreOf : Pid → ℕ → List Answer → Type 0
AreOf pid input [] = Unit {0}
AreOf pid input (a ∷ more) = (a.input ≡ input) × IsProcess pid a.pid × AreOf pid input more

-- so many, all of this process and input, and how often each outcome came
pub record AreCounted (pid : Pid) (input times : ℕ) (answers : List Answer) (f : FloodCounts) : Type 0 where
  pub long : length answers ≡ times
  pub are_of : AreOf pid input answers
  pub counts : Counts times (outcomes_in answers) f

-- This many answers were given one after another, each by a call of this process with this input.
pub record HasCounted (pid : Pid) (input n : ℕ) (v : View) (f : FloodCounts) (w : View) : Type 0 where
  pub answers : List Answer
  pub answered : HasAnswered pid v answers w
  pub counted : AreCounted pid input n answers f

-- What the worker of a flood has done: it answered at most so many calls of this process with this input, one after another, and
-- made no others. Where it counted them, it answered all.
pub record HasCalled (pid : Pid) (input times : ℕ) (v : View) (counts : Option FloodCounts) (w : View) : Type 0 where
  pub answers : List Answer
  pub answered : HasAnswered pid v answers w
  pub are_of : AreOf pid input answers
  pub most : length answers ≤ times
  pub counted : IfSome counts (λ f. AreCounted pid input times answers f)

-- what is counted after this answer
abbrev pub noted : Tried → FloodCounts → FloodCounts
noted (tried.Done r) f = record f { done = f.done + 1 }
noted tried.Crashed f = record f { crashed = f.crashed + 1 }
noted (tried.Ended r) f = record f { ended = f.ended + 1 }
noted tried.Down f = record f { down = f.down + 1 }
noted t f = f

-- each number can be one more
pub record HasRoomForOne (f : FloodCounts) : Type 0 where
  pub done : f.done < 4294967295
  pub crashed : f.crashed < 4294967295
  pub ended : f.ended < 4294967295
  pub down : f.down < 4294967295
