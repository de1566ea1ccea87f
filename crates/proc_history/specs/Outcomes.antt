-- What comes of a call and of a peek.
use Rattle.std.specs.Prelude.{ℕ, List, [], ◌∷◌, Option, Some, None}
use Rattle.std.specs.Option.{option_map}
use Rattle.proc_history.specs.declared.value.Value.{Value}
use Rattle.proc_history.specs.declared.value.Now.{Now}
use Rattle.proc_history.specs.declared.value.Outcome.{Outcome}
use Rattle.proc_history.specs.Events.{HistoryEntry, entry}
use Rattle.proc_history.specs.Events.Event.{call}
use Rattle.proc_history.specs.Values.{after, up_if, up_in, answer, outcome_of}

-- what a call has for outcome, if a process of this round is up
abbrev pub outcome_in : ℕ → ℕ → Value → Option Outcome
outcome_in round input v = option_map (λ n. outcome_of (answer n input)) (up_in round v)

-- the same of a process, if it is up
abbrev pub outcome_in_now : Now → ℕ → Option Outcome
outcome_in_now n input = option_map (λ m. outcome_of (answer m input)) (up_if n n.standing)

-- the state of the process of this round, if it is up
abbrev pub state_in : ℕ → Value → Option ℕ
state_in round v = option_map (λ (n : Now). n.state) (up_in round v)

-- what a call that had this outcome leaves
abbrev pub after_call : Value → ℕ → Option Outcome → Value
after_call v input None = v
after_call v input (Some o) = after v (call input o)

-- the entries of such a call
abbrev pub call_entries : ℕ → ℕ → Option Outcome → List HistoryEntry
call_entries number input None = []
call_entries number input (Some o) = entry number (call input o) ∷ []
