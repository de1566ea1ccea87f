-- What two clients that met know of one process.
use Rattle.std.specs.Prelude.{◌≡◌, ◌≢◌, ◌⊎◌, ℕ, List, [], ◌∷◌, ◌++◌}
use mathlib.Core.List.{IsPrefix}
use Rattle.proc_table.specs.declared.view.View.{View}
use Rattle.proc_table.specs.declared.pass.Tried.{Tried}
use Rattle.proc_table.specs.declared.pass.Tried.TheVariants as tried
use Rattle.proc_history.specs.declared.value.Outcome.{Outcome}
use Rattle.proc_history.specs.declared.value.Outcome.TheVariants as outcome
use Rattle.proc_history.specs.Events.{HistoryEntry, entry, own}
use Rattle.proc_history.specs.Events.Event.{call}
use Rattle.proc_history.specs.Histories.{IsLegal}
use Rattle.proc_table.specs.Views.{seen, mine}
use Rattle.proc_table.specs.Calls.{Called, Joined}
use Rattle.proc_table.specs.Holds.{Released}
use Rattle.proc_history.specs.Events.{ByHandler}
use Rattle.proc_table.specs.Waits.{AnswersAtLast}

-- the entries of a call that was answered so
abbrev pub answered : ℕ → ℕ → Tried → List HistoryEntry
answered number input (tried.Done r) = entry number (call input (outcome.Done r)) ∷ []
answered number input tried.Crashed = entry number (call input outcome.Crashed) ∷ []
answered number input (tried.Ended r) = entry number (call input (outcome.Ended r)) ∷ []
answered number input t = []

-- Both calls were answered, and then the passes met. What the first has seen is one legal history, and of each pass it has what
-- that had done before and its call, in order and each once.
pub record BothCalled (p round input other : ℕ) (v w : View) (t u : Tried) (both : View) : Type 0 where
  pub first : View
  pub second : View
  pub answer : AnswersAtLast p round input v t first
  pub other_answer : AnswersAtLast p round other w u second
  pub joined : Joined first second both
  pub legal : IsLegal (seen both p)
  pub calls : own v.number (seen both p) ≡ mine v p ++ answered v.number input t
  pub other_calls : own w.number (seen both p) ≡ mine w p ++ answered w.number other u

-- Two clients that called one process, and then met, see one legal history with the calls of both.
abbrev pub TwoClients : Type 0
TwoClients = (p round input other : ℕ) (v w : View) (t u : Tried) (first second both : View)
    → AnswersAtLast p round input v t first → AnswersAtLast p round other w u second → Joined first second both
    → BothCalled p round input other v w t u both

-- Of a process that the handler held and released with these entries, each call of a client that was answered stands before the
-- hold, or after the release, in any history that both have seen a beginning of.
abbrev pub CallsStandApart : Type 0
CallsStandApart = (p round input : ℕ) (o : Outcome) (entries : List HistoryEntry) (v w first second : View) (history : List HistoryEntry)
    → ByHandler entries → Released p entries v w → first.number ≢ 0 → (c : Called p round input o first second)
    → IsPrefix (seen w p) history → IsPrefix (seen second p) history
    → IsPrefix (seen second p) (seen v p) ⊎ IsPrefix (seen w p) (seen first p ++ c.between)
