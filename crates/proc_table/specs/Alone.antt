-- What the handler does while no pass is lent: nobody else adds to a history.
use Rattle.std.specs.Prelude.{◌≡◌, ◌≢◌, ℕ, ◌+◌, [], ◌∷◌, ◌++◌, Some, None}
use Rattle.proc_table.specs.declared.view.View.{View}
use Rattle.proc_history.specs.declared.value.Now.{Now}
use Rattle.proc_history.specs.declared.value.Outcome.{Outcome}
use Rattle.proc_history.specs.declared.value.Outcome.TheVariants as outcome
use Rattle.proc_table.specs.declared.pass.Tried.{Tried}
use Rattle.proc_table.specs.declared.pass.Tried.TheVariants as tried
use Rattle.proc_history.specs.Events.{entry}
use Rattle.proc_history.specs.Events.Event.{call}
use Rattle.proc_history.specs.Histories.{replay, IsLegal}
use Rattle.proc_history.specs.Values.{up_in, answer, outcome_of}
use Rattle.proc_table.specs.Views.{seen, mine, is_out}
use Rattle.proc_table.specs.Holds.{Holding}
use Rattle.proc_table.specs.Waits.{HeldAtLast}

-- A pass was made for one call of the slot, and taken back: it is counted, and no pass is lent. What the handler has seen of
-- other slots, its own entries, and what it holds are as before.
pub record ByOnePass (p : ℕ) (v w : View) : Type 0 where
  pub number : w.number ≡ v.number
  pub count : w.count ≡ v.count + 1
  pub lent : w.lent ≡ []
  pub found : w.found ≡ v.found
  pub others : (q : ℕ) → q ≢ p → seen w q ≡ seen v q
  pub mine_is : (q : ℕ) → mine w q ≡ mine v q
  pub out_is : (q : ℕ) → is_out w q ≡ is_out v q
  pub legal : (q : ℕ) → IsLegal (seen w q)

-- The call stands right after what the handler had seen. The process was up in its round, and the outcome is that of its
-- table's first fitting row.
pub record CalledAlone (p round input : ℕ) (o : Outcome) (v w : View) : Type 0 where
  pub up : (n : Now) × (up_in round (replay (seen v p)) ≡ Some n) × (o ≡ outcome_of (answer n input))
  pub seen_is : seen w p ≡ seen v p ++ entry (v.count + 1) (call input o) ∷ []
  pub rest : ByOnePass p v w

-- The process wasn't up in its round, by what the handler had seen, and nothing was added to that.
pub record DownAlone (p round : ℕ) (v w : View) : Type 0 where
  pub down : up_in round (replay (seen v p)) ≡ None
  pub seen_is : seen w p ≡ seen v p
  pub rest : ByOnePass p v w

-- what a call may answer while no other pass is lent
abbrev pub AnswersAlone : ℕ → ℕ → ℕ → View → Tried → View → Type 0
AnswersAlone p round input v (tried.Done r) w = CalledAlone p round input (outcome.Done r) v w
AnswersAlone p round input v tried.Crashed w = CalledAlone p round input outcome.Crashed v w
AnswersAlone p round input v (tried.Ended r) w = CalledAlone p round input (outcome.Ended r) v w
AnswersAlone p round input v tried.Down w = DownAlone p round v w
AnswersAlone p round input v tried.Busy w = ⊥
AnswersAlone p round input v tried.Held w = ⊥

-- A slot that the handler waited for and holds, while no pass is lent, has the history that it had seen, and what stands in it
-- is what that leaves.
abbrev pub AloneSeesAll : Type 0
AloneSeesAll = (p : ℕ) (v : View) (h : Holding) (w : View) → HeldAtLast p v h w → v.lent ≡ []
    → (seen w p ≡ seen v p) × (h.value ≡ replay (seen v p))
