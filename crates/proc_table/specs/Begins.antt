-- What a begin of a process leaves.
use Rattle.std.specs.Prelude.{◌≡◌, ◌⊎◌, ℕ, ◌+◌, true, [], ◌∷◌, is_some, None, Result, Ok, Err}
use Rattle.proc_table.specs.declared.view.View.{View}
use Rattle.proc_table.specs.declared.pid.Pid.{Pid}
use Rattle.proc_history.specs.declared.beginning.Beginning.{Beginning}
use Rattle.proc_history.specs.Events.{entry}
use Rattle.proc_history.specs.Events.Event.{begin, given_up}
use Rattle.proc_table.specs.Holds.{Holding, Released}
use Rattle.proc_table.specs.Waits.{HeldAtLast}

-- The slot was held, and given back with the entry of a process that begins in it, or with none.
abbrev pub BeganAt : ℕ → Beginning → View → Result Pid Beginning → View → Type 0
BeganAt p b v (Ok pid) w = (h : Holding) × (u : View) × HeldAtLast p v h u × (h.value.now ≡ None) × (pid.slot ≡ p) × (pid.round ≡ h.value.round + 1)
    × Released p (entry 0 (begin pid.round b) ∷ []) u w
BeganAt p b v (Err given) w = (h : Holding) × (u : View) × HeldAtLast p v h u × ((is_some h.value.now ≡ true) ⊎ (h.value.round ≡ 4294967295)) × (given ≡ b) × Released p [] u w

-- The slot was held, and given back with nothing in it.
abbrev pub GaveUpAt : ℕ → View → View → Type 0
GaveUpAt p v w = (h : Holding) × (u : View) × HeldAtLast p v h u × Released p (entry 0 given_up ∷ []) u w
