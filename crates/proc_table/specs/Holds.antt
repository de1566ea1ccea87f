-- What the handler's calls leave.
use Rattle.std.specs.Prelude.{◌≡◌, ◌⊎◌, ℕ, true, false, List, ◌++◌}
use Rattle.std.proofs.Common.{refl}
use Rattle.std.specs.Coded.{Coded, coded×, coded_ℕ, code_by}
use Rattle.proc_table.specs.declared.view.View.{View}
use Rattle.proc_history.specs.declared.value.Value.{Value}
use Rattle.proc_history.specs.Events.{HistoryEntry, own}
use Rattle.proc_history.specs.Histories.{replay, IsLegal}
use Rattle.proc_table.specs.Views.{seen, mine, is_out, found_more}
use Rattle.proc_table.specs.Calls.{Elsewhere, Looked}

-- a slot that the handler holds, and what stands in it
pub record Holding : Type 0 where
  pub slot : ℕ
  pub value : Value

abbrev pub holding_code : Coded Value → Coded Holding
holding_code value = code_by (ℕ × Value) (coded× coded_ℕ value) (λ h. (h.slot, h.value)) (λ t. record { slot = t.0; value = t.1 }) (λ _. refl)

-- The handler took the slot in this call and holds it: it has seen the whole history, and the value is what that leaves.
pub record HeldNow (p : ℕ) (v : View) (held : Holding) (w : View) : Type 0 where
  pub handler : v.number ≡ 0
  pub slot : held.slot ≡ p
  pub looked : Looked p v w
  pub out : is_out w p ≡ true
  pub value : held.value ≡ replay (seen w p)

-- the step of the handler found a client's word, or its own
abbrev pub NotHeld : ℕ → View → View → Type 0
NotHeld p v w = (n : ℕ) × ((n ≡ 1) ⊎ (n ≡ 2)) × (w ≡ found_more v p n)

-- The slot was given back, with these entries after what the handler had seen, as one. No slot was taken.
pub record Released (p : ℕ) (entries : List HistoryEntry) (v w : View) : Type 0 where
  pub seen_is : seen w p ≡ seen v p ++ entries
  pub mine_is : mine w p ≡ mine v p ++ entries
  pub out : is_out w p ≡ false
  pub legal : IsLegal (seen w p)
  pub once : own v.number (seen w p) ≡ mine w p
  pub found : w.found ≡ v.found
  pub rest : Elsewhere p v w
