-- What the calls that wait answer and leave.
use Rattle.std.specs.Prelude.{◌≡◌, ◌⊎◌, ℕ, true, List, [], ◌∷◌, ◌++◌}
use mathlib.Core.List.{IsPrefix}
use Rattle.proc_table.specs.declared.view.View.{View}
use Rattle.proc_table.specs.declared.pass.Tried.{Tried}
use Rattle.proc_table.specs.declared.pass.Tried.TheVariants.{Busy, Held}
use Rattle.proc_history.specs.Events.{HistoryEntry, own}
use Rattle.proc_history.specs.Histories.{replay, IsLegal}
use Rattle.proc_table.specs.Views.{seen, mine, is_out}
use Rattle.proc_table.specs.Calls.{Answers, Elsewhere}
use Rattle.proc_table.specs.Holds.{Holding, HeldNow, Released}

-- each word is a client's or the handler's
abbrev pub AreBusy : List ℕ → Type 0
AreBusy [] = Unit {0}
AreBusy (n ∷ ns) = ((n ≡ 1) ⊎ (n ≡ 2)) × AreBusy ns

-- the failed takes of one slot that found these words
abbrev pub at_slot : ℕ → List ℕ → List (ℕ × ℕ)
at_slot p [] = []
at_slot p (n ∷ ns) = (p, n) ∷ at_slot p ns

-- Some steps found the slot taken, and nothing else changed.
pub record Waited (p : ℕ) (v w : View) : Type 0 where
  pub words : List ℕ
  pub busy : AreBusy words
  pub is : w ≡ record v { found = v.found ++ at_slot p words }

abbrev pub IsAnswer : Tried → Type 0
IsAnswer Busy = ⊥
IsAnswer Held = ⊥
IsAnswer t = Unit {0}

-- The last take since the view v was of this slot, and got it. Those before it were of this slot too, and found it taken.
pub record FoundAtLast (p : ℕ) (v w : View) : Type 0 where
  pub words : List ℕ
  pub busy : AreBusy words
  pub is : w.found ≡ (v.found ++ at_slot p words) ++ (p, 0) ∷ []

-- Since the view v the seat took this slot, and got it.
pub record HasTaken (p : ℕ) (v w : View) : Type 0 where
  pub before : List (ℕ × ℕ)
  pub is : IsPrefix ((v.found ++ before) ++ (p, 0) ∷ []) w.found

-- After some steps that found the slot taken, the answer of one that did not.
pub record AnswersAtLast (p round input : ℕ) (v : View) (t : Tried) (w : View) : Type 0 where
  pub before : View
  pub waited : Waited p v before
  pub is_answer : IsAnswer t
  pub answers : Answers p round input before t w

-- After some steps that found the slot taken, one that took it.
pub record HeldAtLast (p : ℕ) (v : View) (h : Holding) (w : View) : Type 0 where
  pub before : View
  pub waited : Waited p v before
  pub held : HeldNow p before h w

-- Of a slot that was waited for and is held, since before the waiting: the last take got it, and those before it found it taken.
-- Entries of others came, of which there are none where the handler has lent no pass, and other slots are as they were.
pub record HeldSince (p : ℕ) (v : View) (h : Holding) (w : View) : Type 0 where
  pub between : List HistoryEntry
  pub strangers : own v.number between ≡ []
  pub handler : v.number ≡ 0
  pub alone : v.lent ≡ [] → between ≡ []
  pub seen_is : seen w p ≡ seen v p ++ between
  pub mine_is : mine w p ≡ mine v p
  pub legal : IsLegal (seen w p)
  pub once : own v.number (seen w p) ≡ mine w p
  pub slot : h.slot ≡ p
  pub out : is_out w p ≡ true
  pub value : h.value ≡ replay (seen w p)
  pub found : FoundAtLast p v w
  pub elsewhere : Elsewhere p v w

-- What is held was waited for, or not, with the same outcome. A release leaves other slots as they were.
abbrev pub HoldsAndReleases : Type 0
HoldsAndReleases = ((p : ℕ) (v : View) (h : Holding) (w : View) → HeldAtLast p v h w → HeldSince p v h w)
    × ((p : ℕ) (entries : List HistoryEntry) (v w : View) → Released p entries v w → Elsewhere p v w)
