-- What the calls of a pass answer and leave.
use Rattle.std.specs.Prelude.{◌≡◌, ◌≢◌, ℕ, ◌+◌, true, List, [], ◌∷◌, ◌++◌, Option, Some, None}
use mathlib.Core.List.{IsPrefix}
use Rattle.proc_table.specs.declared.view.View.{View}
use Rattle.proc_history.specs.declared.value.Now.{Now}
use Rattle.proc_history.specs.declared.value.Outcome.{Outcome}
use Rattle.proc_history.specs.declared.value.Outcome.TheVariants as outcome
use Rattle.proc_table.specs.declared.pass.Tried.{Tried}
use Rattle.proc_table.specs.declared.pass.Tried.TheVariants as tried
use Rattle.proc_table.specs.declared.pass.Peeked.{Peeked}
use Rattle.proc_table.specs.declared.pass.Peeked.TheVariants as peeked
use Rattle.proc_history.specs.Events.{HistoryEntry, entry, own}
use Rattle.proc_history.specs.Events.Event.{call}
use Rattle.proc_table.specs.Parts.{longer, part_of}
use Rattle.proc_history.specs.Histories.{replay, IsLegal}
use Rattle.proc_history.specs.Values.{up_in, answer, outcome_of}
use Rattle.proc_table.specs.Views.{seen, mine, is_out, IsLent, all_but, found_more}

-- All but one slot is as before. What the takes found stands beside.
pub record Elsewhere (p : ℕ) (v w : View) : Type 0 where
  pub number : w.number ≡ v.number
  pub count : w.count ≡ v.count
  pub lent : w.lent ≡ v.lent
  pub others : (q : ℕ) → q ≢ p → part_of w.parts q ≡ part_of v.parts q

-- The call took the slot once, and found it free: what the seat then saw is the slot's whole history at that take. It is what
-- the seat had seen, then entries of others, of which there are none where the handler has lent no pass. It is legal, and the
-- seat's own entries in it are those that it made, in order.
pub record Looked (p : ℕ) (v w : View) : Type 0 where
  pub between : List HistoryEntry
  pub strangers : own v.number between ≡ []
  pub alone : v.number ≡ 0 → v.lent ≡ [] → between ≡ []
  pub seen_is : seen w p ≡ seen v p ++ between
  pub mine_is : mine w p ≡ mine v p
  pub legal : IsLegal (seen w p)
  pub once : own v.number (seen w p) ≡ mine w p
  pub found : w.found ≡ v.found ++ (p, 0) ∷ []
  pub rest : Elsewhere p v w

-- The call took the slot once, and found it free. It stands in the history: after what the pass had seen and entries of others,
-- which is the whole history at that take, once. The process was up in its round, and the outcome is that of its table's first
-- fitting row.
pub record Called (p round input : ℕ) (outcome : Outcome) (v w : View) : Type 0 where
  pub between : List HistoryEntry
  pub strangers : own v.number between ≡ []
  pub up : (n : Now) × (up_in round (replay (seen v p ++ between)) ≡ Some n) × (outcome ≡ outcome_of (answer n input))
  pub seen_is : seen w p ≡ (seen v p ++ between) ++ entry v.number (call input outcome) ∷ []
  pub mine_is : mine w p ≡ mine v p ++ entry v.number (call input outcome) ∷ []
  pub legal : IsLegal (seen w p)
  pub once : own v.number (seen w p) ≡ mine w p
  pub found : w.found ≡ v.found ++ (p, 0) ∷ []
  pub rest : Elsewhere p v w

-- the answer of a call that had this outcome
abbrev pub tried_of : Option Outcome → Tried
tried_of (Some (outcome.Done r)) = tried.Done r
tried_of (Some outcome.Crashed) = tried.Crashed
tried_of (Some (outcome.Ended r)) = tried.Ended r
tried_of None = tried.Down

abbrev pub peeked_of : Option ℕ → Peeked
peeked_of (Some s) = peeked.Seen s
peeked_of None = peeked.Down

-- what a call may answer
abbrev pub Answers : ℕ → ℕ → ℕ → View → Tried → View → Type 0
Answers p round input v (tried.Done r) w = Called p round input (outcome.Done r) v w
Answers p round input v tried.Crashed w = Called p round input outcome.Crashed v w
Answers p round input v (tried.Ended r) w = Called p round input (outcome.Ended r) v w
Answers p round input v tried.Busy w = w ≡ found_more v p 1
Answers p round input v tried.Held w = w ≡ found_more v p 2
Answers p round input v tried.Down w = Looked p v w × (up_in round (replay (seen w p)) ≡ None)

-- what a peek may answer
abbrev pub Shows : ℕ → ℕ → View → Peeked → View → Type 0
Shows p round v (peeked.Seen s) w = Looked p v w × ((n : Now) × (up_in round (replay (seen w p)) ≡ Some n) × (s ≡ n.state))
Shows p round v peeked.Busy w = w ≡ found_more v p 1
Shows p round v peeked.Held w = w ≡ found_more v p 2
Shows p round v peeked.Down w = Looked p v w × (up_in round (replay (seen w p)) ≡ None)

-- The handler's view is as before but for its count, and that it has lent the pass, whose number is that count. The pass has
-- seen as much, and has done nothing.
pub record Made (v w pass : View) : Type 0 where
  pub maker : v.number ≡ 0
  pub count : w.count ≡ v.count + 1
  pub number : pass.number ≡ w.count
  pub lent : w.lent ≡ w.count ∷ v.lent
  pub handler : (w.number ≡ v.number) × (w.parts ≡ v.parts) × (w.found ≡ v.found)
  pub seen_is : (p : ℕ) → seen pass p ≡ seen v p
  pub mine_is : (p : ℕ) → mine pass p ≡ []
  pub once : (p : ℕ) → own pass.number (seen pass p) ≡ []
  pub found : pass.found ≡ []

-- The seat v was joined by the pass w, which isn't lent any more. Of each slot it has seen the longer of the two, in which the
-- own entries of both stand, in order and each once. The handler had seen before all entries in it but those of the passes that
-- it had lent. All else stays.
pub record Joined (v w both : View) : Type 0 where
  pub number : both.number ≡ v.number
  pub count : both.count ≡ v.count
  pub lent : both.lent ≡ all_but w.number v.lent
  pub found : both.found ≡ v.found
  pub seen_is : (p : ℕ) → seen both p ≡ longer (seen v p) (seen w p)
  pub first : (p : ℕ) → IsPrefix (seen v p) (seen both p)
  pub second : (p : ℕ) → IsPrefix (seen w p) (seen both p)
  pub mine_is : (p : ℕ) → mine both p ≡ mine v p
  pub out_is : (p : ℕ) → is_out both p ≡ is_out v p
  pub held : (p : ℕ) → is_out both p ≡ true → seen both p ≡ seen v p
  pub legal : (p : ℕ) → IsLegal (seen both p)
  pub once : (p : ℕ) → own v.number (seen both p) ≡ mine v p
  pub other_once : (p : ℕ) → own w.number (seen both p) ≡ mine w p
  pub settled : v.number ≡ 0 → (p n : ℕ) → ¬ IsLent v n → own n (seen both p) ≡ own n (seen v p)
