-- The handler follows the courses of processes: what it knows of their slots, and what it holds.
use Rattle.std.specs.Prelude.{◌≡◌, ℕ, ◌<◌, true, false, List, [], ◌∷◌, ◌++◌, length, slice_index_or, Option, Some, None}
use mathlib.Core.List.{IsPrefix}
use Rattle.proc_history.specs.declared.value.Value.{Value}
use Rattle.proc_history.specs.Events.{HistoryEntry, ByHandler, own}
use Rattle.proc_history.specs.Histories.{replay, IsLegal}
use Rattle.proc_table.specs.declared.view.View.{View}
use Rattle.proc_table.specs.Agrees.{slots}
use Rattle.proc_table.specs.Holds.{Holding}
use Rattle.proc_table.specs.Parts.{Part, part_of}
use Rattle.proc_table.specs.Views.{seen, is_out}
use Rattle.held_processes.specs.Course.{Hold, Course, Courses, added, opening}
use Rattle.held_processes.specs.Course.Hold.{not_held}

-- entries of others than the handler, of which there are none where it has lent no pass
pub record AreStrangers (lent : List ℕ) (between : List HistoryEntry) : Type 0 where
  pub others : own 0 between ≡ []
  pub alone : lent ≡ [] → between ≡ []

-- The blocks, newest first, stand in a history after what it was at first: each whole, and in order. Between them, and after
-- them, stand entries of others alone.
abbrev pub Stand : List ℕ → List HistoryEntry → List (List HistoryEntry) → List HistoryEntry → Type 0
Stand lent first [] h = (between : List HistoryEntry) × AreStrangers lent between × (h ≡ first ++ between)
Stand lent first (b ∷ bs) h =
    (before between : List HistoryEntry) × Stand lent first bs before × AreStrangers lent between × (h ≡ (before ++ b) ++ between)

-- A process that is held. saved: what stood in its slot when the handler took it.
pub record HeldForm : Type 0 where
  pub held : Holding
  pub saved : Value
  pub hold : Hold

-- what is held, slot by slot
abbrev pub HeldSlots : Type 0
HeldSlots = List (Option HeldForm)

-- The process of this slot is held: it is what its history leaves, with what was done to it since.
pub record IsHeld (p : ℕ) (c : Course) (x : Part) (h : HeldForm) : Type 0 where
  pub slot : h.held.slot ≡ p
  pub hold : h.hold ≡ c.hold
  pub really : (c.hold ≡ not_held) → ⊥
  pub out : x.out ≡ true
  pub was_legal : IsLegal x.seen
  pub by : ByHandler c.pending
  pub legal : IsLegal (x.seen ++ c.pending)
  pub value : h.held.value ≡ replay (x.seen ++ c.pending)
  pub saved : h.saved ≡ replay x.seen

-- The slot isn't held.
pub record IsFree (c : Course) (x : Part) : Type 0 where
  pub hold : c.hold ≡ not_held
  pub pending : c.pending ≡ []
  pub out : x.out ≡ false

abbrev pub IsAt : ℕ → Course → Part → Option HeldForm → Type 0
IsAt p c x None = IsFree c x
IsAt p c x (Some h) = IsHeld p c x h

-- What the handler knows of a slot, and what it holds of it, is what the course says, since the moment at which it knew `first`.
pub record Follows (lent : List ℕ) (p : ℕ) (first : Part) (c : Course) (x : Part) (h : Option HeldForm) : Type 0 where
  pub mine : x.mine ≡ first.mine ++ added c.blocks
  pub stand : Stand lent first.seen c.blocks x.seen
  pub at : IsAt p c x h

-- The handler has followed the course of each slot since the moment at which its view was `first`: what it knows of the slot,
-- and what it holds of it, is what the course says.
pub record AllFollow (first : View) (cs : Courses) (hs : HeldSlots) (v : View) : Type 0 where
  pub handler : v.number ≡ 0
  pub count : v.count ≡ first.count
  pub lent : v.lent ≡ first.lent
  pub long : length hs ≡ slots
  pub each : (p : ℕ) → p < slots → Follows first.lent p (part_of first.parts p) (cs p) (part_of v.parts p) (slice_index_or hs p None)

-- A slot that isn't held, with the blocks of a course after what was known of it at first.
pub record IsLeft (lent : List ℕ) (first : Part) (c : Course) (x : Part) : Type 0 where
  pub mine : x.mine ≡ first.mine ++ added c.blocks
  pub stand : Stand lent first.seen c.blocks x.seen
  pub out : x.out ≡ false

-- The handler holds no slot, and has added the blocks of the courses, and nothing else, since its view was `first`.
pub record AreLeft (first : View) (cs : Courses) (v : View) : Type 0 where
  pub handler : v.number ≡ 0
  pub count : v.count ≡ first.count
  pub lent : v.lent ≡ first.lent
  pub each : (p : ℕ) → p < slots → IsLeft first.lent (part_of first.parts p) (cs p) (part_of v.parts p)

-- The handler holds no slot.
pub record HoldsNothing (v : View) : Type 0 where
  pub handler : v.number ≡ 0
  pub out : (p : ℕ) → p < slots → is_out v p ≡ false

-- What was seen of each slot is still in front, and so is what takes found.
pub record AreLonger (v w : View) : Type 0 where
  pub histories : (p : ℕ) → IsPrefix (seen v p) (seen w p)
  pub takes : IsPrefix v.found w.found

-- what the handler's view was at first, and the courses of the processes since then
pub record Followed : Type 0 where
  pub first : View
  pub courses : Courses

-- The handler added nothing.
abbrev pub AreUntouched : View → View → Type 0
AreUntouched v w = AreLeft v (λ p. opening) w
