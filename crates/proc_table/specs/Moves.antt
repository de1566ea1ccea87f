-- The kinds of step, and runs of them.
use Rattle.std.specs.Prelude.{◌≡◌, ◌≢◌, ℕ, zero, suc, ◌<◌, true, false, List, [], ◌∷◌, ◌++◌, slice_index, slice_set, None}
use mathlib.Core.Option.{some, none}
use mathlib.Core.List.{IsPrefix}
use Rattle.proc_table.specs.declared.view.View.{View}
use Rattle.proc_history.specs.declared.value.Value.{Value}
use Rattle.proc_history.specs.Events.{HistoryEntry, MayAdd}
use Rattle.proc_table.specs.Parts.{part}
use Rattle.proc_history.specs.Histories.{replay, IsLegal}
use Rattle.proc_table.specs.Views.{seen, mine, is_out, word_of, with_part, taken, found_more, no_guest, one_more, new_pass, joined, gone}
use Rattle.proc_table.specs.Agrees.{slots, States, state, start, Sits, Agrees}

-- the longest that any seat has seen of a slot
pub record IsHistory (s : States) (p : ℕ) (h : List HistoryEntry) : Type 0 where
  pub whole : (i : ℕ) × (v : View) × Sits s i v × (seen v p ≡ h)
  pub longest : (i : ℕ) (v : View) → Sits s i v → IsPrefix (seen v p) h

-- the word stays
abbrev pub kept : States → ℕ → List ℕ
kept s p = slice_set s.words p (slice_index s.words p)

-- a seat takes a slot whose word is 0: then it has seen its whole history, and keeps that it found 0
pub record Takes (s t : States) : Type 0 where
  pub i : ℕ
  pub p : ℕ
  pub v : View
  pub h : List HistoryEntry
  pub sits : Sits s i v
  pub alone : v.guest ≡ None
  pub inside : p < slots
  pub free : slice_index s.words p ≡ 0
  pub all : IsHistory s p h
  pub is : t ≡ state (slice_set s.words p (word_of v.number)) (slice_set s.homes p none) (slice_set s.views i (taken v p h))

-- a seat puts the value back, with its entries after the history
pub record Gives (s t : States) : Type 0 where
  pub i : ℕ
  pub p : ℕ
  pub v : View
  pub entries : List HistoryEntry
  pub sits : Sits s i v
  pub alone : v.guest ≡ None
  pub inside : p < slots
  pub out : is_out v p ≡ true
  pub may : MayAdd v.number entries
  pub legal : IsLegal (seen v p ++ entries)
  pub is : t ≡ state (slice_set s.words p 0) (slice_set s.homes p (some (replay (seen v p ++ entries))))
      (slice_set s.views i (with_part v p (part (seen v p ++ entries) (mine v p ++ entries) false false)))

-- a failed take: the word isn't 0, and the seat keeps what it found
pub record Misses (s t : States) : Type 0 where
  pub i : ℕ
  pub p : ℕ
  pub v : View
  pub sits : Sits s i v
  pub alone : v.guest ≡ None
  pub inside : p < slots
  pub busy : slice_index s.words p ≢ 0
  pub is : t ≡ state (kept s p) s.homes (slice_set s.views i (found_more v p (slice_index s.words p)))

-- the handler keeps the value in its hand, and lays some value in the slot; the word stays
pub record Lays (s t : States) : Type 0 where
  pub i : ℕ
  pub p : ℕ
  pub v : View
  pub y : Value
  pub sits : Sits s i v
  pub handler : v.number ≡ 0
  pub alone : v.guest ≡ None
  pub inside : p < slots
  pub out : is_out v p ≡ true
  pub is : t ≡ state (kept s p) (slice_set s.homes p (some y)) (slice_set s.views i (with_part v p (part (seen v p) (mine v p) true true)))

-- the handler takes the value that it laid there; the word stays
pub record Lifts (s t : States) : Type 0 where
  pub i : ℕ
  pub p : ℕ
  pub v : View
  pub sits : Sits s i v
  pub handler : v.number ≡ 0
  pub alone : v.guest ≡ None
  pub inside : p < slots
  pub out : is_out v p ≡ true
  pub is : t ≡ state (kept s p) (slice_set s.homes p none) (slice_set s.views i (with_part v p (part (seen v p) (mine v p) true false)))

-- a seat asks the table about what it knows; nothing changes, but that the pass joined last isn't kept
pub record Learns (s t : States) : Type 0 where
  pub i : ℕ
  pub p : ℕ
  pub v : View
  pub sits : Sits s i v
  pub is : t ≡ state (kept s p) s.homes (slice_set s.views i (no_guest v))

-- the handler makes a pass, which has seen as much
pub record Splits (s t : States) : Type 0 where
  pub i : ℕ
  pub v : View
  pub sits : Sits s i v
  pub handler : v.number ≡ 0
  pub alone : v.guest ≡ None
  pub is : t ≡ state s.words s.homes (slice_set s.views i (one_more v) ++ new_pass v ∷ [])

-- a pass that has nothing out is joined to another seat, and is spent
pub record Joins (s t : States) : Type 0 where
  pub i : ℕ
  pub j : ℕ
  pub v : View
  pub w : View
  pub first : Sits s i v
  pub second : Sits s j w
  pub two : j ≢ i
  pub pass : w.number ≢ 0
  pub none_out : (p : ℕ) → is_out w p ≡ false
  pub alone : (v.guest ≡ None) × (w.guest ≡ None)
  pub is : t ≡ state s.words s.homes (slice_set (slice_set s.views i (joined v w)) j gone)

pub data Moves (s t : States) : Type 0 where
  takes : Takes s t → Moves s t
  gives : Gives s t → Moves s t
  misses : Misses s t → Moves s t
  lays : Lays s t → Moves s t
  lifts : Lifts s t → Moves s t
  learns : Learns s t → Moves s t
  splits : Splits s t → Moves s t
  joins : Joins s t → Moves s t

-- a run of so many steps
abbrev pub Run : ℕ → States → States → Type 0
Run zero s t = s ≡ t
Run (suc n) s t = (u : States) × Run n s u × Moves u t

abbrev pub Runs : States → States → Type 0
Runs s t = (n : ℕ) × Run n s t

-- what the table keeps: some run leads here from the start
abbrev pub Reached : States → Type 0
Reached s = Runs start s

-- Every run keeps agreement.
abbrev pub RunsAgree : Type 0
RunsAgree = (s t : States) → Runs s t → Agrees s → Agrees t

-- What a run from the start leads to agrees.
abbrev pub ReachedAgrees : Type 0
ReachedAgrees = (s : States) → Reached s → Agrees s

-- While a seat has a slot, its word says so, and no other seat has it.
abbrev pub HeldAlone : Type 0
HeldAlone = (s : States) → Reached s → (i p : ℕ) (v : View) → Sits s i v → is_out v p ≡ true
    → (slice_index s.words p ≡ word_of v.number) × ((j : ℕ) (w : View) → j ≢ i → Sits s j w → is_out w p ≡ false)
