-- When the words, the values at home and the views agree: each slot has one legal history.
use Rattle.std.specs.Prelude.{◌≡◌, ◌≢◌, ℕ, ◌<◌, ◌≤◌, true, false, List, [], length, replicate, slice_index, Option, Some, Contains}
use mathlib.Core.Option as base
use mathlib.Core.Option.{some}
use mathlib.Core.List.{IsPrefix}
use lib.ListN.{get_elem?}
use Rattle.atomic_table.specs.Table.{State, opening}
use Rattle.proc_table.specs.declared.TheConstants.{SLOTS}
use Rattle.proc_table.specs.declared.view.View.{View}
use Rattle.proc_history.specs.declared.value.Value.{Value}
use Rattle.proc_history.specs.Events.{HistoryEntry, own}
use Rattle.proc_table.specs.Parts.{Part, Guest, part_of}
use Rattle.proc_history.specs.Values.{nothing}
use Rattle.proc_history.specs.Histories.{replay, IsLegal}
use Rattle.proc_table.specs.Views.{seen, is_out, IsLent, word_of, handler_view}

-- how many words and slots there are
unfoldable pub slots : ℕ
slots = SLOTS

abbrev pub States : Type 0
States = State Value View

abbrev pub state : List ℕ → List (base.Option Value) → List View → States
state ws hs vs = record { words = ws; homes = hs; views = vs }

abbrev pub start : States
start = opening (replicate slots 0) (replicate slots nothing) (handler_view slots)

-- this seat has this view, which isn't spent
abbrev pub Sits : States → ℕ → View → Type 0
Sits s i v = (get_elem? s.views i ≡ some v) × (v.spent ≡ false)

-- What a seat knows of a slot fits the slot's history, word and home.
-- begins: what it has seen begins the history. own_seen, own_all: its own entries in either are `mine`.
-- all_where_out, word_where_out: where it has the value, it has seen all, and the word says so.
-- laid: where an empty value is laid in its place, the slot is out, and some value at home.
-- held, met_first, met_second, met_own: after a join, what is out was seen whole before; either had seen a beginning of what
-- is seen now, in which the own entries of the joined pass are its `mine`. met_settled: the handler had seen before all entries
-- but those of the passes that it had lent.
pub record FitsPart (h : List HistoryEntry) (word : ℕ) (home : base.Option (base.Option Value)) (number : ℕ) (guest : Option Guest) (p : ℕ) (x : Part) : Type 0 where
  pub begins : IsPrefix x.seen h
  pub own_seen : own number x.seen ≡ x.mine
  pub own_all : own number h ≡ x.mine
  pub all_where_out : x.out ≡ true → x.seen ≡ h
  pub word_where_out : x.out ≡ true → word ≡ word_of number
  pub laid : x.laid ≡ true → (x.out ≡ true) × ((y : Value) × (home ≡ some (some y)))
  pub held : (g : Guest) → guest ≡ Some g → x.out ≡ true → x.seen ≡ (part_of g.before p).seen
  pub met_first : (g : Guest) → guest ≡ Some g → IsPrefix (part_of g.before p).seen x.seen
  pub met_second : (g : Guest) → guest ≡ Some g → IsPrefix (part_of g.parts p).seen x.seen
  pub met_own : (g : Guest) → guest ≡ Some g → own g.number x.seen ≡ (part_of g.parts p).mine
  pub met_settled : (g : Guest) → guest ≡ Some g → number ≡ 0 → (n : ℕ) → ¬ Contains g.lent n → own n x.seen ≡ own n (part_of g.before p).seen

-- One slot. legal: its history may have happened. home: at word 0 the value at home is what the history leaves.
-- taken, alone: at another word one seat has the value, and no two have it. parts: what each seat knows of it fits.
-- whole: some seat has seen the whole history.
pub record SlotAgrees (s : States) (h : List HistoryEntry) (p : ℕ) : Type 0 where
  pub legal : IsLegal h
  pub home : p < slots → slice_index s.words p ≡ 0 → get_elem? s.homes p ≡ some (some (replay h))
  pub taken : slice_index s.words p ≢ 0 → (i : ℕ) × (v : View) × Sits s i v × (is_out v p ≡ true)
  pub alone : (i j : ℕ) (v w : View) → Sits s i v → Sits s j w → is_out v p ≡ true → is_out w p ≡ true → i ≡ j
  pub parts : (i : ℕ) (v : View) → Sits s i v → FitsPart h (slice_index s.words p) (get_elem? s.homes p) v.number v.guest p (part_of v.parts p)
  pub whole : (i : ℕ) × (v : View) × Sits s i v × (seen v p ≡ h)

-- Of a seat: its number is none above the count of passes, and the handler knows that count.
pub record FitsSeat (passes : ℕ) (v : View) : Type 0 where
  pub number : v.number ≤ passes
  pub count : v.number ≡ 0 → v.count ≡ passes
  pub parts : length v.parts ≡ slots

-- given: no entry has a number above the count of passes. apart: no two seats have one number.
-- lent: the handler has lent each pass. settled: it has seen all entries but those of the passes that it has lent.
pub record Agrees (s : States) : Type 0 where
  pub history : ℕ → List HistoryEntry
  pub passes : ℕ
  pub words : length s.words ≡ slots
  pub homes : length s.homes ≡ slots
  pub each : (p : ℕ) → SlotAgrees s (history p) p
  pub given : (p n : ℕ) → passes < n → own n (history p) ≡ []
  pub seats : (i : ℕ) (v : View) → Sits s i v → FitsSeat passes v
  pub apart : (i j : ℕ) (v w : View) → Sits s i v → Sits s j w → v.number ≡ w.number → i ≡ j
  pub lent : (i j : ℕ) (v w : View) → Sits s i v → Sits s j w → v.number ≡ 0 → w.number ≢ 0 → IsLent v w.number
  pub settled : (i p n : ℕ) (v : View) → Sits s i v → v.number ≡ 0 → ¬ IsLent v n → own n (history p) ≡ own n (seen v p)
