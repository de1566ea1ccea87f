-- In which slots a process can begin, as the handler knows it.
use Rattle.std.specs.Prelude.{◌≡◌, ℕ, zero, suc, ◌+◌, ◌<◌, List, length, slice_index_or, Option, Some, None, is_some, if◌then◌else◌, Result, Ok, Err}
use Rattle.proc_table.specs.declared.view.View.{View}
use Rattle.proc_table.specs.declared.pid.Pid.{Pid}
use Rattle.proc_history.specs.declared.beginning.Beginning.{Beginning}
use Rattle.proc_history.specs.Events.{HistoryEntry}
use Rattle.proc_history.specs.Histories.{replay}
use Rattle.proc_history.specs.Values.{next_round}
use Rattle.proc_table.specs.Views.{seen, is_out}
use Rattle.proc_table.specs.Agrees.{slots, States, Sits}
use Rattle.proc_table.specs.Moves.{Reached, IsHistory}
use Rattle.proc_table.specs.Begins.{BeganAt}

-- The round of the process that can begin in the slot, by the history that the seat knows. None can where the seat holds the
-- slot itself, where a process stands, or where the last round was used.
abbrev pub next_in : View → ℕ → Option ℕ
next_in v p = if is_out v p then None else next_round (replay (seen v p))

-- what is noted of each slot
pub record Noted (rounds : List (Option ℕ)) (v : View) : Type 0 where
  pub long : length rounds ≡ slots
  pub each : (p : ℕ) → p < slots → slice_index_or rounds p None ≡ next_in v p

-- a process can begin in the slot, with this round, and in no lower one
pub record LowestFree (v : View) (pid : Pid) : Type 0 where
  pub next : next_in v pid.slot ≡ Some pid.round
  pub lower : (q : ℕ) → q < pid.slot → next_in v q ≡ None

-- a process can begin in no slot
abbrev pub NoneFree : View → Type 0
NoneFree v = (q : ℕ) → q < slots → next_in v q ≡ None

-- in how many of so many lowest slots a process can begin
abbrev pub free_below : View → ℕ → ℕ
free_below v zero = 0
free_below v (suc n) = free_below v n + (if is_some (next_in v n) then 1 else 0)

-- in how many slots a process can begin
abbrev pub free_count : View → ℕ
free_count v = free_below v slots

-- A process began in the lowest slot in which one can. Nothing changed where there is none.
abbrev pub BeganLowest : Beginning → View → Result Pid Beginning → View → Type 0
BeganLowest b v (Ok pid) w = LowestFree v pid × BeganAt pid.slot b v (Ok pid) w
BeganLowest b v (Err given) w = NoneFree v × (given ≡ b) × (w ≡ v)

-- A process can begin with the same round by the whole history as by what the handler has seen of it, whatever clients did
-- meanwhile.
abbrev pub HandlerKnows : Type 0
HandlerKnows = (s : States) → Reached s → (i p : ℕ) (v : View) (h : List HistoryEntry) → Sits s i v → v.number ≡ 0 → IsHistory s p h
    → next_round (replay h) ≡ next_round (replay (seen v p))

-- A process that began has one of the slots in which one could begin. There is none of them exactly where none is counted.
abbrev pub BeginsTakeOne : Type 0
BeginsTakeOne = ((b : Beginning) (v w : View) (pid : Pid) → BeganLowest b v (Ok pid) w → free_count v ≡ free_count w + 1)
    × ((v : View) → NoneFree v → free_count v ≡ 0)
