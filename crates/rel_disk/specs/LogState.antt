-- The log of a disk in memory, as contracts see it.
use Rattle.std.specs.Prelude.{◌≡◌, ℕ, ◌+◌, ◌-◌, ◌≤◌, List, ◌∷◌, length, drop}
use Rattle.rel_disk.specs.Calls.{Call, since_sync}
use Rattle.rel_disk.specs.LogBytes.{entries_of, calls_of, AllFit}

-- what the disk began with, the calls that the log keeps, newest first, and how many bytes it has left
pub record LogState : Type 0 where
  pub first : List ℕ
  pub calls : List Call
  pub room : ℕ

-- the log with one call more, at this cost
abbrev pub with_call : Call → ℕ → LogState → LogState
with_call call cost log = record log { calls = call ∷ log.calls; room = log.room - cost }

-- Bytes that are entries alone from start on, those since the last sync from synced on, and memory for as many more as the log has left.
pub record KeepsCalls (bytes : List ℕ) (start synced room capacity : ℕ) : Type 0 where
  pub entries : entries_of (calls_of (drop start bytes)) ≡ drop start bytes
  pub fit : AllFit (calls_of (drop start bytes))
  pub recent : drop synced bytes ≡ entries_of (since_sync (calls_of (drop start bytes)))
  pub begun : start ≤ synced
  pub within : synced ≤ length bytes
  pub reserved : length bytes + room ≤ capacity
