-- A disk in memory, as contracts see it.
use Rattle.std.specs.Prelude.{◌≡◌, ℕ, ◌+◌, ◌-◌, ◌≤◌, ◌^◌, min, List, ◌∷◌, length}
use Rattle.rel_disk.specs.Calls.{Call, content, cost}
use Rattle.rel_disk.specs.Places.{smallest_length}

-- the bytes that it began with, the calls that it has done, newest first, the most bytes that it holds, the bytes that its log has
-- left, and its failures
pub record MemState : Type 0 where
  pub first : List ℕ
  pub calls : List Call
  pub capacity : ℕ
  pub room : ℕ
  pub failures : ℕ

-- the call leaves no more bytes than the disk holds, and takes no more of the log than is left
pub record HasRoomFor (disk : MemState) (call : Call) : Type 0 where
  pub held : length (content disk.first (call ∷ disk.calls)) ≤ disk.capacity
  pub logged : cost disk.first disk.calls call ≤ disk.room

-- the disk after a call that is done
abbrev pub after_call : Call → MemState → MemState
after_call call disk = record disk { calls = call ∷ disk.calls; room = disk.room - cost disk.first disk.calls call }

-- the disk after a call that has failed: the same, with one more failure
abbrev pub after_fault : MemState → MemState
after_fault disk = record disk { failures = min (2 ^ 64 - 1) (disk.failures + 1) }

-- the bytes are what the calls have left, the smallest length is known, and there is memory for as many bytes as the disk holds
pub record HoldsContent (bytes first : List ℕ) (calls : List Call) (smallest capacity reserved : ℕ) : Type 0 where
  pub is : bytes ≡ content first calls
  pub shortest : smallest ≡ smallest_length first calls
  pub within : length bytes ≤ capacity
  pub taken : capacity ≤ reserved
