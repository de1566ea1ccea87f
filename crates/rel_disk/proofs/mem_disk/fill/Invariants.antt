use Rattle.std.proofs.Common.{◌≡◌, ◌<◌, ◌≤◌, ℕ, length, slice_index, if◌then◌else◌}
use Rattle.rel_disk.specs.Picks.{is_written}
use Rattle.rel_disk.proofs.mem_disk.fill.Given as goal

-- the places so far are filled, and those after them are as they were
abbrev pub invariant-loop-at : goal.invariant-loop-at
invariant-loop-at l =
    (length l.bytes ≡ length l.fn.bytes)
    × ((i : ℕ) → i < l.at → slice_index l.bytes i ≡ (if is_written i l.log.calls then l.byte else slice_index l.fn.bytes i))
    × ((i : ℕ) → l.at ≤ i → slice_index l.bytes i ≡ slice_index l.fn.bytes i)
