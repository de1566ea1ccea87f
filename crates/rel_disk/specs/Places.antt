-- The disk stated by places: what a crash keeps, by the ranges that were written and the smallest length since the last sync.
use Rattle.std.specs.Prelude.{◌≡◌, ◌⊎◌, ℕ, ◌+◌, ◌<◌, ◌≤◌, min, List, [], ◌∷◌, length, slice_index}
use Rattle.rel_disk.specs.Calls.{Call, wrote, cut_to, synced, content}

-- No byte is lost, and each outside the range is as it was.
pub record KeepsOutside (at n : ℕ) (old new : List ℕ) : Type 0 where
  pub long : length old ≤ length new
  pub kept : (i : ℕ) → i < length old → (i < at) ⊎ (at + n ≤ i) → slice_index new i ≡ slice_index old i

-- Of the first n bytes none is lost, and each is as it was.
pub record KeepsFront (n : ℕ) (old new : List ℕ) : Type 0 where
  pub long : min n (length old) ≤ length new
  pub kept : (i : ℕ) → i < n → i < length old → slice_index new i ≡ slice_index old i

-- what a read gave at the last sync, or at the beginning
abbrev pub synced_content : List ℕ → List Call → List ℕ
synced_content first [] = first
synced_content first (wrote at bytes ∷ older) = synced_content first older
synced_content first (cut_to len ∷ older) = synced_content first older
synced_content first (synced ∷ older) = content first older

-- the smallest length that the disk had since then
abbrev pub smallest_length : List ℕ → List Call → ℕ
smallest_length first [] = length first
smallest_length first (wrote at bytes ∷ older) = min (length (content first (wrote at bytes ∷ older))) (smallest_length first older)
smallest_length first (cut_to len ∷ older) = min (length (content first (cut_to len ∷ older))) (smallest_length first older)
smallest_length first (synced ∷ older) = length (content first older)

-- a write since the last sync had this place in its range
abbrev pub IsWritten : List Call → ℕ → Type 0
IsWritten [] i = ⊥
IsWritten (wrote at bytes ∷ older) i = ((at ≤ i) × (i < at + length bytes)) ⊎ IsWritten older i
IsWritten (cut_to len ∷ older) i = IsWritten older i
IsWritten (synced ∷ older) i = ⊥

-- No call has written or cut since the last sync.
abbrev pub IsAtRest : List Call → Type 0
IsAtRest [] = Unit {0}
IsAtRest (wrote at bytes ∷ older) = ⊥
IsAtRest (cut_to len ∷ older) = ⊥
IsAtRest (synced ∷ older) = Unit {0}

-- Each place that wasn't written, below the smallest length, is as it was at the last sync; the length is no smaller than that.
-- At rest it is what a read gives.
pub record Survives (first : List ℕ) (calls : List Call) (image : List ℕ) : Type 0 where
  pub long : smallest_length first calls ≤ length image
  pub kept : (i : ℕ) → i < smallest_length first calls → (IsWritten calls i → ⊥) → slice_index image i ≡ slice_index (synced_content first calls) i
  pub at_rest : IsAtRest calls → image ≡ content first calls
