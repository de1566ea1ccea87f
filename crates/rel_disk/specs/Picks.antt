-- What a crash leaves of a disk in memory, by a pick.
use Rattle.std.specs.Prelude.{◌≡◌, ◌<◌, ℕ, ◌-◌, Bool, false, ◌&&◌, ◌||◌, nat_le, nat_lt, List, [], ◌∷◌, length, take, slice_index, if◌then◌else◌}
use Rattle.rel_disk.specs.Calls.{Call, wrote, cut_to, synced, content}
use Rattle.rel_disk.specs.Places.{IsWritten, smallest_length}
use Rattle.rel_disk.specs.declared.pick.Pick.{Pick}
use Rattle.rel_disk.specs.declared.pick.Pick.TheVariants.{Kept, Filled, Short}

-- the test of `IsWritten`
abbrev pub is_written : ℕ → List Call → Bool
is_written i [] = false
is_written i (wrote at bytes ∷ older) = (nat_le at i && nat_lt (i - at) (length bytes)) || is_written i older
is_written i (cut_to len ∷ older) = is_written i older
is_written i (synced ∷ older) = false

-- the byte stands at each place for which the test holds, and all others are as they were
pub record IsFilled (byte : ℕ) (calls : List Call) (old new : List ℕ) : Type 0 where
  pub long : length new ≡ length old
  pub each : (i : ℕ) → i < length old → slice_index new i ≡ (if is_written i calls then byte else slice_index old i)

-- the byte stands wherever something was written since the last sync, and all others are as they were
pub record IsFilledBy (byte : ℕ) (calls : List Call) (old new : List ℕ) : Type 0 where
  pub long : length new ≡ length old
  pub written : (i : ℕ) → i < length old → IsWritten calls i → slice_index new i ≡ byte
  pub others : (i : ℕ) → i < length old → (IsWritten calls i → ⊥) → slice_index new i ≡ slice_index old i

-- what such a crash leaves
abbrev pub IsLeft : Pick → List ℕ → List Call → List ℕ → Type 0
IsLeft Kept first calls image = image ≡ content first calls
IsLeft (Filled b) first calls image = IsFilledBy b calls (content first calls) image
IsLeft Short first calls image = image ≡ take (smallest_length first calls) (content first calls)
