-- Which bytes of a disk a call changes, and what it makes of them.
use Rattle.std.specs.Prelude.{◌≡◌, ◌⊎◌, ℕ, ◌+◌, ◌<◌, ◌≤◌, ◌==◌, if◌then◌else◌, List, [], ◌∷◌, ◌++◌, length, slice_index}
use Rattle.rel_disk.specs.Damage.{overwritten}
use Rattle.rel_store.specs.Layout.{other_slot, other_selector, other_base_slot, slot_with}
use Rattle.rel_store.specs.Records.{record_bytes}

-- none of the bytes is lost, and each that is not the call's own is as it was
pub record LeavesOthers (is_own : ℕ → Type 0) (old new : List ℕ) : Type 0 where
  pub long : length old ≤ length new
  pub kept : (i : ℕ) → i < length old → (is_own i → ⊥) → slice_index new i ≡ slice_index old i

-- each of the bytes that is not the call's own is there, and as it was
pub record KeepsOthers (is_own : ℕ → Type 0) (old new : List ℕ) : Type 0 where
  pub there : (i : ℕ) → i < length old → (is_own i → ⊥) → (i < length new) × (slice_index new i ≡ slice_index old i)

-- an append's own: a record with a body of n bytes at this gate, and the gate after it
abbrev pub IsInRecord : ℕ → ℕ → ℕ → Type 0
IsInRecord gate n i = (gate ≤ i) × (i < gate + (6 + n))

-- a new start text's own: the start slot that doesn't count, and the selector
abbrev pub IsInOtherSlot : List ℕ → ℕ → Type 0
IsInOtherSlot bytes i = (i ≡ 9) ⊎ ((other_slot bytes ≤ i) × (i < other_slot bytes + 128))

-- a change of format's own: the byte that gives it, in a store of format 1, and none in one of format 2
abbrev pub IsFormat : ℕ → ℕ → Type 0
IsFormat format i = (format ≡ 1) × (i ≡ 11)

-- a creation's own: the layout, a record with a body of n bytes, and the gate after it
abbrev pub IsInNewStore : ℕ → ℕ → Type 0
IsInNewStore n i = i < 294 + n

-- a compaction's own: the selector of the base slots, the one that doesn't count, and an image with a body of n bytes at
-- this place, with its gates; after 288, where it may stand, also all that follows
abbrev pub IsInCompaction : List ℕ → ℕ → ℕ → ℕ → Type 0
IsInCompaction bytes place n i = ((i ≡ 10) ⊎ ((other_base_slot bytes ≤ i) × (i < other_base_slot bytes + 8))) ⊎ ((place ≤ i) × ((place ≡ 288) ⊎ (i < place + (6 + n))))

-- these bytes with one record more, which begins at this gate, and a closed gate after it
abbrev pub with_record : ℕ → List ℕ → List ℕ → List ℕ
with_record gate body bytes = overwritten gate (1 ∷ (record_bytes body ++ 0 ∷ [])) bytes

-- these bytes with this text in the start slot that didn't count, and now counts
abbrev pub with_start : List ℕ → List ℕ → List ℕ
with_start text bytes = overwritten 9 (other_selector bytes ∷ []) (overwritten (other_slot bytes) (slot_with text) bytes)

-- these bytes of a store of this format, made one of format 2
abbrev pub with_format_2 : ℕ → List ℕ → List ℕ
with_format_2 format bytes = if format == 2 then bytes else overwritten 11 (2 ∷ []) bytes
