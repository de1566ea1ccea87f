-- A store as its callers see it: its records, its start slot, its disk, and what is known of them.
use Rattle.std.specs.Prelude.{◌≡◌, ℕ, ◌+◌, ◌<◌, ◌≤◌, min, Bool, true, false, ◌==◌, List, map, Result, Ok, Err, vec_len, vec_capacity, slice_index}
use Rattle.rel_disk.specs.Damage.{Only}
use Rattle.rel_disk.specs.Moments.{HasFailed}
use Rattle.rel_store.specs.Layout.{text_of, base_of, format_of}
use Rattle.rel_store.specs.Records.{records_of, space}
use Rattle.rel_store.specs.declared.error.StoreError.{StoreError}
use Rattle.rel_store.specs.declared.error.StoreError.TheVariants.{Full, Device, NoMemory, MustReopen}
use Rattle.rel_store.specs.declared.store.Store.{Store}

-- the disk of a store
abbrev pub disk_in : {D : Type 0} → Store D → D
disk_in store = store.disk

-- the disk in a store that was made, or beside the refusal
abbrev pub disk_of : {D : Type 0} → Result (Store D) (StoreError × D) → D
disk_of (Ok store) = store.disk
disk_of (Err refusal) = refusal.1

-- the bodies of its records, in order
abbrev pub records_in : {D : Type 0} → Store D → List (List ℕ)
records_in store = map (λ v. v.items) store.records.items

-- the start slot that counts, on its disk
abbrev pub text_in : {D : Type 0} → (D → List ℕ) → Store D → List ℕ
text_in seen store = text_of (seen store.disk)

-- the place of its closed gate
abbrev pub gate_in : {D : Type 0} → Store D → ℕ
gate_in store = store.gate

-- the place of its first record
abbrev pub base_in : {D : Type 0} → Store D → ℕ
base_in store = store.base

-- where a store ends: one past its closed gate
abbrev pub end_in : {D : Type 0} → Store D → ℕ
end_in store = store.gate + 1

-- the format of a store, 1 or 2
abbrev pub format_in : {D : Type 0} → Store D → ℕ
format_in store = store.format

-- the device has failed, and the store has to be opened again
abbrev pub has_failed : {D : Type 0} → Store D → Bool
has_failed store = store.must_reopen

-- a body of n bytes is short enough, and the store wouldn't end past its bound with it
abbrev pub Fits : ℕ → ℕ → Type 0
Fits end n = (n ≤ 16777216) × (end + (5 + n) ≤ 67108864)

-- A store has the memory for one record more, with a body of n bytes or the longest that there is.
abbrev pub HasRoom : {D : Type 0} → ℕ → Store D → Type 0
HasRoom n store = (min n 16777216 + 6 ≤ vec_capacity store.spare) × (vec_len store.records < vec_capacity store.records)

-- A store's disk is an open store with its records, undamaged, and a crash leaves nothing else.
pub record IsSettled {D : Type 0} (seen : D → List ℕ) (may_leave : D → List ℕ → Type 0) (store : Store D) : Type 0 where
  pub works : has_failed store ≡ false
  pub records : records_of (seen store.disk) ≡ Ok (records_in store)
  pub durable : Only (seen store.disk) (may_leave store.disk)
  pub end : store.gate ≡ base_of (seen store.disk) + space (records_in store)
  pub start : store.second_start ≡ (slice_index (seen store.disk) 9 == 1)
  pub base : store.base ≡ base_of (seen store.disk)
  pub chooses : store.second_base ≡ (slice_index (seen store.disk) 10 == 1)
  pub format : store.format ≡ format_of (seen store.disk)

-- What is known of a store between two calls: it is settled, unless the device has failed.
pub record IsSoundStore {D : Type 0} (seen : D → List ℕ) (may_leave : D → List ℕ → Type 0) (store : Store D) : Type 0 where
  pub settled : has_failed store ≡ false → IsSettled seen may_leave store

-- Nothing of a store has changed but the memory that it holds.
pub record IsSame {D : Type 0} (old new : Store D) : Type 0 where
  pub disk : disk_in new ≡ disk_in old
  pub records : records_in new ≡ records_in old
  pub base : base_in new ≡ base_in old
  pub end : end_in new ≡ end_in old
  pub format : format_in new ≡ format_in old
  pub failed : has_failed new ≡ has_failed old

-- Why a call on a store refuses, and what stands after it: Full and NoMemory where these hold, Device where the disk's
-- failures rose, MustReopen after a Device alone.
abbrev pub Refused : {D : Type 0} → (D → ℕ) → Type 0 → Type 0 → Store D → Store D → StoreError → Type 0
Refused failures full no_memory old new Full = full × (has_failed old ≡ false) × IsSame old new
Refused failures full no_memory old new NoMemory = no_memory × (has_failed old ≡ false) × IsSame old new
Refused failures full no_memory old new Device =
    HasFailed (failures (disk_in old)) (failures (disk_in new)) × (has_failed old ≡ false) × (has_failed new ≡ true) × (records_in new ≡ records_in old)
Refused failures full no_memory old new MustReopen = (has_failed old ≡ true) × IsSame old new
Refused failures full no_memory old new _ = ⊥
