-- What a creation of a store leaves.
use Rattle.std.specs.Prelude.{◌≡◌, ◌⊎◌, ◌+◌, ◌≤◌, ℕ, true, false, List, [], ◌∷◌, ◌++◌, length, Err}
use Rattle.rel_disk.specs.Damage.{overwritten, Only}
use Rattle.rel_disk.specs.Moments.{LeavesOnly, HasFailed}
use Rattle.rel_disk.specs.declared.disk.Disk.{Ghosts}
use Rattle.rel_store.specs.Changed.{LeavesOthers, IsInNewStore}
use Rattle.rel_store.specs.Layout.{has_magic, slot_with, new_layout}
use Rattle.rel_store.specs.Moments.{IsTornFrom}
use Rattle.rel_store.specs.Records.{record_bytes, records_of, Stands}
use Rattle.rel_store.specs.State.{Fits}
use Rattle.rel_store.specs.declared.error.StoreError.{StoreError}
use Rattle.rel_store.specs.declared.error.StoreError.TheVariants.{NotAStore, Exists, Full, Device, NoMemory}

-- these bytes are no store, or one with this record alone and this start text
abbrev pub IsNoneOrNew : List ℕ → List ℕ → List ℕ → Type 0
IsNoneOrNew first start bytes = (records_of bytes ≡ Err NotAStore) ⊎ Stands (first ∷ []) (slot_with start) bytes

-- the bytes of a new store: its layout, its record after an open gate, and a closed gate
abbrev pub new_store : List ℕ → List ℕ → List ℕ
new_store first start = 1 ∷ (new_layout start ++ (1 ∷ (record_bytes first ++ 0 ∷ [])))

-- these are the bytes of a new store after its gate, of a start text and a record that are no longer than they may be
pub record IsBehindGate (first start bytes : List ℕ) : Type 0 where
  pub few : length start ≤ 127
  pub short : length first ≤ 16777216
  pub spelled : bytes ≡ new_layout start ++ (1 ∷ (record_bytes first ++ 0 ∷ []))

-- Nothing has been written: the bytes are as they were, and no crash leaves anything that none before would have left.
pub record IsUnwritten {D : Type 0} (seen : D → List ℕ) (may_leave : D → List ℕ → Type 0) (moment : D → ℕ) (left_since : D → ℕ → List ℕ → Type 0) (old new : D) : Type 0 where
  pub same : seen new ≡ seen old
  pub any_moment : LeavesOnly moment left_since old new (may_leave old)

-- Nothing but the gate of a store has been written, and no sync has taken effect.
pub record IsBeforeFirstSync {D : Type 0} (v : Ghosts D) (old new : D) : Type 0 where
  pub until : LeavesOnly v.moment v.left_since old new (IsTornFrom (v.may_leave old) 0 1)
  pub unsynced : v.syncs new ≡ v.syncs old

-- Up to this moment nothing but the gate of a store has been written, and the first sync has taken effect then: the gate is closed.
-- From then on each image is no store or the new one, and all bytes are as they were but those of the new store.
pub record IsBegunAt {D : Type 0} (v : Ghosts D) (first start : List ℕ) (old new at : D) : Type 0 where
  pub until : LeavesOnly v.moment v.left_since old at (IsTornFrom (v.may_leave old) 0 1)
  pub first_sync : v.syncs at ≡ v.syncs old + 1
  pub closed : v.seen at ≡ overwritten 0 (0 ∷ []) (v.seen old)
  pub synced : Only (v.seen at) (v.may_leave at)
  pub from : LeavesOnly v.moment v.left_since at new (IsNoneOrNew first start)
  pub others : LeavesOnly v.moment v.left_since at new (LeavesOthers (IsInNewStore (length first)) (v.seen at))

-- At each moment of a creation: the images are those from before it, but for a gate that is torn, and no sync has taken effect; or
-- that is so up to the first sync that does, and from then on each is no store or the new one.
abbrev pub Creates : {D : Type 0} → Ghosts D → List ℕ → List ℕ → D → D → Type 0
Creates {D} v first start old new = IsBeforeFirstSync v old new ⊎ ((at : D) × IsBegunAt v first start old new at)

-- Why a creation refuses, in the order in which it is reported. Nothing has been written then, unless the device failed.
abbrev pub CreationRefused : List ℕ → List ℕ → ℕ → ℕ → Type 0 → StoreError → Type 0
CreationRefused bytes first before now unwritten Exists = (has_magic bytes ≡ true) × unwritten
CreationRefused bytes first before now unwritten Full = (has_magic bytes ≡ false) × (Fits 289 (length first) → ⊥) × unwritten
CreationRefused bytes first before now unwritten NoMemory = (has_magic bytes ≡ false) × Fits 289 (length first) × unwritten
CreationRefused bytes first before now unwritten Device = HasFailed before now
CreationRefused bytes first before now unwritten _ = ⊥
