-- What an opening has read of a disk's bytes, and what it makes of the disk.
use Rattle.std.specs.Prelude.{◌≡◌, ℕ, ◌+◌, ◌==◌, false, List, drop, map, Result, Ok, Err, slice_index}
use Rattle.rel_disk.specs.Damage.{Only, Within}
use Rattle.rel_disk.specs.Moments.{LeavesOnly, HasFailed}
use Rattle.rel_disk.specs.declared.disk.Disk.{Ghosts}
use Rattle.rel_store.specs.Layout.{base_of, format_of}
use Rattle.rel_store.specs.Records.{is_whole, records_of, space}
use Rattle.rel_store.specs.declared.contents.Contents.{Contents}
use Rattle.rel_store.specs.declared.error.StoreError.{StoreError}
use Rattle.rel_store.specs.declared.error.StoreError.TheVariants.{NotAStore, Damaged, Device, NoMemory}

-- The contents are those of the bytes: their records, the places of the first record and of the closed gate, and the slots that
-- count.
pub record AreContentsOf (bytes : List ℕ) (contents : Contents) : Type 0 where
  pub records : records_of bytes ≡ Ok (map (λ v. v.items) contents.records.items)
  pub end : contents.gate ≡ base_of bytes + space (map (λ v. v.items) contents.records.items)
  pub start : contents.second_start ≡ (slice_index bytes 9 == 1)
  pub base : contents.base ≡ base_of bytes
  pub chooses : contents.second_base ≡ (slice_index bytes 10 == 1)
  pub format : contents.format ≡ format_of bytes

-- Why an opening of these bytes refuses them: what is wrong with them, or a failure of the device, or out of memory.
abbrev pub OpenRefused : List ℕ → ℕ → ℕ → StoreError → Type 0
OpenRefused bytes before now NotAStore = records_of bytes ≡ Err NotAStore
OpenRefused bytes before now (Damaged at) = records_of bytes ≡ Err (Damaged at)
OpenRefused bytes before now Device = HasFailed before now
OpenRefused bytes before now NoMemory = Unit {0}
OpenRefused bytes before now _ = ⊥

-- One sync of the disk has taken effect, and else it was read alone: a crash leaves what a read gives, which is what it gave
-- before.
pub record HasSynced {D : Type 0} (v : Ghosts D) (old new : D) : Type 0 where
  pub first_sync : v.syncs new ≡ v.syncs old + 1
  pub durable : Only (v.seen old) (v.may_leave new)
  pub same : v.seen new ≡ v.seen old

-- the refusal of an opening whose sync may have failed
abbrev pub RefusedByDevice : {A D : Type 0} → Result A (StoreError × D) → Type 0
RefusedByDevice (Ok store) = ⊥
RefusedByDevice (Err refusal) = refusal.0 ≡ Device

-- A run of reads: what a read gives is as it was, and a crash leaves nothing that none before would have left.
pub record HasOnlyRead {D : Type 0} (seen : D → List ℕ) (may_leave : D → List ℕ → Type 0) (moment : D → ℕ) (left_since : D → ℕ → List ℕ → Type 0) (old new : D) : Type 0 where
  pub same : seen new ≡ seen old
  pub crash : Within (may_leave old) (may_leave new)
  pub any_moment : LeavesOnly moment left_since old new (may_leave old)

-- Why a call that reads the disk refuses: a failure of the device, or out of memory.
abbrev pub DeviceRefused : ℕ → ℕ → StoreError → Type 0
DeviceRefused before now Device = HasFailed before now
DeviceRefused before now NoMemory = Unit {0}
DeviceRefused before now _ = ⊥

-- Why the record at a gate isn't read: the gate is open and the record after it isn't whole, or the device has failed.
abbrev pub RecordRefused : List ℕ → ℕ → ℕ → ℕ → StoreError → Type 0
RecordRefused bytes gate before now (Damaged at) = (at ≡ gate) × (slice_index bytes gate ≡ 1) × (is_whole (drop (gate + 1) bytes) ≡ false)
RecordRefused bytes gate before now Device = HasFailed before now
RecordRefused bytes gate before now _ = ⊥

-- Why records aren't read, where the bytes report these or a damage: that damage, a failure of the device, or out of memory.
abbrev pub RecordsRefused : Result (List (List ℕ)) StoreError → ℕ → ℕ → StoreError → Type 0
RecordsRefused reported before now (Damaged at) = reported ≡ Err (Damaged at)
RecordsRefused reported before now Device = HasFailed before now
RecordsRefused reported before now NoMemory = Unit {0}
RecordsRefused reported before now _ = ⊥
