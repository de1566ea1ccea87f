-- Why a call is refused, and what stands after it.
use Rattle.std.specs.Prelude.{◌≡◌, ◌⊎◌, ℕ, true, false, List, length, Ok, Err}
use Rattle.rel_disk.specs.Moments.{HasFailed}
use Rattle.rel_list.specs.Releases.{Releases}
use Rattle.rel_store.specs.Layout.{format_of}
use Rattle.rel_store.specs.Records.{records_of}
use Rattle.rel_store.specs.declared.error.StoreError.{StoreError}
use Rattle.rel_store.specs.declared.error.StoreError.TheVariants as store
use Rattle.node_store.specs.Image.{Extent, extent_of, first_extent, HasBootSpace, HasSpace, holds_a_store}
use Rattle.rel_records.specs.Lists.{IsBadRecord, Makes}
use Rattle.rel_records.specs.declared.fault.RecordsError.{RecordsError}
use Rattle.rel_records.specs.declared.fault.RecordsError.TheVariants as records
use Rattle.node_store.specs.State.{disk_in, is_dead, IsSame}
use Rattle.node_command.specs.declared.error.HandlerError.{HandlerError}
use Rattle.node_command.specs.declared.error.HandlerError.TheVariants.{Device, Full, Dead, NoMemory, Exists}
use Rattle.rel_handler.specs.declared.error.BootError.{BootError}
use Rattle.rel_handler.specs.declared.error.BootError.TheVariants as boot
use Rattle.node_store.specs.declared.node_store.NodeStore.{NodeStore}

-- Why the start isn't reported: the handler was dead, memory was refused and it works on, or the device failed and it is dead.
abbrev pub StartRefused : {D : Type 0} → (D → ℕ) → NodeStore D → NodeStore D → HandlerError → Type 0
StartRefused failures old new Dead = (is_dead old ≡ true) × IsSame old new
StartRefused failures old new NoMemory = (is_dead old ≡ false) × (is_dead new ≡ false)
StartRefused failures old new Device =
    (is_dead old ≡ false) × HasFailed (failures (disk_in old)) (failures (disk_in new)) × (is_dead new ≡ true)
StartRefused failures old new _ = ⊥

-- Why no node is made on a disk with these bytes, by a record with a body of so many. Nothing has been written then, unless
-- the device failed.
abbrev pub MakingRefused : List ℕ → ℕ → ℕ → ℕ → Type 0 → HandlerError → Type 0
MakingRefused bytes size before now unwritten Exists = (holds_a_store bytes ≡ true) × unwritten
MakingRefused bytes size before now unwritten Full = (holds_a_store bytes ≡ false) × (HasSpace first_extent size → ⊥) × unwritten
MakingRefused bytes size before now unwritten NoMemory = unwritten
MakingRefused bytes size before now unwritten Device = HasFailed before now
MakingRefused bytes size before now unwritten _ = ⊥

-- The bodies make a list with a one-shot, and after them is no room for the record of the boot that takes it away: the last
-- body is the bad one.
abbrev pub LeaveNoBootSpace : ℕ → Extent → List (List ℕ) → ℕ → Type 0
LeaveNoBootSpace format x bodies i = (es : Releases) × Makes format bodies es × (HasBootSpace x es → ⊥) × (i ≡ length bodies)

-- Why a boot refuses these bytes: they are no store, a record of theirs is damaged, or the list so far can't take one.
abbrev pub IsBootRefusal : List ℕ → BootError → Type 0
IsBootRefusal bytes boot.NotAStore = records_of bytes ≡ Err store.NotAStore
IsBootRefusal bytes (boot.Damaged at) = records_of bytes ≡ Err (store.Damaged at)
IsBootRefusal bytes (boot.BadRecord i) =
    (bodies : List (List ℕ)) × (records_of bytes ≡ Ok bodies)
    × (IsBadRecord (format_of bytes) bodies i ⊎ LeaveNoBootSpace (format_of bytes) (extent_of bytes) bodies i)
IsBootRefusal bytes e = ⊥

-- Why a boot refuses a disk with these bytes: for them, for a failure of the device, or out of memory.
abbrev pub BootRefused : List ℕ → ℕ → ℕ → BootError → Type 0
BootRefused bytes before now boot.Device = HasFailed before now
BootRefused bytes before now boot.NoMemory = Unit {0}
BootRefused bytes before now why = IsBootRefusal bytes why

-- what a boot reports of a store that isn't opened
abbrev pub reported_boot : StoreError → BootError
reported_boot store.NotAStore = boot.NotAStore
reported_boot (store.Damaged at) = boot.Damaged at
reported_boot store.Device = boot.Device
reported_boot e = boot.NoMemory

abbrev pub IsOpenError : StoreError → Type 0
IsOpenError store.Exists = ⊥
IsOpenError store.Full = ⊥
IsOpenError store.MustReopen = ⊥
IsOpenError e = Unit {0}

-- what is reported of a store that isn't made
abbrev pub reported_create : StoreError → HandlerError
reported_create store.Exists = Exists
reported_create store.Full = Full
reported_create store.Device = Device
reported_create e = NoMemory

abbrev pub IsCreateError : StoreError → Type 0
IsCreateError store.NotAStore = ⊥
IsCreateError (store.Damaged at) = ⊥
IsCreateError store.MustReopen = ⊥
IsCreateError e = Unit {0}

-- what a boot reports of records that make no list
abbrev pub reported_records : RecordsError → BootError
reported_records (records.BadRecord i) = boot.BadRecord i
reported_records records.NoMemory = boot.NoMemory
