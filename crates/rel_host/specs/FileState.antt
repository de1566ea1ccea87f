-- A disk over a file, as contracts see it.
use Rattle.std.specs.Prelude.{◌≡◌, ◌⊎◌, ℕ, ◌+◌, ◌-◌, ◌≤◌, ◌^◌, min, Bool, true, false, List, [], length}
use Rattle.rel_disk.specs.Calls.{Call, synced}
use Rattle.rel_disk.specs.MemState.{MemState, HasRoomFor, after_call, after_fault}

-- the file, the disk in memory, how often the file failed or a call was refused after that, and whether the file has failed
pub record FileState (F : Type 0) : Type 0 where
  pub file : F
  pub memory : MemState
  pub faults : ℕ
  pub is_broken : Bool

-- a fresh disk in memory of 64 MiB, its log twice as long, which begins with some bytes, and a file that has not failed
pub record IsOpened {F : Type 0} (disk : FileState F) : Type 0 where
  pub short : length disk.memory.first ≤ 67108864
  pub fresh : disk.memory.calls ≡ []
  pub capacity : disk.memory.capacity ≡ 67108864
  pub room : disk.memory.room ≡ 134217728
  pub failures : disk.memory.failures ≡ 0
  pub faults : disk.faults ≡ 0
  pub whole : disk.is_broken ≡ false

-- A file was synced, and then a read of the whole of it gave these bytes.
abbrev pub GivesAfterSync : {F : Type 0} → (Call → F → F → Type 0) → (List ℕ → F → F → Type 0) → List ℕ → F → F → Type 0
GivesAfterSync {F} did gave bytes old new = (mid : F) × did synced old mid × gave bytes mid new

-- The disk in memory begins with the bytes that a read of the file gave, once the file was synced.
abbrev pub IsReadAfterSync : {F : Type 0} → (Call → F → F → Type 0) → (List ℕ → F → F → Type 0) → FileState F → Type 0
IsReadAfterSync {F} did gave disk = (opened : F) × GivesAfterSync did gave disk.memory.first opened disk.file

-- the failures of the disk in memory, and those of the file
abbrev pub all_failures : {F : Type 0} → FileState F → ℕ
all_failures disk = min (2 ^ 64 - 1) (disk.memory.failures + disk.faults)

-- the file has failed, now or earlier, and one failure more is counted
abbrev pub broken : {F : Type 0} → FileState F → FileState F
broken disk = record disk { faults = min (2 ^ 64 - 1) (disk.faults + 1); is_broken = true }

-- the memory has no room for a call, which fails there; the file has not failed
abbrev pub refused : {F : Type 0} → FileState F → FileState F
refused disk = record disk { memory = after_fault disk.memory }

-- the memory has this call, and the file is in this state
abbrev pub called : {F : Type 0} → Call → F → FileState F → FileState F
called call file disk = record disk { file = file; memory = after_call call disk.memory }

-- A call is done, in memory and on the file.
pub record Does {F : Type 0} (did : Call → F → F → Type 0) (call : Call) (old new : FileState F) : Type 0 where
  pub whole : old.is_broken ≡ false
  pub room : HasRoomFor old.memory call
  pub done : did call old.file new.file
  pub is : new ≡ called call new.file old

-- A write or a cut fails: after a fault of the file, or for want of room, and then the file is not touched; or by a fault of the
-- file, whose damage is then that of the call.
abbrev pub Fails : {F : Type 0} → (F → F → Type 0) → Call → FileState F → FileState F → Type 0
Fails failed call old new = ((old.is_broken ≡ true) × (new ≡ broken old))
    ⊎ ((old.is_broken ≡ false) × (HasRoomFor old.memory call → ⊥) × (new ≡ refused old))
    ⊎ ((old.is_broken ≡ false) × HasRoomFor old.memory call × failed old.file new.file
    × (new ≡ broken (called call new.file old)))

-- A sync fails: after a fault of the file, which is not touched; by a fault of the file; or the file did its sync and the memory
-- had no room to note it.
abbrev pub FailsToSync : {F : Type 0} → (Call → F → F → Type 0) → (F → F → Type 0) → FileState F → FileState F → Type 0
FailsToSync did failed old new = ((old.is_broken ≡ true) × (new ≡ broken old))
    ⊎ ((old.is_broken ≡ false) × failed old.file new.file × (new ≡ broken (record old { file = new.file })))
    ⊎ ((old.is_broken ≡ false) × (HasRoomFor old.memory synced → ⊥) × did synced old.file new.file
    × (new ≡ refused (record old { file = new.file })))
