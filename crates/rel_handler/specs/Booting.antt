-- The two parts of a boot: a node is read from its disk; then a one-shot is taken away, and the start record repaired.
use Rattle.std.specs.Prelude.{◌≡◌, ◌⊎◌, ℕ, ◌-◌, ◌≤◌, true, false, List, length, Option, None, Some, String, string_bytes}
use Rattle.std.specs.declared.alloc.Global.{Global}
use Rattle.rel_disk.specs.declared.disk.Disk.{Ghosts}
use Rattle.rel_disk.specs.Moments.{LeavesOnly, HasFailed}
use Rattle.rel_list.specs.Releases.{Releases, has_one_shot}
use Rattle.rel_list.specs.Event.{booted, recorded}
use Rattle.rel_list.specs.Event.Event.{boot}
use Rattle.rel_records.specs.Lists.{Makes}
use Rattle.rel_store.specs.Changed.{LeavesOthers, IsInRecord}
use Rattle.rel_store.specs.Contents.{HasOnlyRead}
use Rattle.rel_store.specs.Records.{end_of}
use Rattle.rel_store.specs.State as of_store
use Rattle.node_store.specs.Commits.{IsRecordFor}
use Rattle.node_store.specs.Image.{Extent, boot_size, booted_extent, extent_of, HasBootSpace, IsImageWithExtent, IsStarted, start_bytes}
use Rattle.node_store.specs.State.{disk_in, extent_in, format_in, list_in, start_in, IsReady}
use Rattle.rel_handler.specs.declared.error.BootError.{BootError}
use Rattle.rel_handler.specs.declared.error.BootError.TheVariants.{BadRecord, Device, NoMemory}
use Rattle.node_store.specs.declared.node_store.NodeStore.{NodeStore}

-- A handler was read from a store: its store is settled, and the records make its list, in which no release is current. For the
-- next boot there may be no room.
pub record IsRead {D : Type 0} (seen : D → List ℕ) (may_leave : D → List ℕ → Type 0) (handler : NodeStore D) : Type 0 where
  pub store : of_store.IsSettled seen may_leave handler.store
  pub makes : Makes (format_in handler) (of_store.records_in handler.store) (list_in handler)
  pub as_recorded : recorded (list_in handler) ≡ list_in handler

-- The handler was read from this disk.
pub record IsOpened {D : Type 0} (v : Ghosts D) (disk : D) (handler : NodeStore D) : Type 0 where
  pub read : IsRead v.seen v.may_leave handler
  pub only_read : HasOnlyRead v.seen v.may_leave v.moment v.left_since disk (disk_in handler)

-- the body of the record by which a boot takes the one-shot of this list away, if it has one
abbrev pub IsBootRecord : Releases → Option (String Global) → Type 0
IsBootRecord es None = has_one_shot es ≡ false
IsBootRecord es (Some body) =
    (has_one_shot es ≡ true) × IsRecordFor (string_bytes body) boot es × (length (string_bytes body) ≡ boot_size es)

-- the bytes of that record, after the last one of a store with these bytes, with its gate and the one after it
abbrev pub IsInBootRecord : List ℕ → Releases → ℕ → Type 0
IsInBootRecord bytes es i = IsInRecord (end_of bytes - 1) (boot_size es) i

-- Why there is no such record: it would not fit after the last one, or memory was refused.
abbrev pub BootRecordRefused : Extent → Releases → BootError → Type 0
BootRecordRefused x es (BadRecord i) = (HasBootSpace x es → ⊥) × (i ≡ x.count)
BootRecordRefused x es NoMemory = Unit {0}
BootRecordRefused x es why = ⊥

-- The handler has the list that a boot makes of this one, which these bytes stand for.
pub record IsBootOf {D : Type 0} (bytes : List ℕ) (es : Releases) (handler : NodeStore D) : Type 0 where
  pub list : list_in handler ≡ booted es
  pub extent : extent_in handler ≡ booted_extent (extent_of bytes) es

-- The bytes stand for the handler's list as it is after a boot.
abbrev pub IsImageBehindBoot : {D : Type 0} → NodeStore D → List ℕ → Type 0
IsImageBehindBoot h c = IsImageWithExtent c (booted (list_in h)) (booted_extent (extent_in h) (list_in h))

-- The bytes stand for the handler's list, as it is or as it is after a boot, and have its start slot.
abbrev pub IsOldOrTaken : {D : Type 0} → (D → List ℕ) → NodeStore D → List ℕ → Type 0
IsOldOrTaken seen h c = (IsImageWithExtent c (list_in h) (extent_in h) ⊎ IsImageBehindBoot h c) × (start_bytes c ≡ start_in seen h)

-- At any moment of a boot a crash leaves such bytes: they stand for the handler's list, as it is or as it is after a boot, and
-- have its start slot; or they stand for the list after a boot, and have the start record of the permanent release.
abbrev pub IsOldOrBooted : {D : Type 0} → (D → List ℕ) → NodeStore D → List ℕ → Type 0
IsOldOrBooted seen h c = IsOldOrTaken seen h c ⊎ (IsImageBehindBoot h c × IsStarted (list_in h) c)

-- At each moment a crash leaves bytes of which P holds.
pub record Leaves {D : Type 0} (v : Ghosts D) (P : List ℕ → Type 0) (old new : D) : Type 0 where
  pub any_moment : LeavesOnly v.moment v.left_since old new P
  pub counted : v.failures old ≤ v.failures new

-- A boot of this list writes no start record. Without a one-shot it writes nothing; else all bytes are as they were, at each
-- moment, but those of the record that takes the one-shot away.
pub record WritesNoStart {D : Type 0} (v : Ghosts D) (es : Releases) (old new : D) : Type 0 where
  pub free : has_one_shot es ≡ false → HasOnlyRead v.seen v.may_leave v.moment v.left_since old new
  pub any_moment : has_one_shot es ≡ true → LeavesOnly v.moment v.left_since old new (λ c. v.may_leave old c ⊎ LeavesOthers (IsInBootRecord (v.seen old) es) (v.seen old) c)
  pub now : has_one_shot es ≡ true → LeavesOthers (IsInBootRecord (v.seen old) es) (v.seen old) (v.seen new)

-- The handler has the list after a boot, and its store the records of it.
pub record IsBooted {D : Type 0} (v : Ghosts D) (old new : NodeStore D) : Type 0 where
  pub list : list_in new ≡ booted (list_in old)
  pub extent : extent_in new ≡ booted_extent (extent_in old) (list_in old)
  pub ready : IsReady v.seen v.may_leave new

-- Why a boot doesn't come to its end: memory was refused, and nothing was written; or the device failed.
abbrev pub FinishRefused : {D : Type 0} → Ghosts D → NodeStore D → NodeStore D → BootError → Type 0
FinishRefused v old new NoMemory = HasOnlyRead v.seen v.may_leave v.moment v.left_since (disk_in old) (disk_in new)
FinishRefused v old new Device = HasFailed (v.failures (disk_in old)) (v.failures (disk_in new))
FinishRefused v old new why = ⊥
