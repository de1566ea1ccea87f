-- What the calls of a handler leave at each moment.
use Rattle.std.specs.Prelude.{◌≡◌, ◌⊎◌, ◌+◌, ℕ, ◌≤◌, List, [], ◌∷◌, ◌++◌, Some, Result, Ok, Err}
use Rattle.rel_disk.specs.Damage.{Only}
use Rattle.rel_disk.specs.declared.disk.Disk.{Ghosts}
use Rattle.rel_disk.specs.Moments.{LeavesOnly}
use Rattle.rel_list.specs.Releases.{Releases}
use Rattle.rel_list.specs.Event.{Event, list_after}
use Rattle.rel_list.specs.Event.Event.{boot}
use Rattle.rel_store.specs.Contents.{HasOnlyRead}
use Rattle.rel_store.specs.Creation.{IsBeforeFirstSync, IsUnwritten}
use Rattle.rel_store.specs.Moments.{IsTornFrom}
use Rattle.node_store.specs.Events.{Events, EventLog, IsPrefix, IsNoneOrOfPrefix, StoreState, MayHoldEvents, store_with_boot_in_doubt, IsCrashImageOf}
use Rattle.node_store.specs.Image.{Extent, IsLeftByBoot}
use Rattle.node_store.specs.State.{disk_in, extent_in, list_in}
use Rattle.rel_handler.specs.declared.error.BootError.{BootError}
use Rattle.rel_handler.specs.declared.error.BootError.TheVariants.{Device}
use Rattle.node_store.specs.declared.node_store.NodeStore.{NodeStore}

-- Nothing was written, and the node has its list.
pub record HasRead {D : Type 0} (v : Ghosts D) (old new : NodeStore D) : Type 0 where
  pub list : list_in new ≡ list_in old
  pub extent : extent_in new ≡ extent_in old
  pub only_read : HasOnlyRead v.seen v.may_leave v.moment v.left_since (disk_in old) (disk_in new)
  pub counted : v.failures (disk_in old) ≤ v.failures (disk_in new)

-- A creation has its first sync at this moment. Up to it a crash leaves what it left before the call, but for a torn gate. From
-- it on a crash leaves no store, or one that stands for the list of a prefix of the accepted events with every acknowledged
-- one.
pub record BeginsAt {D : Type 0} (v : Ghosts D) (k : EventLog) (old new at : D) : Type 0 where
  pub until : LeavesOnly v.moment v.left_since old at (IsTornFrom (v.may_leave old) 0 1)
  pub first_sync : v.syncs at ≡ v.syncs old + 1
  pub synced : Only (v.seen at) (v.may_leave at)
  pub from : LeavesOnly v.moment v.left_since at new (IsNoneOrOfPrefix k)

-- At each moment of a creation nothing but the gate of a store is torn, and no sync has taken effect; or that is so up to the
-- first sync that does.
abbrev pub Begins : {D : Type 0} → Ghosts D → EventLog → D → D → Type 0
Begins {D} v k old new = IsBeforeFirstSync v old new ⊎ ((at : D) × BeginsAt v k old new at)

-- A creation wrote nothing: a read gives what it gave, and a crash in it leaves nothing new.
abbrev pub WritesNothing : {D : Type 0} → (D → List ℕ) → (D → List ℕ → Type 0) → (D → ℕ) → (D → ℕ → List ℕ → Type 0) → D → D → Type 0
WritesNothing seen may_leave moment left_since old new = IsUnwritten seen may_leave moment left_since old new

-- The list is that of a prefix of the accepted events with every acknowledged one, and of a boot after it.
pub record BootsTo (k : EventLog) (es : Releases) : Type 0 where
  pub events : List Event
  pub prefix : IsPrefix k events
  pub after : list_after (events ++ boot ∷ []) ≡ Some es

-- No sync of a boot has taken effect, and a crash leaves nothing that none before would have left.
pub record IsUnsettled {D : Type 0} (v : Ghosts D) (old new : D) : Type 0 where
  pub until : LeavesOnly v.moment v.left_since old new (v.may_leave old)
  pub unsynced : v.syncs new ≡ v.syncs old

-- A boot has its first sync at this moment. Up to it a crash leaves nothing that none before would have left. From it on a
-- crash leaves what a read gave, and what the boot has written.
pub record SettlesAt {D : Type 0} (v : Ghosts D) (old new at : D) : Type 0 where
  pub until : LeavesOnly v.moment v.left_since old at (v.may_leave old)
  pub first_sync : v.syncs at ≡ v.syncs old + 1
  pub from : LeavesOnly v.moment v.left_since at new (λ c. (c ≡ v.seen old) ⊎ IsLeftByBoot (v.seen old) c)

-- A boot syncs the disk, whatever it answers, and an event in doubt is settled by the first sync that takes effect. Where none
-- has, the device failed.
abbrev pub IsSynced : {D : Type 0} → Ghosts D → D → Result (NodeStore D) (BootError × D) → Type 0
IsSynced {D} v old (Ok handler) = (at : D) × SettlesAt v old (disk_in handler) at
IsSynced {D} v old (Err refusal) =
    ((refusal.0 ≡ Device) × IsUnsettled v old refusal.1) ⊎ ((at : D) × SettlesAt v old refusal.1 at)

-- A boot of a store whose events are known has settled which it has. From then on its own event is in doubt.
pub record SettlesStore {D : Type 0} (v : Ghosts D) (s : StoreState) (old new : D) : Type 0 where
  pub events : Events
  pub extent : Extent
  pub has : MayHoldEvents s events extent
  pub any_moment : LeavesOnly v.moment v.left_since old new (λ c. IsCrashImageOf s c ⊎ IsCrashImageOf (store_with_boot_in_doubt s.known.ran events extent) c)
  pub now : (c : List ℕ) → v.may_leave new c → IsCrashImageOf (store_with_boot_in_doubt s.known.ran events extent) c

-- At each moment of a boot a crash leaves what was known of the store before, or the boot has settled which events the store
-- has.
abbrev pub KeepsStore : {D : Type 0} → Ghosts D → StoreState → D → D → Type 0
KeepsStore v s old new = LeavesOnly v.moment v.left_since old new (IsCrashImageOf s) ⊎ SettlesStore v s old new
