-- What a command leaves of a node: at each moment, where it is done, and of its record.
use Rattle.std.specs.Prelude.{◌≡◌, ◌⊎◌, ℕ, ◌≤◌, true, false, List, Some, Ok}
use Rattle.rel_disk.specs.declared.disk.Disk.{Ghosts}
use Rattle.rel_disk.specs.Moments.{LeavesOnly}
use Rattle.rel_list.specs.Releases.{Releases}
use Rattle.rel_list.specs.Event.{Event, list_after}
use Rattle.rel_list.specs.Event.Event.{made_permanent, reboot_old}
use Rattle.rel_records.specs.Reading.{Spells}
use Rattle.rel_records.specs.Writing.{record_of, Reports}
use Rattle.node_store.specs.Events.{Events, IsCrashImageOf, store_with_doubt}
use Rattle.rel_store.specs.Layout.{slot_with}
use Rattle.node_store.specs.Compaction.{compacted_extent, MayReach}
use Rattle.node_store.specs.Image.{Extent, extent_after, extent_of, HasSpace, IsImageWithExtent, IsImageOf, start_bytes}
use Rattle.node_store.specs.State.{disk_in, extent_in, list_in, is_dead, start_in, IsReady, IsSound}
use Rattle.node_command.specs.Taking.{commanded}
use Rattle.node_store.specs.declared.node_store.NodeStore.{NodeStore}

-- The body is that of the event's record, of which a boot makes what the event makes of the list.
pub record IsRecordFor (body : List ℕ) (e : Event) (es : Releases) : Type 0 where
  pub spells : Spells body (record_of e es)
  pub reports : Reports e es

-- Whatever a command with this event, and a record with a body of so many bytes, answers. Whatever the events so far, a
-- crash at any moment of it leaves the store of their list, or of the list with this one, which is in doubt, compacted or not.
pub record Commits {D : Type 0} (v : Ghosts D) (e : Event) (size : ℕ) (old new : NodeStore D) : Type 0 where
  pub sound : IsSound v.seen v.may_leave new
  pub any_moment : is_dead old ≡ false → (events : Events) → list_after events ≡ Some (list_in old)
      → LeavesOnly v.moment v.left_since (disk_in old) (disk_in new) (IsCrashImageOf (store_with_doubt events (extent_in old) e size))
  pub counted : v.failures (disk_in old) ≤ v.failures (disk_in new)

-- The list of a node that wasn't dead has taken the event, and from now on each crash leaves a disk that stands for it, in a
-- store that reaches so far.
pub record IsTaken {D : Type 0} (v : Ghosts D) (e : Event) (size : ℕ) (Reaches : Extent → Type 0) (old new : NodeStore D) : Type 0 where
  pub worked : is_dead old ≡ false
  pub accepted : commanded e (list_in old) ≡ Ok (list_in new)
  pub acknowledged : (c : List ℕ) → v.may_leave (disk_in new) c → IsImageWithExtent c (list_in new) (extent_in new)
  pub fits : HasSpace (extent_in old) size
  pub reaches : Reaches (extent_in new)

-- A command's event was taken by the list, and its record was appended to the store.
abbrev pub IsAppended : {D : Type 0} → Ghosts D → Event → ℕ → NodeStore D → NodeStore D → Type 0
IsAppended v e size old new = IsTaken v e size (λ x. x ≡ extent_after (extent_in old) size) old new

-- A command with this event was done: its record was appended, and then the store was compacted, if it was long.
abbrev pub IsDone : {D : Type 0} → Ghosts D → Event → ℕ → NodeStore D → NodeStore D → Type 0
IsDone v e size old new = IsTaken v e size (MayReach (extent_after (extent_in old) size) (list_in new)) old new

-- The bytes stand for the node's list, in a store that reaches as far as the node's store does. They have the start slot of the
-- node, or P holds of them.
abbrev pub HasOldStartOr : {D : Type 0} → (D → List ℕ) → NodeStore D → (List ℕ → Type 0) → List ℕ → Type 0
HasOldStartOr seen node P c =
    IsImageWithExtent c (list_in node) (extent_in node) × ((start_bytes c ≡ start_in seen node) ⊎ P c)

-- Whatever a write of this text as the start record answers: a crash at any moment of it leaves the old one or the new. The
-- node is dead after it.
pub record Keeps {D : Type 0} (v : Ghosts D) (text : List ℕ) (old new : NodeStore D) : Type 0 where
  pub dead : is_dead new ≡ true
  pub list : list_in new ≡ list_in old
  pub extent : extent_in new ≡ extent_in old
  pub any_moment : LeavesOnly v.moment v.left_since (disk_in old) (disk_in new)
      (HasOldStartOr v.seen old (λ c. start_bytes c ≡ slot_with text))
  pub counted : v.failures (disk_in old) ≤ v.failures (disk_in new)

-- Whatever a change of the store's format answers: a crash at any moment of it leaves the list and the start slot.
pub record Reformats {D : Type 0} (v : Ghosts D) (old new : NodeStore D) : Type 0 where
  pub list : list_in new ≡ list_in old
  pub extent : extent_in new ≡ extent_in old
  pub any_moment : LeavesOnly v.moment v.left_since (disk_in old) (disk_in new)
      (λ c. IsImageWithExtent c (list_in old) (extent_in old) × (start_bytes c ≡ start_in v.seen old))
  pub counted : v.failures (disk_in old) ≤ v.failures (disk_in new)

-- The bytes stand for the node's list and have the node's start slot, in a store that reaches as far as the node's store does,
-- or as far as after a compaction.
abbrev pub IsOldOrCompacted : {D : Type 0} → (D → List ℕ) → NodeStore D → List ℕ → Type 0
IsOldOrCompacted seen node c =
    IsImageOf c (list_in node)
    × ((extent_of c ≡ extent_in node) ⊎ (extent_of c ≡ compacted_extent (extent_in node) (list_in node)))
    × (start_bytes c ≡ start_in seen node)

-- Whatever a compaction answers: a crash at any moment of it leaves the store that was there or the compacted one. The node is
-- dead after it.
pub record Compacts {D : Type 0} (v : Ghosts D) (old new : NodeStore D) : Type 0 where
  pub dead : is_dead new ≡ true
  pub list : list_in new ≡ list_in old
  pub any_moment : LeavesOnly v.moment v.left_since (disk_in old) (disk_in new) (IsOldOrCompacted v.seen old)
  pub counted : v.failures (disk_in old) ≤ v.failures (disk_in new)

-- A compaction didn't fail: the node is ready, its start slot is as it was, and its store reaches as far as after a compaction.
pub record IsCompacted {D : Type 0} (v : Ghosts D) (old new : NodeStore D) : Type 0 where
  pub ready : IsReady v.seen v.may_leave new
  pub start : start_in v.seen new ≡ start_in v.seen old
  pub reaches : MayReach (extent_in old) (list_in old) (extent_in new)

-- The event makes the release of this version the permanent one.
abbrev pub MakesPermanent : List ℕ → Event → Type 0
MakesPermanent vsn e = (e ≡ made_permanent vsn) ⊎ (e ≡ reboot_old vsn)
