-- A release is taken from the file of a path: into a node, or as the first one of a new node.
use Rattle.std.specs.Prelude.{◌≡◌, ◌≢◌, ◌⊎◌, ℕ, List, [], ◌∷◌, true, false, None, Ok}
use Rattle.rel_disk.specs.declared.disk.Disk.{Ghosts}
use Rattle.rel_disk.specs.Moments.{HasFailed}
use Rattle.rel_list.specs.declared.status.Status.TheVariants.{Permanent}
use Rattle.rel_list.specs.Releases.{entry, status_of}
use Rattle.rel_list.specs.Event.Event.{made, unpacked}
use Rattle.rel_store.specs.Layout.{slot_with}
use Rattle.rel_unpack.specs.Source.{Source}
use Rattle.rel_unpack.specs.Unpacking.{Brought}
use Rattle.node_store.specs.Commits.{Commits, IsDone}
use Rattle.node_store.specs.Events.{log_with_doubt}
use Rattle.node_command.specs.Files.{Brings, IsOfFiles, IsReportedAs, bundle_brought, made_size, unpacked_size}
use Rattle.node_command.specs.Place.{files_refusal, own_refusal}
use Rattle.node_store.specs.Start.{start_text}
use Rattle.node_store.specs.Image.{extent_after, first_extent, HasSpace, holds_a_store, IsImageWithExtent}
use Rattle.rel_handler.specs.Moments.{Begins, BeginsAt, WritesNothing}
use Rattle.node_store.specs.Refusals.{CommandRefused}
use Rattle.rel_handler.specs.Refusals.{MakingRefused}
use Rattle.node_store.specs.State.{disk_in, extent_in, list_in, is_dead, start_in, IsSame}
use Rattle.node_command.specs.declared.error.HandlerError.{HandlerError}
use Rattle.node_command.specs.declared.error.HandlerError.TheVariants.{Dead, Device, Exists}
use Rattle.node_store.specs.declared.node_store.NodeStore.{NodeStore}

-- What the path brings was taken in, and this is its version.
pub record IsUnpacked {D : Type 0} (v : Ghosts D) (source : Source) (path : List ℕ) (old new : NodeStore D) (vsn : List ℕ) : Type 0 where
  pub brought : Brought
  pub read : Brings source path (Ok brought)
  pub free : files_refusal brought (list_in old) ≡ None
  pub commits : Commits v (unpacked (bundle_brought brought)) (unpacked_size brought (list_in old)) old new
  pub done : IsDone v (unpacked (bundle_brought brought)) (unpacked_size brought (list_in old)) old new
  pub works : is_dead new ≡ false
  pub start : start_in v.seen new ≡ start_in v.seen old
  pub version : vsn ≡ brought.found.release.vsn

-- Its files are why what the path brings wasn't taken in.
pub record IsBarred {D : Type 0} (source : Source) (path : List ℕ) (old new : NodeStore D) (e : HandlerError) : Type 0 where
  pub brought : Brought
  pub read : Brings source path (Ok brought)
  pub alive : is_dead old ≡ false
  pub fresh : status_of brought.found.release.vsn (list_in old) ≡ None
  pub barred : IsReportedAs (files_refusal brought (list_in old)) e
  pub same : IsSame old new

-- Its files are not why, and its event was not acknowledged.
pub record IsNotUnpacked {D : Type 0} (v : Ghosts D) (source : Source) (path : List ℕ) (old new : NodeStore D) (e : HandlerError) : Type 0 where
  pub brought : Brought
  pub read : Brings source path (Ok brought)
  pub free : files_refusal brought (list_in old) ≡ None
  pub commits : Commits v (unpacked (bundle_brought brought)) (unpacked_size brought (list_in old)) old new
  pub refused : CommandRefused v.failures (unpacked (bundle_brought brought)) (unpacked_size brought (list_in old)) old new e

-- Why no release of the path was taken in: the handler was dead; its file; its other files; or the node.
abbrev pub UnpackingRefused : {D : Type 0} → Ghosts D → Source → List ℕ → NodeStore D → NodeStore D → HandlerError → Type 0
UnpackingRefused v source path old new e =
    ((e ≡ Dead) × (is_dead old ≡ true) × IsSame old new)
    ⊎ ((IsOfFiles source path e × (is_dead old ≡ false) × IsSame old new)
    ⊎ (IsBarred source path old new e ⊎ IsNotUnpacked v source path old new e))

-- A node was made on a disk with what the path brings, its release the permanent one. From now on each crash leaves a disk
-- that stands for its list. A crash at any moment from the first sync on leaves no store, or one that stands for that list.
pub record IsMade {D : Type 0} (v : Ghosts D) (source : Source) (path : List ℕ) (disk : D) (handler : NodeStore D) : Type 0 where
  pub brought : Brought
  pub read : Brings source path (Ok brought)
  pub free : own_refusal brought ≡ None
  pub list : list_in handler ≡ entry (bundle_brought brought) Permanent ∷ []
  pub acknowledged : (c : List ℕ) → v.may_leave (disk_in handler) c → IsImageWithExtent c (list_in handler) (extent_in handler)
  pub start : start_in v.seen handler ≡ slot_with (start_text brought.found.release)
  pub fits : HasSpace first_extent (made_size brought)
  pub extent : extent_in handler ≡ extent_after first_extent (made_size brought)
  pub synced : D
  pub begun : BeginsAt v (log_with_doubt [] (made (bundle_brought brought))) disk (disk_in handler) synced

-- The disk holds no store, and its other files are why no node was made with what the path brings. Nothing was written.
pub record IsNotBegun {D : Type 0} (v : Ghosts D) (source : Source) (path : List ℕ) (disk now : D) (e : HandlerError) : Type 0 where
  pub brought : Brought
  pub read : Brings source path (Ok brought)
  pub free : holds_a_store (v.seen disk) ≡ false
  pub barred : IsReportedAs (own_refusal brought) e
  pub unwritten : WritesNothing v.seen v.may_leave v.moment v.left_since disk now

-- No node was made with what the path brings. But for a store on the disk and a device that failed, its files are not why; and
-- where they would be, nothing was written. A crash at any moment from the first sync on, if there was one, leaves no store, or
-- one that stands for the list with the release.
pub record IsNotMade {D : Type 0} (v : Ghosts D) (source : Source) (path : List ℕ) (disk now : D) (e : HandlerError) : Type 0 where
  pub brought : Brought
  pub read : Brings source path (Ok brought)
  pub clear : e ≢ Exists → e ≢ Device → own_refusal brought ≡ None
  pub idle : own_refusal brought ≢ None → WritesNothing v.seen v.may_leave v.moment v.left_since disk now
  pub any_moment : Begins v (log_with_doubt [] (made (bundle_brought brought))) disk now
  pub refused : MakingRefused (v.seen disk) (made_size brought) (v.failures disk) (v.failures now) (WritesNothing v.seen v.may_leave v.moment v.left_since disk now) e

-- Why no node was made: the release's file or its other files, and then nothing was written; or the disk, the store or memory.
abbrev pub NodeCreationRefused : {D : Type 0} → Ghosts D → Source → List ℕ → D → D → HandlerError → Type 0
NodeCreationRefused v source path disk now e =
    (IsOfFiles source path e × WritesNothing v.seen v.may_leave v.moment v.left_since disk now)
    ⊎ (IsNotBegun v source path disk now e ⊎ IsNotMade v source path disk now e)

-- What is reported of a release that is refused for its other files, for this reason, on a disk with these bytes: they hold a
-- store, the device has failed, or the reason.
abbrev pub IsExistingOr : HandlerError → List ℕ → ℕ → ℕ → HandlerError → Type 0
IsExistingOr why bytes before now e =
    ((e ≡ Exists) × (holds_a_store bytes ≡ true)) ⊎ (((e ≡ Device) × HasFailed before now) ⊎ ((e ≡ why) × (holds_a_store bytes ≡ false)))
