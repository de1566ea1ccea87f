-- A node that has booted from a disk, and what a boot that is refused has done.
use Rattle.std.specs.Prelude.{◌≡◌, ◌⊎◌, ℕ, false, List, Result, Ok, Err}
use Rattle.rel_disk.specs.declared.disk.Disk.{Ghosts}
use Rattle.rel_list.specs.Releases.{Releases}
use Rattle.rel_list.specs.Event.{recorded}
use Rattle.rel_store.specs.Contents.{HasOnlyRead}
use Rattle.rel_store.specs.Layout.{format_of}
use Rattle.node_store.specs.Image.{IsImageOf, IsImageWithExtent, IsStarted}
use Rattle.node_store.specs.State.{disk_in, extent_in, format_in, list_in, is_dead, IsSound}
use Rattle.node_store.specs.declared.node_store.NodeStore.{NodeStore}
use Rattle.rel_handler.specs.Booting.{IsBootOf, WritesNoStart}
use Rattle.rel_handler.specs.declared.error.BootError.{BootError}
use Rattle.rel_handler.specs.declared.error.BootError.TheVariants.{Device, NoMemory}
use Rattle.loaded_modules.specs.Loaded.{listed_in}
use Rattle.node_processes.specs.Fresh.{fresh_processes}
use Rattle.node_processes.specs.InMemory.{values_in}
use Rattle.node_processes.specs.Processes.{Processes}
use Rattle.node_start.specs.Begun.{HaveJustBegun, fresh_beginnings}
use Rattle.node_start.specs.Starting.{IsAlone}
use Rattle.node_start.specs.declared.node.Node.{Node}

-- the processes of a node, as far as its handler has seen them
abbrev pub processes_of : {D : Type 0} → Node D → Processes
processes_of node = record { values = values_in node.seat.view; apps = node.tree; modules = listed_in node.loaded }

-- The handler sits at the node's table, where nobody else does. The processes and the loaded modules are exactly those that
-- run right after a boot to the node's list: these have begun in the table, each once, and nothing else has happened there.
pub record HasJustStarted {D : Type 0} (node : Node D) : Type 0 where
  pub table : node.seat.table ≡ node.table
  pub alone : IsAlone node.seat.view
  pub fresh : processes_of node ≡ fresh_processes (list_in node.handler)
  pub begun : HaveJustBegun (fresh_beginnings (list_in node.handler)) node.seat.view

-- A handler that was booted from this disk works, and has a list with its start record (`sound`). The disk stands for a list
-- (`image`), which the handler has as a boot makes it (`list`). From now on a crash leaves what stands for that
-- (`acknowledged`).
-- A start record that was right is not written (`right`).
pub record IsBootedFrom {D : Type 0} (v : Ghosts D) (disk : D) (handler : NodeStore D) : Type 0 where
  pub sound : IsSound v.seen v.may_leave handler
  pub works : is_dead handler ≡ false
  pub format : format_in handler ≡ format_of (v.seen disk)
  pub image : (es : Releases) × IsImageOf (v.seen disk) es × (recorded es ≡ es)
  pub list : (es : Releases) → IsImageOf (v.seen disk) es → IsBootOf (v.seen disk) es handler
  pub acknowledged : (c : List ℕ) → v.may_leave (disk_in handler) c → IsImageWithExtent c (list_in handler) (extent_in handler)
  pub right : (es : Releases) → IsImageOf (v.seen disk) es → IsStarted es (v.seen disk) → WritesNoStart v es disk (disk_in handler)

-- the disk after a boot, in its node or beside the refusal
abbrev pub disk_after : {D : Type 0} → Result (Node D) (D × BootError) → D
disk_after (Ok node) = disk_in node.handler
disk_after (Err refusal) = refusal.0

-- the handler of a node that was booted, or why there is none
abbrev pub handled : {D : Type 0} → Result (Node D) (D × BootError) → Result (NodeStore D) (BootError × D)
handled (Ok node) = Ok node.handler
handled (Err refusal) = Err (refusal.1, refusal.0)

-- memory was refused, or the device failed
abbrev pub IsLack : BootError → Type 0
IsLack why = (why ≡ Device) ⊎ (why ≡ NoMemory)

-- The new disk is that of a handler that was booted from the old one.
abbrev pub IsDiskOfBoot : {D : Type 0} → Ghosts D → D → D → Type 0
IsDiskOfBoot {D} v disk new = (handler : NodeStore D) × IsBootedFrom v disk handler × (new ≡ disk_in handler)

-- What a refused boot has done: whatever it had by then, where the device failed; nothing but reads; or all that a boot does to
-- a disk, where memory was refused to the processes.
abbrev pub HasStopped : {D : Type 0} → Ghosts D → D → D × BootError → Type 0
HasStopped v disk refusal =
    (refusal.1 ≡ Device)
    ⊎ (HasOnlyRead v.seen v.may_leave v.moment v.left_since disk refusal.0 ⊎ ((refusal.1 ≡ NoMemory) × IsDiskOfBoot v disk refusal.0))
