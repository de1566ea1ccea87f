-- Why a command is refused, and what stands after it.
use Rattle.std.specs.Prelude.{◌≡◌, ℕ, true, false, List, None, Some, Result, Ok, Err}
use Rattle.rel_disk.specs.Moments.{HasFailed}
use Rattle.rel_files.specs.Release.{Release}
use Rattle.rel_list.specs.Releases.{Releases, release_at}
use Rattle.rel_list.specs.Event.{Event}
use Rattle.rel_store.specs.declared.error.StoreError.{StoreError}
use Rattle.rel_store.specs.declared.error.StoreError.TheVariants as store
use Rattle.node_command.specs.Taking.{commanded}
use Rattle.node_command.specs.declared.error.HandlerError.{HandlerError}
use Rattle.node_command.specs.declared.error.HandlerError.TheVariants.{Device, Full, Dead, NoMemory, Exists, NoSuchRelease}
use Rattle.node_store.specs.Image.{Extent, HasSpace}
use Rattle.node_store.specs.State.{disk_in, extent_in, list_in, is_dead, IsSame}
use Rattle.node_store.specs.declared.node_store.NodeStore.{NodeStore}

-- the event's command would be refused so by the list
abbrev pub IsRefused : {D : Type 0} → Event → NodeStore D → HandlerError → Type 0
IsRefused e old refusal = (is_dead old ≡ false) × (commanded e (list_in old) ≡ Err refusal)

-- the list allows the event
abbrev pub IsAllowed : {D : Type 0} → Event → NodeStore D → Type 0
IsAllowed e old = (is_dead old ≡ false) × ((es : Releases) × (commanded e (list_in old) ≡ Ok es))

-- the list allows the event, and the store has room for a record with a body of so many bytes
abbrev pub IsPossible : {D : Type 0} → Event → ℕ → NodeStore D → Type 0
IsPossible e size old = (is_dead old ≡ false) × ((es : Releases) × (commanded e (list_in old) ≡ Ok es)) × HasSpace (extent_in old) size

-- Why a command with this event, and a record with a body of so many bytes, is refused: for the device, the store, memory,
-- or as the list refuses it. Nothing has changed then, unless the device failed: then the node is dead.
abbrev pub CommandRefused : {D : Type 0} → (D → ℕ) → Event → ℕ → NodeStore D → NodeStore D → HandlerError → Type 0
CommandRefused failures e size old new Dead = (is_dead old ≡ true) × IsSame old new
CommandRefused failures e size old new Full = IsAllowed e old × (HasSpace (extent_in old) size → ⊥) × IsSame old new
CommandRefused failures e size old new NoMemory = (is_dead old ≡ false) × IsSame old new
CommandRefused failures e size old new Device = IsPossible e size old × HasFailed (failures (disk_in old)) (failures (disk_in new)) × (is_dead new ≡ true)
CommandRefused failures e size old new Exists = ⊥
CommandRefused failures e size old new why = IsRefused e old why × IsSame old new

-- Why there is no room for a record with a body of so many bytes in a store that reaches so far: it would be too long, or it
-- would not, and memory was refused.
abbrev pub HasNoRoom : Extent → ℕ → HandlerError → Type 0
HasNoRoom x size Full = HasSpace x size → ⊥
HasNoRoom x size NoMemory = HasSpace x size
HasNoRoom x size why = ⊥

-- Why no start is found for a version: no release has it, or one has it, and memory was refused.
abbrev pub IsStartRefusal : List ℕ → Releases → HandlerError → Type 0
IsStartRefusal vsn es NoMemory = (r : Release) × (release_at vsn es ≡ Some r)
IsStartRefusal vsn es why = (release_at vsn es ≡ None) × (why ≡ NoSuchRelease)

-- what is reported to a command of a compaction of its store: that the device failed, and nothing else
abbrev pub reported_compaction : Result (Unit {0}) StoreError → Result (Unit {0}) HandlerError
reported_compaction (Err store.Device) = Err Device
reported_compaction compaction = Ok tt
