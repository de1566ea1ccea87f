-- What an installation answers, and what it leaves of the node (OTP: release_handler:install_release/1).
use Rattle.std.specs.Prelude.{◌≡◌, ◌⊎◌, ℕ, ◌+◌, Bool, true, false, List, if◌then◌else◌, Result, Ok, Err}
use Rattle.rel_disk.specs.Moments.{HasFailed}
use Rattle.rel_list.specs.Releases.{Releases, has_one_shot}
use Rattle.rel_list.specs.Event.{Event, list_restarted}
use Rattle.rel_list.specs.Event.Event.{installed, restart_installed}
use Rattle.rel_records.specs.Format.{writes_one_shot}
use Rattle.rel_records.specs.Writing.{record_of}
use Rattle.relup_file.specs.Script.{restarts}
use Rattle.relup_file.specs.Search.{FoundForm}
use Rattle.node_command.specs.Installing.{installation}
use Rattle.node_command.specs.Taking.{change_size}
use Rattle.node_command.specs.declared.error.HandlerError.{HandlerError}
use Rattle.node_command.specs.declared.error.HandlerError.TheVariants.{Dead, Device, Full, NoMemory}
use Rattle.node_upgrade.specs.declared.error.InstallError.{InstallError}
use Rattle.node_upgrade.specs.declared.error.InstallError.TheVariants.{Command, Refused, MustReboot}
use Rattle.node_upgrade.specs.declared.upgrade.Installed.{Installed}
use Rattle.node_upgrade.specs.Running.{NodeState, IsCarriedOut, IsInstalled, IsUntouched, LacksMemory, RunRefused}
use Rattle.node_upgrade.specs.Upgrade.{IsNoUpgrade, IsUpgrade, UpgradeForm}
use Rattle.node_store.specs.Image.{boot_size, HasSpace}
use Rattle.node_store.specs.State.{disk_in, extent_in, list_in, is_dead, IsSame}
use Rattle.node_store.specs.declared.node_store.NodeStore.{NodeStore}

-- the event of an installation of this version, by whether its script ends with a restart
abbrev pub installation_event : Bool → List ℕ → Event
installation_event true vsn = restart_installed vsn
installation_event false vsn = installed vsn

-- whether the script of an installation ends with a restart, if there is a script
abbrev pub ends_with_restart : Result FoundForm HandlerError → Bool
ends_with_restart (Ok f) = restarts f.script
ends_with_restart (Err why) = false

-- the installation of this version asks for a restart of the runtime system
abbrev pub needs_restart : List ℕ → Releases → Bool
needs_restart vsn es = ends_with_restart (installation vsn es)

-- the event of an installation of this version
abbrev pub install_event : List ℕ → Releases → Event
install_event vsn es = installation_event (needs_restart vsn es) vsn

-- The record of the installation of this version writes a one-shot.
abbrev pub installs_one_shot : List ℕ → Releases → Bool
installs_one_shot vsn es = writes_one_shot (record_of (install_event vsn es) es)

-- how many bytes the body of its record has
abbrev pub install_size : List ℕ → Releases → ℕ
install_size vsn es = change_size (install_event vsn es) es

-- How many bytes have to fit after that body: those of the next boot's record, where a restart leaves a one-shot. A permanent
-- release that is installed again with a restart leaves none.
abbrev pub room_behind : Bool → List ℕ → Releases → ℕ
room_behind true vsn es = if has_one_shot (list_restarted vsn es) then 5 + boot_size (list_restarted vsn es) else 0
room_behind false vsn es = 0

-- how many bytes have to fit in all
abbrev pub install_room : List ℕ → Releases → ℕ
install_room vsn es = install_size vsn es + room_behind (needs_restart vsn es) vsn es

-- The script of this release was carried out to its end.
abbrev pub IsInstalledBy : List ℕ → Releases → NodeState → Installed → NodeState → Type 0
IsInstalledBy vsn es old i new = (u : UpgradeForm) × IsUpgrade vsn es u × IsInstalled u old i new

-- the script failed after its point of no return, so the node has to boot
abbrev pub must_boot : InstallError → Bool
must_boot (MustReboot f) = true
must_boot e = false

-- The disk and the list are as they were, and the handler is dead.
pub record IsLost {D : Type 0} (old new : NodeStore D) : Type 0 where
  pub disk : disk_in new ≡ disk_in old
  pub list : list_in new ≡ list_in old
  pub extent : extent_in new ≡ extent_in old
  pub dead : is_dead new ≡ true

-- Nothing has changed, of the handler and of the processes.
abbrev pub NothingChanged : {D : Type 0} → NodeStore D → NodeStore D → NodeState → NodeState → Type 0
NothingChanged h h' old new = IsSame h h' × IsUntouched old new

-- There is a script that may begin, and its record has room.
abbrev pub MayBegin : {D : Type 0} → List ℕ → NodeStore D → UpgradeForm → Type 0
MayBegin vsn h u = IsUpgrade vsn (list_in h) u × HasSpace (extent_in h) (install_room vsn (list_in h))

-- Memory was refused before the script was begun, so that the handler has tried nothing; or the script lacked it.
abbrev pub InstallLacksMemory : {D : Type 0} → List ℕ → NodeStore D → NodeState → NodeState → Type 0
InstallLacksMemory vsn h old new = (new.view ≡ old.view) ⊎ ((u : UpgradeForm) × MayBegin vsn h u × LacksMemory u old new)

-- Why a release isn't installed, and what stands then. A script that fails after its point of no return, and a device that fails
-- after the script, leave the handler dead; else nothing has changed.
abbrev pub InstallRefused : {D : Type 0} → (D → ℕ) → List ℕ → NodeStore D → NodeStore D → NodeState → NodeState → InstallError → Type 0
InstallRefused failures vsn h h' old new (Command Dead) = (is_dead h ≡ true) × NothingChanged h h' old new
InstallRefused failures vsn h h' old new (Command Full) =
    (is_dead h ≡ false) × ((u : UpgradeForm) × IsUpgrade vsn (list_in h) u)
    × (HasSpace (extent_in h) (install_room vsn (list_in h)) → ⊥) × NothingChanged h h' old new
InstallRefused failures vsn h h' old new (Command NoMemory) =
    (is_dead h ≡ false) × InstallLacksMemory vsn h old new × NothingChanged h h' old new
InstallRefused failures vsn h h' old new (Command Device) =
    (is_dead h ≡ false)
    × ((u : UpgradeForm) × MayBegin vsn h u × IsCarriedOut u old new)
    × HasFailed (failures (disk_in h)) (failures (disk_in h')) × (is_dead h' ≡ true)
InstallRefused failures vsn h h' old new (Command why) =
    (is_dead h ≡ false) × (installation vsn (list_in h) ≡ Err why) × NothingChanged h h' old new
InstallRefused failures vsn h h' old new (Refused f) =
    (is_dead h ≡ false)
    × (IsNoUpgrade vsn (list_in h) (Refused f) ⊎ ((u : UpgradeForm) × MayBegin vsn h u × RunRefused u old new (Refused f)))
    × NothingChanged h h' old new
InstallRefused failures vsn h h' old new (MustReboot f) =
    (is_dead h ≡ false) × ((u : UpgradeForm) × MayBegin vsn h u × RunRefused u old new (MustReboot f)) × IsLost h h'
