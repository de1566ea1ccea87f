-- What a boot of a node replies.
use Rattle.std.specs.Prelude.{◌≡◌, ◌⊎◌, ℕ, Bool, true, false, List, [], ◌∷◌, ◌++◌, codes, Some}
use Rattle.rel_list.specs.Releases.{Releases, running as running_release}
use Rattle.rel_list.specs.Event.{Event, booted, list_after}
use Rattle.rel_list.specs.Event.Event.{boot as booting}
use Rattle.rel_handler.specs.declared.error.BootError.{BootError}
use Rattle.rel_handler.specs.declared.error.BootError.TheVariants as boot_error
use Rattle.node_store.specs.Events.{Events, StoreState, MayHoldEvents, store_without_doubt, store_with_boot_in_doubt}
use Rattle.node_store.specs.Image.{Extent, booted_extent, IsImageWithExtent, IsLeftByBoot}
use Rattle.rel_handler.specs.Refusals.{IsBootRefusal}
use Rattle.node_store.specs.State.{version_of}
use Rattle.node_answer.specs.Lines.{ok_line}
use Rattle.rel_session.specs.Node.{DiskState, CommandOutcome, just_booted, Reply, reply, no_outcome, commit_outcome}
use Rattle.rel_session.specs.Node.DiskState.{unknown_bytes, not_booted, running, dead}

-- the line that reports why a boot is refused: its number and its name
abbrev pub boot_line : BootError → List ℕ
boot_line boot_error.NotAStore = codes "error boot 1 NotAStore\n"
boot_line (boot_error.Damaged at) = codes "error boot 2 Damaged\n"
boot_line boot_error.Device = codes "error boot 3 Device\n"
boot_line boot_error.NoMemory = codes "error boot 4 NoMemory\n"
boot_line (boot_error.BadRecord i) = codes "error boot 5 BadRecord\n"

-- A boot of a store with these events is done, and a one-shot taken away. The answer names the version of the release that
-- runs.
abbrev pub AnswersBoot : Events → Extent → Reply → Type 0
AnswersBoot events extent a =
    (list : Releases) × (list_after events ≡ Some list)
    × (a ≡ reply (ok_line (version_of (running_release (booted list)))) (commit_outcome (booting ∷ []))
    (just_booted (events ++ booting ∷ []) (booted_extent extent list)))

-- What a boot lacked that could have been done: a device that works, or memory, for itself or for the processes of its node.
pub data Lack : Type 0 where
  device_failed : Lack
  memory_refused : Lack

abbrev pub lack_error : Lack → BootError
lack_error device_failed = boot_error.Device
lack_error memory_refused = boot_error.NoMemory

-- the device failed in it
abbrev pub is_failure : Lack → Bool
is_failure device_failed = true
is_failure memory_refused = false

-- what a boot did that was not done for such a lack: its event is in doubt
abbrev pub undone : Lack → CommandOutcome
undone lack = record { acknowledged = []; in_doubt = Some booting; failed = is_failure lack }

-- the reply then: no node runs after it
abbrev pub boot_undone : Lack → DiskState → Reply
boot_undone lack p = reply (boot_line (lack_error lack)) (undone lack) p

-- What a read gives after a boot of these bytes that was not done. Where memory was refused, nothing was written, or what a
-- boot writes.
abbrev pub IsLeftUndone : Lack → List ℕ → List ℕ → Type 0
IsLeftUndone device_failed bytes torn = Unit {0}
IsLeftUndone memory_refused bytes torn = (torn ≡ bytes) ⊎ IsLeftByBoot bytes torn

-- A boot of a disk with these bytes: they stand for the list of some events, or are refused, or it was not done for a lack.
abbrev pub BootsBytes : List ℕ → Reply → Type 0
BootsBytes bytes a =
    ((events : Events) × (list : Releases) × (extent : Extent) × (list_after events ≡ Some list) × IsImageWithExtent bytes list extent
    × AnswersBoot events extent a)
    ⊎ (((why : BootError) × IsBootRefusal bytes why × (a ≡ reply (boot_line why) no_outcome (unknown_bytes bytes)))
    ⊎ ((lack : Lack) × (torn : List ℕ) × IsLeftUndone lack bytes torn × (a ≡ boot_undone lack (unknown_bytes torn))))

-- A boot of a store was not done for a lack, which came before it had settled which events the store has, or after that.
abbrev pub IsUndone : StoreState → Lack → Reply → Type 0
IsUndone s lack a =
    (a ≡ boot_undone lack (not_booted s))
    ⊎ ((events : Events) × (extent : Extent) × MayHoldEvents s events extent
    × (a ≡ boot_undone lack (not_booted (store_with_boot_in_doubt s.known.ran events extent))))

-- A boot of a store: it has the acknowledged events, with the one in doubt or without.
abbrev pub BootsStore : StoreState → Reply → Type 0
BootsStore s a =
    ((events : Events) × (extent : Extent) × MayHoldEvents s events extent × AnswersBoot events extent a)
    ⊎ ((lack : Lack) × IsUndone s lack a)

-- What a boot replies, wherever the disk stands.
abbrev pub Boots : DiskState → Reply → Type 0
Boots (unknown_bytes bytes) a = BootsBytes bytes a
Boots (not_booted s) a = BootsStore s a
Boots (running events extent ps) a = BootsStore (store_without_doubt events extent) a
Boots (dead s) a = BootsStore s a

-- the store of a node after this event of its, which reaches so far
abbrev pub store_behind : Events → Event → Extent → StoreState
store_behind events e extent = store_without_doubt (events ++ e ∷ []) extent
