-- Why a call refuses, and what stands after it.
use Rattle.std.specs.Prelude.{◌≡◌, ℕ, true, false, List}
use Rattle.rel_disk.specs.Moments.{HasFailed}
use Rattle.rel_store.specs.State.{disk_in, text_in, has_failed, IsSame}
use Rattle.rel_store.specs.declared.error.StoreError.{StoreError}
use Rattle.rel_store.specs.declared.error.StoreError.TheVariants as store
use Rattle.rel_store.specs.declared.store.Store.{Store}
use Rattle.start_record.specs.Text.{Versions, AreTooLong, SpellsStart, SpellsNoStart}
use Rattle.start_record.specs.declared.error.StartError.{StartError}
use Rattle.start_record.specs.declared.error.StartError.TheVariants.{BadStart, Device, TooLong, NoMemory, MustReopen}

-- The device failed in this call, and the store has to be opened again.
abbrev pub FailsNow : {D : Type 0} → (D → ℕ) → Store D → Store D → Type 0
FailsNow failures old new = HasFailed (failures (disk_in old)) (failures (disk_in new)) × (has_failed old ≡ false) × (has_failed new ≡ true)

-- Why a slot gives no start: it spells none, or it spells one and memory was refused for it.
abbrev pub SlotRefused : List ℕ → StartError → Type 0
SlotRefused slot BadStart = SpellsNoStart slot
SlotRefused slot NoMemory = (v : Versions) × SpellsStart slot v
SlotRefused slot _ = ⊥

-- Why a start isn't read: the slot that counts gives none, and the store works on then. Or the device failed in this call,
-- or in an earlier one, and nothing has changed.
abbrev pub ReadRefused : {D : Type 0} → (D → List ℕ) → (D → ℕ) → Store D → Store D → StartError → Type 0
ReadRefused seen failures old new Device = FailsNow failures old new
ReadRefused seen failures old new MustReopen = (has_failed old ≡ true) × IsSame old new
ReadRefused seen failures old new e = SlotRefused (text_in seen old) e × (has_failed old ≡ false) × (has_failed new ≡ false)

-- Why a start isn't written: a version is too long, which is reported first, or the device failed in an earlier call, and
-- nothing has changed; or it failed in this one.
abbrev pub WriteRefused : {D : Type 0} → (D → ℕ) → Versions → Store D → Store D → StartError → Type 0
WriteRefused failures v old new TooLong = AreTooLong v × IsSame old new
WriteRefused failures v old new MustReopen = (AreTooLong v → ⊥) × (has_failed old ≡ true) × IsSame old new
WriteRefused failures v old new Device = (AreTooLong v → ⊥) × FailsNow failures old new
WriteRefused failures v old new _ = ⊥

-- what a refusal of the store's start slot is here
abbrev pub start_refusal : StoreError → StartError
start_refusal store.Device = Device
start_refusal e = MustReopen

abbrev pub IsSlotError : StoreError → Type 0
IsSlotError store.Device = Unit {0}
IsSlotError store.MustReopen = Unit {0}
IsSlotError e = ⊥
