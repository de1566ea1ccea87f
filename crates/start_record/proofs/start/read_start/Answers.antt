use Rattle.std.proofs.Common.{◌≡◌, ℕ, List, Bool, true, false, refl, subst, Result, Ok, Err, IfErr}
use Rattle.rel_store.specs.State.{has_failed, text_in}
use Rattle.rel_store.specs.declared.store.Store.{Store}
use Rattle.start_record.specs.Refusals.{ReadRefused, SlotRefused}
use Rattle.start_record.specs.declared.error.StartError.{StartError}
use Rattle.start_record.specs.declared.error.StartError.TheVariants.{BadStart, Device, TooLong, NoMemory, MustReopen}
use Rattle.start_record.proofs.start.read_start.Goals as goal

-- a store whose slot was read worked
worked : (failed : Bool) → (failed ≡ true → ⊥) → failed ≡ false
worked true never = absurd (never refl)
worked false never = refl

-- a slot that was read gives no start, and the store works on
slot_refused : {A D : Type 0} (seen : D → List ℕ) (failures : D → ℕ) (old new : Store D) (r : Result A StartError) (slot : List ℕ) → IfErr r (SlotRefused slot) → slot ≡ text_in seen old → (has_failed old ≡ true → ⊥) → has_failed new ≡ false
    → IfErr r (ReadRefused seen failures old new)
slot_refused seen failures old new (Ok start) slot why is never works = tt
slot_refused seen failures old new (Err BadStart) slot why is never works = (subst (λ s. SlotRefused s BadStart) is why, worked (has_failed old) never, works)
slot_refused seen failures old new (Err NoMemory) slot why is never works = (subst (λ s. SlotRefused s NoMemory) is why, worked (has_failed old) never, works)
slot_refused seen failures old new (Err Device) slot why is never works = absurd why
slot_refused seen failures old new (Err TooLong) slot why is never works = absurd why
slot_refused seen failures old new (Err MustReopen) slot why is never works = absurd why

pub returns-in-Ok-clause-refused : goal.returns-in-Ok-clause-refused
returns-in-Ok-clause-refused g c =
    let e = c.in-Ok.ensures in
    slot_refused g.D.Disk.seen g.D.Disk.failures c.args.store.now c.read_slot.new.self c.start_in.result c.read_slot.new.slot c.start_in.ensures.refused e.read (λ failed. cc (e.reopened.1 failed)) e.settled.works
