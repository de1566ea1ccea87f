use Rattle.std.proofs.Common.{◌≡◌, ◌⊎◌, inl, inr, ℕ, List, Result, Ok, Err, refl}
use Rattle.std.specs.Prelude.{IfOk, IfErr}
use Rattle.rel_store.specs.Contents.{OpenRefused}
use Rattle.rel_store.specs.Records.{records_of, Stands}
use Rattle.rel_store.specs.State.{records_in}
use Rattle.rel_store.specs.declared.error.StoreError.{StoreError}
use Rattle.rel_store.specs.declared.error.StoreError.TheVariants.{NotAStore, Damaged, Exists, Full, Device, NoMemory, MustReopen}
use Rattle.rel_store.specs.declared.store.Store.{Store}
use Rattle.disk_cases.proofs.store_callers.reopen.Goals as goal

-- the records that a read finds are those of the store
found : {D : Type 0} (bytes : List ℕ) (a b : List (List ℕ)) (text : List ℕ) (result : Result (Store D) (StoreError × D)) → Stands a text bytes ⊎ Stands b text bytes → IfOk result (λ store. records_of bytes ≡ Ok (records_in store))
    → IfOk result (λ store. (records_in store ≡ a) ⊎ (records_in store ≡ b))
found bytes a b text (Ok store) (inl one) read = inl (let is = one.records in cc)
found bytes a b text (Ok store) (inr other) read = inr (let is = other.records in cc)
found bytes a b text (Err e) there read = tt

-- what stands is refused only by the device and for memory
spared : (bytes : List ℕ) (records : List (List ℕ)) (before now : ℕ) (error : StoreError) → records_of bytes ≡ Ok records → OpenRefused bytes before now error → (error ≡ Device) ⊎ (error ≡ NoMemory)
spared bytes records before now NotAStore is why = absurd cc
spared bytes records before now (Damaged at) is why = absurd cc
spared bytes records before now Exists is why = absurd why
spared bytes records before now Full is why = absurd why
spared bytes records before now Device is why = inl refl
spared bytes records before now NoMemory is why = inr refl
spared bytes records before now MustReopen is why = absurd why

refused : {D : Type 0} (failures : D → ℕ) (bytes : List ℕ) (a b : List (List ℕ)) (text : List ℕ) (before : ℕ) (result : Result (Store D) (StoreError × D)) → Stands a text bytes ⊎ Stands b text bytes
    → IfErr result (λ e. OpenRefused bytes before (failures e.1) e.0) → IfErr result (λ e. (e.0 ≡ Device) ⊎ (e.0 ≡ NoMemory))
refused failures bytes a b text before (Ok store) there why = tt
refused failures bytes a b text before (Err e) (inl one) why = spared bytes a before (failures e.1) e.0 one.records why
refused failures bytes a b text before (Err e) (inr other) why = spared bytes b before (failures e.1) e.0 other.records why

pub returns-clause-records : goal.returns-clause-records
returns-clause-records g c =
    let seen = g.D.Disk.seen c.args.disk in
    found seen g.known.0 g.known.1 g.known.2 c.open_disk.result (c.requires.1 seen (g.met.D.Disk.reads_an_image c.args.disk)) c.open_disk.ensures.records

pub returns-clause-refused : goal.returns-clause-refused
returns-clause-refused g c =
    let seen = g.D.Disk.seen c.args.disk in
    refused g.D.Disk.failures seen g.known.0 g.known.1 g.known.2 (g.D.Disk.failures c.args.disk) c.open_disk.result (c.requires.1 seen (g.met.D.Disk.reads_an_image c.args.disk)) c.open_disk.ensures.refused
