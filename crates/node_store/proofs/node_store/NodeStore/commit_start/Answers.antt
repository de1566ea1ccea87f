use Rattle.std.proofs.Common.{◌≡◌, ⊎_elim, ℕ, true, false, Result, Ok, Err, length, List, ◌≤◌, arith}
use Rattle.std.proofs.lemmas.Bool.Decides.{nat_tests}
use Rattle.std.specs.Prelude.{is_err, IfErr}
use Rattle.rel_disk.specs.Moments.{HasFailed}
use Rattle.rel_files.specs.Name.{IsVersion}
use Rattle.rel_store.specs.State as store
use Rattle.rel_store.specs.declared.store.Store.{Store}
use Rattle.start_record.specs.Refusals.{WriteRefused}
use Rattle.start_record.specs.Text.{Versions, AreVersions, versions_of}
use Rattle.start_record.specs.declared.error.StartError.{StartError}
use Rattle.start_record.specs.declared.error.StartError.TheVariants.{BadStart, Device, TooLong, NoMemory, MustReopen}
use Rattle.node_store.proofs.Commits.{opened, keeps, ready_still, images_still}
use Rattle.node_store.proofs.node_store.NodeStore.commit_start.Goals as goal

short : (s : List ℕ) → IsVersion s → length s ≤ 62
short s is = grind (arith, nat_tests)

-- A start of versions that isn't written where the store works: the device failed.
device_failed : {D : Type 0} (failures : D → ℕ) (v : Versions) (old new : Store D) (r : Result (Unit {0}) StartError) → true ≡ is_err r → IfErr r (WriteRefused failures v old new) → AreVersions v → store.has_failed old ≡ false
    → HasFailed (failures (store.disk_in old)) (failures (store.disk_in new))
device_failed failures v old new (Ok x) err refused are works = cc err
device_failed failures v old new (Err TooLong) err refused are works =
    absurd (⊎_elim (λ long. omega (arith, short v.erts are.0)) (λ long. omega (arith, short v.vsn are.1)) refused.0)
device_failed failures v old new (Err Device) err refused are works = refused.1.0
device_failed failures v old new (Err MustReopen) err refused are works = cc (works, refused.1)
device_failed failures v old new (Err BadStart) err refused are works = absurd refused
device_failed failures v old new (Err NoMemory) err refused are works = absurd refused

-- nothing is promised then
pub returns-then-is_err-clause-ready : goal.returns-then-is_err-clause-ready
returns-then-is_err-clause-ready g c = tt

pub returns-then-is_err-clause-acknowledged : goal.returns-then-is_err-clause-acknowledged
returns-then-is_err-clause-acknowledged g c = tt

pub returns-then-is_err-clause-failed : goal.returns-then-is_err-clause-failed
returns-then-is_err-clause-failed g c =
    device_failed g.D.Disk.failures (versions_of c.args.start.now) c.args.self.now.store c.write_start.new.store c.write_start.result c.if-is_err.ensures.value c.write_start.ensures.refused c.requires.versions c.requires.ready.store.works

pub returns-then-is_err-clause-keeps : goal.returns-then-is_err-clause-keeps
returns-then-is_err-clause-keeps g c =
    let works = c.requires.ready.store.works in
    keeps g.D.Disk c.args.self.now c.requires.ready c.write_start.new.store _ (c.write_start.ensures.any_moment works) (c.write_start.ensures.others works) c.write_start.ensures.base c.write_start.ensures.records c.write_start.ensures.end c.write_start.ensures.counted

pub returns-clause-keeps : goal.returns-clause-keeps
returns-clause-keeps g c =
    let works = c.requires.ready.store.works in
    keeps g.D.Disk c.args.self.now c.requires.ready c.write_start.new.store _ (c.write_start.ensures.any_moment works) (c.write_start.ensures.others works) c.write_start.ensures.base c.write_start.ensures.records c.write_start.ensures.end c.write_start.ensures.counted

pub returns-clause-ready : goal.returns-clause-ready
returns-clause-ready g c =
    ready_still g.D.Disk c.args.self.now c.requires.ready c.write_start.new.store (opened c.write_start.result _ c.if-is_err.ensures.value c.write_start.ensures.settled) c.write_start.ensures.records c.write_start.ensures.base c.write_start.ensures.end c.write_start.ensures.format

pub returns-clause-acknowledged : goal.returns-clause-acknowledged
returns-clause-acknowledged g c =
    images_still g.D.Disk c.args.self.now c.requires.ready c.write_start.new.store (opened c.write_start.result _ c.if-is_err.ensures.value c.write_start.ensures.settled) c.write_start.ensures.records c.write_start.ensures.base c.write_start.ensures.end c.write_start.ensures.format
    _ (opened c.write_start.result _ c.if-is_err.ensures.value c.write_start.ensures.written)
