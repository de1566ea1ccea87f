use Rattle.std.proofs.Common.{◌≡◌, sym, subst}
use Rattle.std.specs.Prelude.{IfErr, OnOk}
use Rattle.rel_disk.specs.Moments.{HasFailed}
use Rattle.node_command.specs.declared.error.HandlerError.TheVariants.{Device}
use Rattle.node_store.specs.Commits.{IsCompacted}
use Rattle.node_store.specs.State.{disk_in}
use Rattle.node_store.specs.declared.node_store.NodeStore.{NodeStore}
use Rattle.rel_store.specs.State as store
use Rattle.node_store.proofs.CompactionLemmas.{compacts_so, device_reported, done_so, failed_reported}
use Rattle.node_store.proofs.node_store.NodeStore.compact_to.Goals as goal

pub returns-clause-compacts : goal.returns-clause-compacts
returns-clause-compacts g c =
    let q = c.requires in
    let e = c.compact.ensures in
    compacts_so g.D.Disk c.args.self.now q.ready c.args.image.now q.may q.image q.makes c.compact.new.self c.compact.result e.full e.refused q.dead (g.met.D.Disk.only_now _) e.ends e.others e.counted

pub returns-clause-done : goal.returns-clause-done
returns-clause-done g c =
    let h = c.args.self.now in
    let q = c.requires in
    let e = c.compact.ensures in
    let new : NodeStore _ = record { store = c.compact.new.self; list = h.list; dead = h.dead } in
    subst (λ a. OnOk a (IsCompacted g.D.Disk h new)) (sym c.unless_failed.ensures)
    (done_so g.D.Disk h q.ready c.args.image.now q.may q.image q.makes c.compact.new.self c.compact.result e.full e.refused e.sound e.settled e.compacted e.start e.base e.end e.format)

pub returns-clause-device : goal.returns-clause-device
returns-clause-device g c = subst (λ a. IfErr a (λ e. e ≡ Device)) (sym c.unless_failed.ensures) (device_reported c.compact.result)

pub returns-clause-failed : goal.returns-clause-failed
returns-clause-failed g c =
    let h = c.args.self.now in
    let q = c.requires in
    subst (λ a. IfErr a (λ _. HasFailed (g.D.Disk.failures (disk_in h)) (g.D.Disk.failures (store.disk_in c.compact.new.self)))) (sym c.unless_failed.ensures)
    (failed_reported g.D.Disk h q.ready c.args.image.now q.may q.image q.makes c.compact.new.self c.compact.result c.compact.ensures.refused)
