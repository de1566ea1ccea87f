use Rattle.std.proofs.Common.{refl, ◌∙◌}
use Rattle.rel_list.specs.Event.{event_of}
use Rattle.node_command.specs.declared.error.HandlerError.TheVariants.{Device}
use Rattle.node_command.proofs.Refusals.{refuses_with}
use Rattle.rel_disk.specs.Moments.{HasFailed}
use Rattle.node_store.specs.State.{disk_in}
use Rattle.node_store.proofs.CompactionLemmas.{commits_compacting, commits_installation, committed_change, fails_compacting, is_done_with, right_still}
use Rattle.node_store.proofs.node_store.NodeStore.commit_installation.Goals as goal

-- the device failed after the commit
pub returns-in_err-compact-clause-commits : goal.returns-in_err-compact-clause-commits
returns-in_err-compact-clause-commits g c =
    let h = c.args.self.now in
    let e = event_of c.args.event in
    let w = c.in_ok-write_installation.ensures in
    let committed = committed_change g.D.Disk h c.requires.sound c.requires.allowed.0 e _ c.write_installation.new.self w.commits w.appended w.ready w.start g.met.D.Disk.reads_an_image c.requires.stays in
    commits_compacting g.D.Disk h e _ c.write_installation.new.self committed g.met.D.Disk.reads_an_image c.compact.new.self c.compact.ensures.compacts

pub returns-in_err-compact-clause-failed : goal.returns-in_err-compact-clause-failed
returns-in_err-compact-clause-failed g c =
    let h = c.args.self.now in
    let e = event_of c.args.event in
    let w = c.in_ok-write_installation.ensures in
    let committed = committed_change g.D.Disk h c.requires.sound c.requires.allowed.0 e _ c.write_installation.new.self w.commits w.appended w.ready w.start g.met.D.Disk.reads_an_image c.requires.stays in
    let refused = fails_compacting g.D.Disk h e _ c.write_installation.new.self committed g.met.D.Disk.reads_an_image c.compact.new.self c.compact.ensures.compacts Device refl c.in_err-compact.ensures.failed in
    refuses_with (λ _. HasFailed (g.D.Disk.failures (disk_in h)) (g.D.Disk.failures (disk_in c.compact.new.self))) c.from_residual-in_err-compact.result c.in_err-compact.field-0.0 c.from_residual-in_err-compact.ensures refused.1

-- it is done
pub returns-clause-commits : goal.returns-clause-commits
returns-clause-commits g c =
    let h = c.args.self.now in
    let e = event_of c.args.event in
    let w = c.in_ok-write_installation.ensures in
    let committed = committed_change g.D.Disk h c.requires.sound c.requires.allowed.0 e _ c.write_installation.new.self w.commits w.appended w.ready w.start g.met.D.Disk.reads_an_image c.requires.stays in
    commits_installation g.D.Disk h e _ c.write_installation.new.self committed g.met.D.Disk.reads_an_image c.compact.new.self c.compact.ensures.compacts c.in_ok-compact.ensures.done c.makes_one_shot-restarts.result c.makes_one_shot-restarts.ensures

pub returns-clause-done : goal.returns-clause-done
returns-clause-done g c =
    let h = c.args.self.now in
    let e = event_of c.args.event in
    let w = c.in_ok-write_installation.ensures in
    let committed = committed_change g.D.Disk h c.requires.sound c.requires.allowed.0 e _ c.write_installation.new.self w.commits w.appended w.ready w.start g.met.D.Disk.reads_an_image c.requires.stays in
    is_done_with g.D.Disk h e _ c.write_installation.new.self committed g.met.D.Disk.reads_an_image c.compact.new.self c.compact.ensures.compacts c.in_ok-compact.ensures.done c.makes_one_shot-restarts.result

pub returns-clause-started : goal.returns-clause-started
returns-clause-started g c =
    let h = c.args.self.now in
    let e = event_of c.args.event in
    let w = c.in_ok-write_installation.ensures in
    let committed = committed_change g.D.Disk h c.requires.sound c.requires.allowed.0 e _ c.write_installation.new.self w.commits w.appended w.ready w.start g.met.D.Disk.reads_an_image c.requires.stays in
    right_still g.D.Disk h e _ c.write_installation.new.self committed g.met.D.Disk.reads_an_image c.compact.new.self c.compact.ensures.compacts c.in_ok-compact.ensures.done

pub returns-clause-start : goal.returns-clause-start
returns-clause-start g c = c.in_ok-compact.ensures.done.start ∙ c.in_ok-write_installation.ensures.start

pub returns-clause-dead : goal.returns-clause-dead
returns-clause-dead g c = c.makes_one_shot-restarts.ensures

pub returns-clause-format : goal.returns-clause-format
returns-clause-format g c = λ makes. c.compact.ensures.format ∙ c.in_ok-write_installation.ensures.format makes
