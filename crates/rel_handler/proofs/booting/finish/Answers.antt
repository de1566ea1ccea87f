use Rattle.std.proofs.Common.{◌≡◌, Some, sym, ◌∙◌, subst}
use Rattle.rel_files.specs.Release.{release_of}
use Rattle.rel_list.specs.Releases.{permanent}
use Rattle.rel_records.proofs.EventRecords.{one-recorded}
use Rattle.rel_store.specs.State.{records_in}
use Rattle.start_record.specs.Text.{AreVersions, versions_of}
use Rattle.rel_handler.specs.Booting.{FinishRefused}
use Rattle.node_store.specs.State.{list_in}
use Rattle.rel_handler.specs.declared.error.BootError.TheVariants.{Device, NoMemory}
use Rattle.node_store.proofs.Commits.{have_versions, read_nothing}
use Rattle.node_command.proofs.Refusals.{refuses_with}
use Rattle.rel_handler.proofs.RepairLemmas.{alone_then, another_start, booted_now, booted_then, failed_over, one_is_permanent, permanent_versions, reads_alone, refused_then, rests_so, right_already, started_now, takes_then, written_over}
use Rattle.rel_handler.proofs.booting.finish.Goals as goal

-- a list that records make has a permanent release
pub unreachable-requires : goal.unreachable-requires
unreachable-requires g c =
    let h = c.args.node.now in
    one_is_permanent (list_in h) (sym (one-recorded (list_in h)) ∙ c.requires.ready.list.makes.1) (sym c.in_default.ensures)

-- There is no memory for the start of the permanent release.
pub returns-in_err-start-clause-leaves : goal.returns-in_err-start-clause-leaves
returns-in_err-start-clause-leaves g c = rests_so g.D.Disk c.args.node.now c.requires.ready (g.met.D.Disk.only_now _)

pub returns-in_err-start-clause-refused : goal.returns-in_err-start-clause-refused
returns-in_err-start-clause-refused g c =
    let h = c.args.node.now in
    refuses_with (FinishRefused g.D.Disk h h) c.from_residual.result NoMemory c.from_residual.ensures (read_nothing g.D.Disk h (g.met.D.Disk.only_now _))

-- the start record can't be read
pub returns-in_err-right-clause-leaves : goal.returns-in_err-right-clause-leaves
returns-in_err-right-clause-leaves g c = reads_alone g.D.Disk c.args.node.now c.starts.new.node c.requires.ready c.in_err-right.ensures.read

pub returns-in_err-right-clause-refused : goal.returns-in_err-right-clause-refused
returns-in_err-right-clause-refused g c =
    refuses_with (FinishRefused g.D.Disk c.args.node.now c.starts.new.node) c.from_residual-in_err-right.result _ c.from_residual-in_err-right.ensures c.in_err-right.ensures.refused

-- the one-shot can't be taken away
pub returns-in_err-take_one_shot-clause-leaves : goal.returns-in_err-take_one_shot-clause-leaves
returns-in_err-take_one_shot-clause-leaves g c =
    takes_then g.D.Disk c.args.node.now c.starts.new.node c.requires.ready c.in_ok-right.ensures.read c.take_one_shot.new.node c.in_err-take_one_shot.ensures.leaves

pub returns-in_err-take_one_shot-clause-refused : goal.returns-in_err-take_one_shot-clause-refused
returns-in_err-take_one_shot-clause-refused g c =
    let h = c.args.node.now in
    let why = c.in_err-take_one_shot.field-0.0 in
    refuses_with (FinishRefused g.D.Disk h c.take_one_shot.new.node) c.from_residual-in_err-take_one_shot.result why c.from_residual-in_err-take_one_shot.ensures
    (refused_then g.D.Disk h c.starts.new.node c.requires.ready c.in_ok-right.ensures.read c.take_one_shot.new.node c.in_err-take_one_shot.ensures.leaves why c.in_err-take_one_shot.ensures.refused)

-- the start record is right
pub returns-then-right-clause-leaves : goal.returns-then-right-clause-leaves
returns-then-right-clause-leaves g c =
    takes_then g.D.Disk c.args.node.now c.starts.new.node c.requires.ready c.in_ok-right.ensures.read c.take_one_shot.new.node c.in_ok-take_one_shot.ensures.leaves

pub returns-then-right-clause-booted : goal.returns-then-right-clause-booted
returns-then-right-clause-booted g c =
    let t = c.in_ok-take_one_shot.ensures in
    booted_then g.D.Disk c.args.node.now c.starts.new.node c.requires.ready c.in_ok-right.ensures.read c.take_one_shot.new.node t.leaves t.booted t.start

pub returns-then-right-clause-started : goal.returns-then-right-clause-started
returns-then-right-clause-started g c =
    let h = c.args.node.now in
    let t = c.in_ok-take_one_shot.ensures in
    let r = release_of c.in-Some.release.now in
    let listed : permanent (list_in h) ≡ Some r = sym c.in-Some.ensures in
    let has = permanent_versions (list_in h) r (have_versions h.store.format (records_in h.store) (list_in h) c.requires.ready.list) listed in
    let are = subst AreVersions (sym c.in_ok-start.ensures) (has.erts, has.own) in
    right_already g.D.Disk h c.starts.new.node c.requires.ready c.in_ok-right.ensures.read c.take_one_shot.new.node t.leaves t.booted t.start
    (versions_of c.in_ok-start.start) r are c.in_ok-start.ensures listed (c.in_ok-right.ensures.value.0 c.if-right.true)

pub returns-then-right-clause-right : goal.returns-then-right-clause-right
returns-then-right-clause-right g c = λ started.
    let t = c.in_ok-take_one_shot.ensures in
    alone_then g.D.Disk c.args.node.now c.starts.new.node c.requires.ready c.in_ok-right.ensures.read c.take_one_shot.new.node t.leaves g.met.D.Disk.counts_now (g.met.D.Disk.reads_an_image _) t.free t.others

-- The start record is another one, and is written.
pub commit_start-requires-clause-versions : goal.commit_start-requires-clause-versions
commit_start-requires-clause-versions g c =
    let h = c.args.node.now in
    let r = release_of c.in-Some.release.now in
    let listed : permanent (list_in h) ≡ Some r = sym c.in-Some.ensures in
    let has = permanent_versions (list_in h) r (have_versions h.store.format (records_in h.store) (list_in h) c.requires.ready.list) listed in
    subst AreVersions (sym c.in_ok-start.ensures) (has.erts, has.own)

pub returns-in_err-commit_start-clause-leaves : goal.returns-in_err-commit_start-clause-leaves
returns-in_err-commit_start-clause-leaves g c =
    let h = c.args.node.now in
    let t = c.in_ok-take_one_shot.ensures in
    let r = release_of c.in-Some.release.now in
    let listed : permanent (list_in h) ≡ Some r = sym c.in-Some.ensures in
    let has = permanent_versions (list_in h) r (have_versions h.store.format (records_in h.store) (list_in h) c.requires.ready.list) listed in
    let are = subst AreVersions (sym c.in_ok-start.ensures) (has.erts, has.own) in
    written_over g.D.Disk h c.starts.new.node c.requires.ready c.in_ok-right.ensures.read c.take_one_shot.new.node t.leaves t.booted t.start
    (versions_of c.in_ok-start.start) r are c.in_ok-start.ensures listed c.commit_start.new.self c.commit_start.ensures.keeps

pub returns-in_err-commit_start-clause-refused : goal.returns-in_err-commit_start-clause-refused
returns-in_err-commit_start-clause-refused g c =
    let h = c.args.node.now in
    let t = c.in_ok-take_one_shot.ensures in
    let r = release_of c.in-Some.release.now in
    let listed : permanent (list_in h) ≡ Some r = sym c.in-Some.ensures in
    let has = permanent_versions (list_in h) r (have_versions h.store.format (records_in h.store) (list_in h) c.requires.ready.list) listed in
    let are = subst AreVersions (sym c.in_ok-start.ensures) (has.erts, has.own) in
    refuses_with (FinishRefused g.D.Disk h c.commit_start.new.self) c.from_residual-in_err-commit_start.result Device c.from_residual-in_err-commit_start.ensures
    (failed_over g.D.Disk h c.starts.new.node c.requires.ready c.in_ok-right.ensures.read c.take_one_shot.new.node t.leaves t.booted t.start
    (versions_of c.in_ok-start.start) r are c.in_ok-start.ensures listed c.commit_start.new.self c.commit_start.ensures.keeps c.in_err-commit_start.ensures.failed)

pub returns-clause-leaves : goal.returns-clause-leaves
returns-clause-leaves g c =
    let h = c.args.node.now in
    let t = c.in_ok-take_one_shot.ensures in
    let r = release_of c.in-Some.release.now in
    let listed : permanent (list_in h) ≡ Some r = sym c.in-Some.ensures in
    let has = permanent_versions (list_in h) r (have_versions h.store.format (records_in h.store) (list_in h) c.requires.ready.list) listed in
    let are = subst AreVersions (sym c.in_ok-start.ensures) (has.erts, has.own) in
    written_over g.D.Disk h c.starts.new.node c.requires.ready c.in_ok-right.ensures.read c.take_one_shot.new.node t.leaves t.booted t.start
    (versions_of c.in_ok-start.start) r are c.in_ok-start.ensures listed c.commit_start.new.self c.commit_start.ensures.keeps

pub returns-clause-booted : goal.returns-clause-booted
returns-clause-booted g c =
    let h = c.args.node.now in
    let t = c.in_ok-take_one_shot.ensures in
    let r = release_of c.in-Some.release.now in
    let listed : permanent (list_in h) ≡ Some r = sym c.in-Some.ensures in
    let has = permanent_versions (list_in h) r (have_versions h.store.format (records_in h.store) (list_in h) c.requires.ready.list) listed in
    let are = subst AreVersions (sym c.in_ok-start.ensures) (has.erts, has.own) in
    booted_now g.D.Disk h c.starts.new.node c.requires.ready c.in_ok-right.ensures.read c.take_one_shot.new.node t.leaves t.booted t.start
    (versions_of c.in_ok-start.start) r are c.in_ok-start.ensures listed c.commit_start.new.self c.commit_start.ensures.keeps c.in_ok-commit_start.ensures.ready

pub returns-clause-started : goal.returns-clause-started
returns-clause-started g c =
    let h = c.args.node.now in
    let t = c.in_ok-take_one_shot.ensures in
    let r = release_of c.in-Some.release.now in
    let listed : permanent (list_in h) ≡ Some r = sym c.in-Some.ensures in
    let has = permanent_versions (list_in h) r (have_versions h.store.format (records_in h.store) (list_in h) c.requires.ready.list) listed in
    let are = subst AreVersions (sym c.in_ok-start.ensures) (has.erts, has.own) in
    started_now g.D.Disk h c.starts.new.node c.requires.ready c.in_ok-right.ensures.read c.take_one_shot.new.node t.leaves t.booted t.start
    (versions_of c.in_ok-start.start) r are c.in_ok-start.ensures listed c.commit_start.new.self c.commit_start.ensures.keeps c.in_ok-commit_start.ensures.acknowledged

pub returns-clause-right : goal.returns-clause-right
returns-clause-right g c = λ right.
    let r = release_of c.in-Some.release.now in
    absurd (another_start g.D.Disk c.args.node.now (versions_of c.in_ok-start.start) r c.in_ok-start.ensures (sym c.in-Some.ensures) _ c.in_ok-right.ensures.value c.if-right.false right)
