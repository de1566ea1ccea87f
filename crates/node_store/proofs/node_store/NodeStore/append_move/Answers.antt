use Rattle.std.proofs.Common.{◌∙◌, refl}
use Rattle.rel_list.specs.Event.{event_of}
use Rattle.start_record.specs.Text.{versions_of}
use Rattle.node_command.specs.Taking.{change_size}
use Rattle.node_store.specs.State.{list_in}
use Rattle.node_command.specs.declared.error.HandlerError.TheVariants.{Device}
use Rattle.node_store.proofs.CommandAnswers.{refused_append}
use Rattle.node_store.proofs.Commits.{unchanged}
use Rattle.node_store.proofs.PermanenceLemmas.{brings_none, makes_none, no_start, are_versions, moving, not_moved, moved_start, is_moved}
use Rattle.node_store.proofs.node_store.NodeStore.append_move.Goals as goal

pub append_change-requires-clause-listed : goal.append_change-requires-clause-listed
append_change-requires-clause-listed g c = brings_none c.args.vsn.now (event_of c.args.event) c.requires.moves

pub append_change-requires-clause-other : goal.append_change-requires-clause-other
append_change-requires-clause-other g c = makes_none c.args.vsn.now (event_of c.args.event) c.requires.moves

pub commit_start-requires-clause-versions : goal.commit_start-requires-clause-versions
commit_start-requires-clause-versions g c =
    are_versions g.D.Disk c.args.self.now c.requires.sound c.requires.works c.args.vsn.now (versions_of c.in_ok-start.start) c.in_ok-start.ensures.found

-- nothing was written yet
pub returns-in_err-start-clause-appends : goal.returns-in_err-start-clause-appends
returns-in_err-start-clause-appends g c =
    let e = event_of c.args.event in
    let h = c.args.self.now in
    let size = change_size e (list_in h) in
    let why = c.in_err-start.field-0.0 in
    refused_append g.D.Disk e size h h (unchanged g.D.Disk h c.requires.sound (g.met.D.Disk.only_now _) e size) refl c.from_residual.result why c.from_residual.ensures
    (no_start g.D.Disk.failures h c.requires.works (c.requires.sound.free c.requires.works) c.args.vsn.now e c.requires.moves _ why c.in_err-start.ensures.refused)

-- the first write failed, or was refused
pub returns-in_err-append_change-clause-appends : goal.returns-in_err-append_change-clause-appends
returns-in_err-append_change-clause-appends g c =
    let e = event_of c.args.event in
    let h = c.args.self.now in
    let then = c.in_err-append_change.ensures.appends in
    refused_append g.D.Disk e (change_size e (list_in h)) h c.append_change.new.self then.commits then.format c.from_residual-in_err-append_change.result c.in_err-append_change.field-0.0 c.from_residual-in_err-append_change.ensures then.refused

-- the device failed in the second write
pub returns-in_err-commit_start-clause-appends : goal.returns-in_err-commit_start-clause-appends
returns-in_err-commit_start-clause-appends g c =
    let then = c.in_ok-append_change.ensures.appends in
    let e = event_of c.args.event in
    let h = c.args.self.now in
    refused_append g.D.Disk e (change_size e (list_in h)) h c.commit_start.new.self
    (moving g.D.Disk h c.requires.sound c.requires.works c.args.vsn.now (versions_of c.in_ok-start.start) c.in_ok-start.ensures.found
    e c.requires.moves c.append_change.new.self then.commits then.appended then.ready c.in_ok-append_change.ensures.start g.met.D.Disk.reads_an_image c.commit_start.new.self c.commit_start.ensures.keeps)
    (c.commit_start.ensures.format ∙ then.format) c.from_residual-in_err-commit_start.result Device c.from_residual-in_err-commit_start.ensures
    (not_moved g.D.Disk h c.requires.sound c.requires.works c.args.vsn.now (versions_of c.in_ok-start.start) c.in_ok-start.ensures.found
    e c.requires.moves c.append_change.new.self then.commits then.appended then.ready c.in_ok-append_change.ensures.start g.met.D.Disk.reads_an_image c.commit_start.new.self c.commit_start.ensures.keeps c.in_err-commit_start.ensures.failed)

-- both are written
pub returns-clause-appends : goal.returns-clause-appends
returns-clause-appends g c =
    let then = c.in_ok-append_change.ensures.appends in
    let e = event_of c.args.event in
    let h = c.args.self.now in
    record {
      commits = moving g.D.Disk h c.requires.sound c.requires.works c.args.vsn.now (versions_of c.in_ok-start.start) c.in_ok-start.ensures.found
          e c.requires.moves c.append_change.new.self then.commits then.appended then.ready c.in_ok-append_change.ensures.start g.met.D.Disk.reads_an_image c.commit_start.new.self c.commit_start.ensures.keeps;
      appended = is_moved g.D.Disk h c.requires.sound c.requires.works c.args.vsn.now (versions_of c.in_ok-start.start) c.in_ok-start.ensures.found
          e c.requires.moves c.append_change.new.self then.commits then.appended then.ready c.in_ok-append_change.ensures.start g.met.D.Disk.reads_an_image c.commit_start.new.self c.commit_start.ensures.keeps c.in_ok-commit_start.ensures.acknowledged;
      ready = c.in_ok-commit_start.ensures.ready;
      dead = c.commit_start.ensures.keeps.dead;
      format = c.commit_start.ensures.format ∙ then.format;
      refused = tt;
    }

pub returns-clause-started : goal.returns-clause-started
returns-clause-started g c =
    let then = c.in_ok-append_change.ensures.appends in
    moved_start g.D.Disk c.args.self.now c.requires.sound c.requires.works c.args.vsn.now (versions_of c.in_ok-start.start) c.in_ok-start.ensures.found
    (event_of c.args.event) c.requires.moves c.append_change.new.self then.commits then.appended then.ready c.in_ok-append_change.ensures.start g.met.D.Disk.reads_an_image c.commit_start.new.self c.commit_start.ensures.keeps c.in_ok-commit_start.ensures.acknowledged
