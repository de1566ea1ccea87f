use Rattle.std.proofs.Common.{◌∙◌, length}
use Rattle.rel_list.specs.Event.{event_of}
use Rattle.node_store.proofs.CommandAnswers.{asks_for_none, done_command, failed_command, refused_command}
use Rattle.node_store.proofs.CompactionLemmas.{committed_change}
use Rattle.node_store.proofs.node_store.NodeStore.commit.Goals as goal

-- the event was refused, or the device failed
pub returns-in_err-append : goal.returns-in_err-append
returns-in_err-append g c =
    let h = c.args.self.now in
    let e = event_of c.args.event in
    let a = c.in_err-append.ensures.appends in
    refused_command g.D.Disk e (length c.args.body.now) h c.append.new.self a.commits a.format c.from_residual.result c.in_err-append.field-0.0 c.from_residual.ensures a.refused

-- the device failed after the commit
pub returns-in_err-compact : goal.returns-in_err-compact
returns-in_err-compact g c =
    let h = c.args.self.now in
    let e = event_of c.args.event in
    let a = c.in_ok-append.ensures.appends in
    let committed = committed_change g.D.Disk h c.requires.sound c.requires.allowed.0 e _ c.append.new.self a.commits a.appended a.ready c.in_ok-append.ensures.start g.met.D.Disk.reads_an_image c.requires.stays in
    failed_command g.D.Disk h e (length c.args.body.now) c.append.new.self committed g.met.D.Disk.reads_an_image c.compact.new.self c.compact.ensures.compacts (c.compact.ensures.format ∙ a.format)
    c.from_residual-in_err-compact.result c.in_err-compact.field-0.0 c.from_residual-in_err-compact.ensures c.in_err-compact.ensures.device c.in_err-compact.ensures.failed

-- it is done
pub returns : goal.returns
returns g c =
    let h = c.args.self.now in
    let e = event_of c.args.event in
    let a = c.in_ok-append.ensures.appends in
    let committed = committed_change g.D.Disk h c.requires.sound c.requires.allowed.0 e _ c.append.new.self a.commits a.appended a.ready c.in_ok-append.ensures.start g.met.D.Disk.reads_an_image c.requires.stays in
    done_command g.D.Disk h e (length c.args.body.now) c.append.new.self committed g.met.D.Disk.reads_an_image c.compact.new.self c.compact.ensures.compacts (c.compact.ensures.format ∙ a.format)
    c.in_ok-compact.ensures.done (λ leaves. c.in_ok-append.ensures.start) tt c.requires.other (asks_for_none e c.requires.other c.requires.stays)
