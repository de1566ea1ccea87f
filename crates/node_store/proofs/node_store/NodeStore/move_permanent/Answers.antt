use Rattle.std.proofs.Common.{◌∙◌, sym, true≢false}
use Rattle.rel_list.specs.Event.{event_of}
use Rattle.node_command.specs.Taking.{change_size}
use Rattle.node_store.specs.State.{list_in}
use Rattle.node_store.proofs.CommandAnswers.{failed_command, moves_start, refused_command, settled_command}
use Rattle.node_store.proofs.PermanenceLemmas.{makes_none}
use Rattle.node_store.proofs.node_store.NodeStore.move_permanent.Goals as goal

-- the event was refused, or the device failed
pub returns-in_err-append_move : goal.returns-in_err-append_move
returns-in_err-append_move g c =
    let h = c.args.self.now in
    let e = event_of c.args.event in
    let a = c.in_err-append_move.ensures.appends in
    refused_command g.D.Disk e (change_size e (list_in h)) h c.append_move.new.self a.commits a.format c.from_residual.result c.in_err-append_move.field-0.0 c.from_residual.ensures a.refused

-- the device failed after both writes
pub returns-in_err-compact : goal.returns-in_err-compact
returns-in_err-compact g c =
    let h = c.args.self.now in
    let e = event_of c.args.event in
    let a = c.in_ok-append_move.ensures.appends in
    failed_command g.D.Disk h e (change_size e (list_in h)) c.append_move.new.self (record { commits = a.commits; appended = a.appended; right = c.in_ok-append_move.ensures.started }) g.met.D.Disk.reads_an_image
    c.compact.new.self c.compact.ensures.compacts (c.compact.ensures.format ∙ a.format) c.from_residual-in_err-compact.result c.in_err-compact.field-0.0 c.from_residual-in_err-compact.ensures c.in_err-compact.ensures.device c.in_err-compact.ensures.failed

-- all is done
pub returns : goal.returns
returns g c =
    let h = c.args.self.now in
    let e = event_of c.args.event in
    let a = c.in_ok-append_move.ensures.appends in
    settled_command g.D.Disk h e (change_size e (list_in h)) c.append_move.new.self (record { commits = a.commits; appended = a.appended; right = c.in_ok-append_move.ensures.started }) g.met.D.Disk.reads_an_image
    c.compact.new.self c.compact.ensures.compacts (c.compact.ensures.format ∙ a.format) c.in_ok-compact.ensures.done (λ leaves. absurd (true≢false (sym leaves ∙ moves_start c.args.vsn.now e c.requires.moves))) tt
    (makes_none c.args.vsn.now e c.requires.moves) c.asks_for_boot-boots.result c.asks_for_boot-boots.ensures
