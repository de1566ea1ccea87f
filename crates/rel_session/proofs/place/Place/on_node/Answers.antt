use Rattle.std.proofs.Common.{Err}
use Rattle.session_input.specs.Commands.{command_of}
use Rattle.node_command.specs.declared.error.HandlerError.TheVariants as handler_error
use Rattle.rel_session.specs.Node.{DiskState, Reply}
use Rattle.rel_session.specs.Transition.{Transition}
use Rattle.rel_session.specs.declared.place.Place.TheVariants as memory
use Rattle.rel_session.specs.declared.unanswered.Unanswered.TheVariants as unanswered
use Rattle.rel_session.proofs.DeviceLemmas.{IsDevice}
use Rattle.rel_session.proofs.Replies.{from_there, changes_nowhere, idle_needs}
use Rattle.rel_session.proofs.place.Place.on_node.Goals as goal

pub returns-in-Idle-clause-answered : goal.returns-in-Idle-clause-answered
returns-in-Idle-clause-answered g c =
    let laws : IsDevice g.D.Disk = record { reads_an_image = g.met.D.Disk.reads_an_image; counts_now = g.met.D.Disk.counts_now; only_now = g.met.D.Disk.only_now } in
    let source = g.F.Files.gives c.args.files.now in
    let command = command_of c.args.command.now in
    let there = memory.Idle c.in-Idle.disk in
    let Does : DiskState → Reply → Type 0 = λ p a. Transition source p command a in
    from_there g.D.Disk laws Does (Err (unanswered.Refused handler_error.Dead)) c.args.self there there c.in-Idle.is
    (changes_nowhere g.D.Disk laws Does (idle_needs g.D.Disk laws source command c.requires.asked) c.in-Idle.disk)

pub returns-in-Made-clause-answered : goal.returns-in-Made-clause-answered
returns-in-Made-clause-answered g c =
    let laws : IsDevice g.D.Disk = record { reads_an_image = g.met.D.Disk.reads_an_image; counts_now = g.met.D.Disk.counts_now; only_now = g.met.D.Disk.only_now } in
    let Does : DiskState → Reply → Type 0 = λ p a. Transition (g.F.Files.gives c.args.files.now) p (command_of c.args.command.now) a in
    from_there g.D.Disk laws Does c.done_by-done.result c.args.self (memory.Made c.in-Made.node) (memory.Made c.done_by-done.new.node) c.in-Made.is c.done_by-done.ensures.answered
