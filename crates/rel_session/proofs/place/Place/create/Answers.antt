use Rattle.std.proofs.Common.{Err, subst}
use Rattle.session_input.specs.Commands.Command.{create}
use Rattle.rel_session.specs.InMemory.{IsStartedOrNot}
use Rattle.rel_session.specs.Node.{DiskState, Reply}
use Rattle.rel_session.specs.Transition.{Transition}
use Rattle.rel_session.specs.declared.place.Place.TheVariants as memory
use Rattle.rel_session.specs.declared.unanswered.Unanswered.TheVariants as unanswered
use Rattle.rel_handler.proofs.NewNodes.{has_a_store}
use Rattle.rel_session.proofs.CreationReplies.{creates, creates_again, creates_none}
use Rattle.rel_session.proofs.DeviceLemmas.{IsDevice}
use Rattle.rel_session.proofs.Replies.{changes_no_memory, from_there}
use Rattle.rel_session.proofs.place.Place.create.Goals as goal

-- there is a node
pub returns-in-Made-clause-created : goal.returns-in-Made-clause-created
returns-in-Made-clause-created g c =
    let laws : IsDevice g.D.Disk = record { reads_an_image = g.met.D.Disk.reads_an_image; counts_now = g.met.D.Disk.counts_now; only_now = g.met.D.Disk.only_now } in
    let source = g.F.Files.gives c.args.files.now in
    let Does : DiskState → Reply → Type 0 = λ p a. Transition source p (create c.args.path.now) a in
    let there = memory.Made c.in-Made.node in
    from_there g.D.Disk laws Does (Err (unanswered.Refused c.existing-why.result)) c.args.self there there c.in-Made.is
    (creates_again g.D.Disk laws source c.args.path.now c.in-Made.node c.existing-why.result c.existing-why.ensures)

-- memory was refused to the line
pub returns-in-Err-clause-created : goal.returns-in-Err-clause-created
returns-in-Err-clause-created g c =
    let laws : IsDevice g.D.Disk = record { reads_an_image = g.met.D.Disk.reads_an_image; counts_now = g.met.D.Disk.counts_now; only_now = g.met.D.Disk.only_now } in
    let Does : DiskState → Reply → Type 0 = λ p a. Transition (g.F.Files.gives c.args.files.now) p (create c.args.path.now) a in
    let there = memory.Idle c.in-Idle.disk in
    from_there g.D.Disk laws Does (Err unanswered.NoMemory) c.args.self there there c.in-Idle.is (changes_no_memory g.D.Disk laws Does there)

-- a node was made, or not
pub returns-in-Ok-create-clause-created : goal.returns-in-Ok-create-clause-created
returns-in-Ok-create-clause-created g c =
    let laws : IsDevice g.D.Disk = record { reads_an_image = g.met.D.Disk.reads_an_image; counts_now = g.met.D.Disk.counts_now; only_now = g.met.D.Disk.only_now } in
    let source = g.F.Files.gives c.args.files.now in
    let Does : DiskState → Reply → Type 0 = λ p a. Transition source p (create c.args.path.now) a in
    from_there g.D.Disk laws Does c.answer_of.result c.args.self (memory.Idle c.in-Idle.disk) c.started-place.result.0 c.in-Idle.is
    (creates g.D.Disk laws source c.args.path.now c.in-Idle.disk (has_a_store (g.D.Disk.seen c.in-Idle.disk)) c.in-Ok-create.handler c.in-Ok-create.ensures.made (c.in-Ok-create.ensures.sound.started c.in-Ok-create.ensures.works) c.in-Ok-create.ensures.works
    (λ magic. let none = (c.in-Ok-create.ensures.taken magic).1 in cc) c.in-Ok-create.ensures.counted c.started-place.result.1 c.answer_of.result c.started-place.result.0 c.answer_of.ensures.same
    (subst (λ text. IsStartedOrNot c.in-Ok-create.handler text c.started-place.result.1 c.started-place.result.0) c.in-Ok.ensures.blank c.started-place.ensures.started))

pub returns-in-Err-create-clause-created : goal.returns-in-Err-create-clause-created
returns-in-Err-create-clause-created g c =
    let laws : IsDevice g.D.Disk = record { reads_an_image = g.met.D.Disk.reads_an_image; counts_now = g.met.D.Disk.counts_now; only_now = g.met.D.Disk.only_now } in
    let source = g.F.Files.gives c.args.files.now in
    let Does : DiskState → Reply → Type 0 = λ p a. Transition source p (create c.args.path.now) a in
    from_there g.D.Disk laws Does (Err (unanswered.Refused c.in-Err-create.why)) c.args.self (memory.Idle c.in-Idle.disk) (memory.Idle c.in-Err-create.disk) c.in-Idle.is
    (creates_none g.D.Disk laws source c.args.path.now c.in-Idle.disk (has_a_store (g.D.Disk.seen c.in-Idle.disk)) c.in-Err-create.disk c.in-Err-create.ensures.counted c.in-Err-create.why (λ magic. (c.in-Err-create.ensures.taken magic).0) c.in-Err-create.ensures.refused)
