use Rattle.std.proofs.Common.{◌≡◌, ◌++◌, refl, sym, subst, string_bytes}
use Rattle.std.specs.Prelude.{IfOk}
use Rattle.session_input.specs.Commands.Command.{set_unpacked}
use Rattle.rel_session.specs.InMemory.{Answers}
use Rattle.rel_session.specs.Node.{DiskState, Reply}
use Rattle.node_answer.specs.Lines.{ok_line}
use Rattle.rel_session.specs.Transition.{Transition}
use Rattle.rel_session.specs.declared.place.Place.TheVariants as memory
use Rattle.rel_session.specs.declared.unanswered.Unanswered.TheVariants as unanswered
use Rattle.rel_session.proofs.DeviceLemmas.{IsDevice}
use Rattle.rel_session.proofs.Replies.{changes_no_memory, reported_so}
use Rattle.rel_session.proofs.UnpackingReplies.{unpacks, unpacks_none}
use Rattle.rel_session.proofs.change.set_unpacked.Goals as goal

-- memory was refused to the line
pub returns-in_err-line-clause-unpacked : goal.returns-in_err-line-clause-unpacked
returns-in_err-line-clause-unpacked g c =
    let laws : IsDevice g.D.Disk = record { reads_an_image = g.met.D.Disk.reads_an_image; counts_now = g.met.D.Disk.counts_now; only_now = g.met.D.Disk.only_now } in
    let n = c.args.node.now in
    let Does : DiskState → Reply → Type 0 = λ p a. Transition (g.F.Files.gives c.args.files.now) p (set_unpacked c.args.path.now) a in
    subst (λ r. Answers g.D.Disk Does r (memory.Made n) (memory.Made n)) (sym (reported_so c.from_residual.result unanswered.NoMemory c.from_residual.ensures.1))
    (changes_no_memory g.D.Disk laws Does (memory.Made n))

-- the release came in, or not
pub returns-in-Err-clause-unpacked : goal.returns-in-Err-clause-unpacked
returns-in-Err-clause-unpacked g c =
    let laws : IsDevice g.D.Disk = record { reads_an_image = g.met.D.Disk.reads_an_image; counts_now = g.met.D.Disk.counts_now; only_now = g.met.D.Disk.only_now } in
    unpacks_none g.D.Disk laws (g.F.Files.gives c.args.files.now) c.args.path.now c.args.node.now c.requires.works (record c.args.node.now { handler = c.set_unpacked.new.self }) refl c.in-Err.why c.in-Err.ensures.refused

pub returns-in-Ok-clause-unpacked : goal.returns-in-Ok-clause-unpacked
returns-in-Ok-clause-unpacked g c =
    let laws : IsDevice g.D.Disk = record { reads_an_image = g.met.D.Disk.reads_an_image; counts_now = g.met.D.Disk.counts_now; only_now = g.met.D.Disk.only_now } in
    let text = c.append_version.result in
    let appended = subst (λ front. IfOk text (λ line. string_bytes line ≡ front ++ ok_line c.as_str.result.now)) c.in_ok-line.ensures.blank c.append_version.ensures.appended in
    unpacks g.D.Disk laws (g.F.Files.gives c.args.files.now) c.args.path.now c.args.node.now c.requires.works (record c.args.node.now { handler = c.set_unpacked.new.self }) refl (string_bytes c.in-Ok.vsn) text c.answer_of.result c.in-Ok.ensures.unpacked
    c.answer_of.ensures.same (subst (λ vsn. IfOk text (λ line. string_bytes line ≡ ok_line vsn)) c.as_str.ensures.value appended)
