use Rattle.std.proofs.Common.{refl}
use Rattle.rel_session.specs.Node.{DiskState, Reply}
use Rattle.node_answer.specs.Lines.{check_line}
use Rattle.rel_session.specs.Transition.{NodeReplies, answer_of_node}
use Rattle.rel_session.specs.Transition.Action.{answers}
use Rattle.rel_session.proofs.DeviceLemmas.{IsDevice}
use Rattle.rel_session.proofs.ProcessReplies.{answers_of_node}
use Rattle.rel_session.proofs.check.check_install.Goals as goal

pub returns-clause-reported : goal.returns-clause-reported
returns-clause-reported g c =
    let laws : IsDevice g.D.Disk = record { reads_an_image = g.met.D.Disk.reads_an_image; counts_now = g.met.D.Disk.counts_now; only_now = g.met.D.Disk.only_now } in
    let Does : DiskState → Reply → Type 0 = λ p a. NodeReplies p (answers (answer_of_node (λ list ps. check_line c.args.vsn.now list) p)) a in
    answers_of_node g.D.Disk laws Does (λ list ps. check_line c.args.vsn.now list) (λ ps. ps) (λ events extent ps. refl) c.args.node.now c.args.node.now c.requires.works refl refl
    c.check_line.result c.answer_of.result c.answer_of.ensures.same c.check_line.ensures
