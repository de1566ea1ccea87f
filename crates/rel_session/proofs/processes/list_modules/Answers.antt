use Rattle.std.proofs.Common.{refl}
use Rattle.node_processes.specs.Answers.{modules_line}
use Rattle.rel_session.specs.Node.{DiskState, Reply}
use Rattle.rel_session.specs.Transition.{NodeReplies, processes_answer}
use Rattle.rel_session.specs.Transition.Action.{answers}
use Rattle.rel_session.proofs.DeviceLemmas.{IsDevice}
use Rattle.rel_session.proofs.ProcessReplies.{answers_of_node}
use Rattle.rel_session.proofs.processes.list_modules.Goals as goal

pub returns-clause-listed : goal.returns-clause-listed
returns-clause-listed g c =
    let laws : IsDevice g.D.Disk = record { reads_an_image = g.met.D.Disk.reads_an_image; counts_now = g.met.D.Disk.counts_now; only_now = g.met.D.Disk.only_now } in
    let Does : DiskState → Reply → Type 0 = λ p a. NodeReplies p (answers (processes_answer modules_line p)) a in
    answers_of_node g.D.Disk laws Does (λ list ps. modules_line ps) (λ ps. ps) (λ events extent ps. refl) c.args.node.now c.args.node.now c.requires.works refl refl
    c.list_modules.result c.answer_of.result c.answer_of.ensures.same c.list_modules.ensures
