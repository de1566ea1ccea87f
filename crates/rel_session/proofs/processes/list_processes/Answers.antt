use Rattle.std.proofs.Common.{refl}
use Rattle.node_processes.specs.Answers.{processes_line}
use Rattle.rel_session.specs.Node.{DiskState, Reply}
use Rattle.rel_session.specs.Transition.{NodeReplies, processes_answer}
use Rattle.rel_session.specs.Transition.Action.{answers}
use Rattle.rel_session.proofs.DeviceLemmas.{IsDevice}
use Rattle.rel_session.proofs.ProcessReplies.{answers_of_node}
use Rattle.rel_session.proofs.processes.list_processes.Goals as goal

pub returns-clause-listed : goal.returns-clause-listed
returns-clause-listed g c =
    let laws : IsDevice g.D.Disk = record { reads_an_image = g.met.D.Disk.reads_an_image; counts_now = g.met.D.Disk.counts_now; only_now = g.met.D.Disk.only_now } in
    let Does : DiskState → Reply → Type 0 = λ p a. NodeReplies p (answers (processes_answer processes_line p)) a in
    answers_of_node g.D.Disk laws Does (λ list ps. processes_line ps) (λ ps. ps) (λ events extent ps. refl) c.args.node.now (record c.args.node.now { processes = c.list.new.self }) c.requires.works refl c.list.ensures.same
    c.list.result c.answer_of.result c.answer_of.ensures.same c.list.ensures.reported
