use Rattle.std.proofs.Common.{refl}
use Rattle.node_processes.specs.Answers.{peek_line}
use Rattle.rel_session.specs.Node.{DiskState, Reply}
use Rattle.rel_session.specs.Transition.{NodeReplies, processes_answer}
use Rattle.rel_session.specs.Transition.Action.{answers}
use Rattle.rel_session.proofs.DeviceLemmas.{IsDevice}
use Rattle.rel_session.proofs.ProcessReplies.{answers_of_node}
use Rattle.rel_session.proofs.processes.peek.Goals as goal

pub returns-clause-reported : goal.returns-clause-reported
returns-clause-reported g c =
    let laws : IsDevice g.D.Disk = record { reads_an_image = g.met.D.Disk.reads_an_image; counts_now = g.met.D.Disk.counts_now; only_now = g.met.D.Disk.only_now } in
    let Does : DiskState → Reply → Type 0 = λ p a. NodeReplies p (answers (processes_answer (peek_line c.args.app.now c.args.id.now) p)) a in
    answers_of_node g.D.Disk laws Does (λ list ps. peek_line c.args.app.now c.args.id.now ps) (λ ps. ps) (λ events extent ps. refl) c.args.node.now (record c.args.node.now { processes = c.peek.new.self }) c.requires.works refl c.peek.ensures.same
    c.peek.result c.answer_of.result c.answer_of.ensures.same c.peek.ensures.reported
