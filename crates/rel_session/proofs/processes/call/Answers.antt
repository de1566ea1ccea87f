use Rattle.std.proofs.Common.{refl}
use Rattle.node_processes.specs.Calls.{calls_line, left_by}
use Rattle.node_processes.specs.Calls.Calls.{once}
use Rattle.rel_session.specs.Node.{DiskState, Reply}
use Rattle.rel_session.specs.Transition.{NodeReplies}
use Rattle.rel_session.specs.Transition.Action.{calls}
use Rattle.rel_session.proofs.DeviceLemmas.{IsDevice}
use Rattle.rel_session.proofs.ProcessReplies.{answers_of_node}
use Rattle.rel_session.proofs.processes.call.Goals as goal

pub returns-clause-called : goal.returns-clause-called
returns-clause-called g c =
    let laws : IsDevice g.D.Disk = record { reads_an_image = g.met.D.Disk.reads_an_image; counts_now = g.met.D.Disk.counts_now; only_now = g.met.D.Disk.only_now } in
    let asked = once c.args.app.now c.args.id.now c.args.input in
    let Does : DiskState → Reply → Type 0 = λ p a. NodeReplies p (calls asked) a in
    answers_of_node g.D.Disk laws Does (λ list ps. calls_line asked ps) (left_by asked) (λ events extent ps. refl) c.args.node.now (record c.args.node.now { processes = c.call.new.self }) c.requires.works refl c.call.ensures.called
    c.call.result c.answer_of.result c.answer_of.ensures.same c.call.ensures.reported
