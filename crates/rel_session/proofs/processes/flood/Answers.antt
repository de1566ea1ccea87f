use Rattle.std.proofs.Common.{refl}
use Rattle.node_processes.specs.Calls.{calls_line, left_by}
use Rattle.node_processes.specs.Calls.Calls.{often}
use Rattle.rel_session.specs.Node.{DiskState, Reply}
use Rattle.rel_session.specs.Transition.{NodeReplies}
use Rattle.rel_session.specs.Transition.Action.{calls}
use Rattle.rel_session.proofs.DeviceLemmas.{IsDevice}
use Rattle.rel_session.proofs.ProcessReplies.{answers_if_reported}
use Rattle.rel_session.proofs.processes.flood.Goals as goal

pub returns-clause-flooded : goal.returns-clause-flooded
returns-clause-flooded g c =
    let laws : IsDevice g.D.Disk = record { reads_an_image = g.met.D.Disk.reads_an_image; counts_now = g.met.D.Disk.counts_now; only_now = g.met.D.Disk.only_now } in
    let asked = often c.args.app.now c.args.id.now c.args.input c.args.times in
    let Does : DiskState → Reply → Type 0 = λ p a. NodeReplies p (calls asked) a in
    answers_if_reported g.D.Disk laws Does (λ list ps. calls_line asked ps) (left_by asked) (λ events extent ps. refl) c.args.node.now (record c.args.node.now { processes = c.flood.new.self }) c.requires.works refl
    c.flood.result c.answer_of.result c.answer_of.ensures.same c.flood.ensures.reported c.flood.ensures.flooded
