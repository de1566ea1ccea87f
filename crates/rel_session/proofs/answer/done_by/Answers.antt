use Rattle.std.proofs.Common.{rules, refl, sym, ap, ◌∙◌}
use Rattle.session_input.specs.Commands.{command_of}
use Rattle.session_input.specs.Commands.Command.{set_unpacked, check, permanent, remove, start, procs, modules, peek, call, flood}
use Rattle.node_processes.specs.Answers.{processes_line, modules_line, peek_line}
use Rattle.node_processes.specs.Calls.Calls.{once, often}
use Rattle.node_answer.specs.Lines.{check_line}
use Rattle.rel_session.specs.Transition.{permanence, removal}
use Rattle.rel_session.specs.Transition.Action.{changes_node, reports_start, calls}
use Rattle.rel_session.specs.declared.place.Place.TheVariants as memory
use Rattle.rel_session.proofs.DeviceLemmas.{IsDevice}
use Rattle.rel_session.proofs.Replies.{changes_dead, idle_needs}
use Rattle.rel_session.proofs.ReplyTexts.{answers_command, answers_action, answers_acts, asks_node, reports_node}
use Rattle.rel_session.proofs.answer.done_by.Goals as goal

pub returns-then-is_dead-clause-answered : goal.returns-then-is_dead-clause-answered
returns-then-is_dead-clause-answered g c =
    let laws : IsDevice g.D.Disk = record { reads_an_image = g.met.D.Disk.reads_an_image; counts_now = g.met.D.Disk.counts_now; only_now = g.met.D.Disk.only_now } in
    changes_dead g.D.Disk laws _ (idle_needs g.D.Disk laws (g.F.Files.gives c.args.files.now) (command_of c.args.command.now) c.requires.asked) c.args.node.now (search rules)

pub returns-in-SetUnpacked-clause-answered : goal.returns-in-SetUnpacked-clause-answered
returns-in-SetUnpacked-clause-answered g c =
    answers_command g.D.Disk (memory.Made c.args.node.now) (memory.Made c.set_unpacked.new.node) (g.F.Files.gives c.args.files.now) (command_of c.args.command.now) (set_unpacked c.as_str.result.now) c.set_unpacked.result
    (ap command_of c.in-SetUnpacked.is ∙ ap (λ s. set_unpacked s) (sym c.as_str.ensures.value)) c.set_unpacked.ensures.unpacked

pub returns-in-Check-clause-answered : goal.returns-in-Check-clause-answered
returns-in-Check-clause-answered g c =
    let vsn = c.as_str-in-Check.result.now in
    reports_node g.D.Disk (memory.Made c.args.node.now) (memory.Made c.check_install.new.node) (g.F.Files.gives c.args.files.now) (command_of c.args.command.now) (check vsn) c.check_install.result
    (ap command_of c.in-Check.is ∙ ap (λ s. check s) (sym c.as_str-in-Check.ensures.value)) (λ list ps. check_line vsn list) (λ p. refl) c.check_install.ensures.reported

pub returns-in-Permanent-clause-answered : goal.returns-in-Permanent-clause-answered
returns-in-Permanent-clause-answered g c =
    answers_action g.D.Disk (memory.Made c.args.node.now) (memory.Made c.make_permanent.new.node) (g.F.Files.gives c.args.files.now) (command_of c.args.command.now) (permanent c.as_str-in-Permanent.result.now) c.make_permanent.result
    (ap command_of c.in-Permanent.is ∙ ap (λ s. permanent s) (sym c.as_str-in-Permanent.ensures.value)) (changes_node (permanence c.as_str-in-Permanent.result.now)) (λ p. refl) (λ events extent ps. refl) c.make_permanent.ensures.committed

pub returns-in-Remove-clause-answered : goal.returns-in-Remove-clause-answered
returns-in-Remove-clause-answered g c =
    answers_action g.D.Disk (memory.Made c.args.node.now) (memory.Made c.remove.new.node) (g.F.Files.gives c.args.files.now) (command_of c.args.command.now) (remove c.as_str-in-Remove.result.now) c.remove.result
    (ap command_of c.in-Remove.is ∙ ap (λ s. remove s) (sym c.as_str-in-Remove.ensures.value)) (changes_node (removal c.as_str-in-Remove.result.now)) (λ p. refl) (λ events extent ps. refl) c.remove.ensures.removed

pub returns-in-Start-clause-answered : goal.returns-in-Start-clause-answered
returns-in-Start-clause-answered g c =
    answers_action g.D.Disk (memory.Made c.args.node.now) (memory.Made c.start.new.node) (g.F.Files.gives c.args.files.now) (command_of c.args.command.now) start c.start.result
    (ap command_of c.in-Start.is) reports_start (λ p. refl) (λ events extent ps. refl) c.start.ensures.reported

pub returns-in-Procs-clause-answered : goal.returns-in-Procs-clause-answered
returns-in-Procs-clause-answered g c =
    asks_node g.D.Disk (memory.Made c.args.node.now) (memory.Made c.list_processes.new.node) (g.F.Files.gives c.args.files.now) (command_of c.args.command.now) procs c.list_processes.result
    (ap command_of c.in-Procs.is) processes_line (λ p. refl) c.list_processes.ensures.listed

pub returns-in-Modules-clause-answered : goal.returns-in-Modules-clause-answered
returns-in-Modules-clause-answered g c =
    asks_node g.D.Disk (memory.Made c.args.node.now) (memory.Made c.list_modules.new.node) (g.F.Files.gives c.args.files.now) (command_of c.args.command.now) modules c.list_modules.result
    (ap command_of c.in-Modules.is) modules_line (λ p. refl) c.list_modules.ensures.listed

pub returns-in-Peek-clause-answered : goal.returns-in-Peek-clause-answered
returns-in-Peek-clause-answered g c =
    let app = c.as_str-in-Peek.result.now in
    let id = c.as_str-in-Peek-2.result.now in
    asks_node g.D.Disk (memory.Made c.args.node.now) (memory.Made c.peek.new.node) (g.F.Files.gives c.args.files.now) (command_of c.args.command.now) (peek app id) c.peek.result
    (ap command_of c.in-Peek.is ∙ (λ i. peek (sym c.as_str-in-Peek.ensures.value i) (sym c.as_str-in-Peek-2.ensures.value i))) (peek_line app id) (λ p. refl) c.peek.ensures.reported

pub returns-in-Call-clause-answered : goal.returns-in-Call-clause-answered
returns-in-Call-clause-answered g c =
    let app = c.as_str-in-Call.result.now in
    let id = c.as_str-in-Call-2.result.now in
    answers_acts g.D.Disk (memory.Made c.args.node.now) (memory.Made c.call.new.node) (g.F.Files.gives c.args.files.now) (command_of c.args.command.now) (call app id c.in-Call.input) c.call.result
    (ap command_of c.in-Call.is ∙ (λ i. call (sym c.as_str-in-Call.ensures.value i) (sym c.as_str-in-Call-2.ensures.value i) c.in-Call.input)) (calls (once app id c.in-Call.input)) (λ p. refl) c.call.ensures.called

pub returns-in-Flood-clause-answered : goal.returns-in-Flood-clause-answered
returns-in-Flood-clause-answered g c =
    let app = c.as_str-in-Flood.result.now in
    let id = c.as_str-in-Flood-2.result.now in
    let input = c.in-Flood.input in
    let times = c.in-Flood.times in
    answers_acts g.D.Disk (memory.Made c.args.node.now) (memory.Made c.flood.new.node) (g.F.Files.gives c.args.files.now) (command_of c.args.command.now) (flood app id input times) c.flood.result
    (ap command_of c.in-Flood.is ∙ (λ i. flood (sym c.as_str-in-Flood.ensures.value i) (sym c.as_str-in-Flood-2.ensures.value i) input times)) (calls (often app id input times)) (λ p. refl) c.flood.ensures.flooded
