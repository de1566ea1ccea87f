use Rattle.std.proofs.Common.{inl, refl, sym, ap, ◌∙◌, map, subst, string_bytes, codes, rules}
use Rattle.session_input.specs.Commands.{command_of}
use Rattle.session_input.specs.Commands.Command.{create, install, reboot_old, boot, releases, relup, bad}
use Rattle.rel_session.specs.InMemory.{AnswersAfter}
use Rattle.rel_session.specs.Transition.{Boots, Transition, releases_answer}
use Rattle.rel_session.specs.Transition.Action.{answers, installs, reboots_node, boots_node}
use Rattle.rel_session.proofs.DeviceLemmas.{IsDevice}
use Rattle.rel_session.proofs.Replies.{answers_line, changes_no_memory}
use Rattle.rel_session.proofs.ReplyTexts.{answers_action, answers_acts, answers_command, answers_still}
use Rattle.rel_session.proofs.place.Place.answer.Goals as goal

pub returns-in-Create-clause-answered : goal.returns-in-Create-clause-answered
returns-in-Create-clause-answered g c =
    answers_command g.D.Disk c.args.self c.create.result.0 (g.F.Files.gives c.args.files.now) (command_of c.args.command.now) (create c.as_str.result.now) c.create.result.1
    (ap command_of c.in-Create.is ∙ ap (λ s. create s) (sym c.as_str.ensures.value)) c.create.ensures.created

pub returns-in-Install-clause-answered : goal.returns-in-Install-clause-answered
returns-in-Install-clause-answered g c =
    let vsn = c.as_str-in-Install.result.now in
    answers_action g.D.Disk c.args.self c.install.result.0 (g.F.Files.gives c.args.files.now) (command_of c.args.command.now) (install vsn) c.install.result.1
    (ap command_of c.in-Install.is ∙ ap (λ s. install s) (sym c.as_str-in-Install.ensures.value)) (installs vsn) (λ p. refl) (λ events extent ps. refl) c.install.ensures.installed

pub returns-in-RebootOld-clause-answered : goal.returns-in-RebootOld-clause-answered
returns-in-RebootOld-clause-answered g c =
    let vsn = c.as_str-in-RebootOld.result.now in
    answers_action g.D.Disk c.args.self c.reboot_old.result.0 (g.F.Files.gives c.args.files.now) (command_of c.args.command.now) (reboot_old vsn) c.reboot_old.result.1
    (ap command_of c.in-RebootOld.is ∙ ap (λ s. reboot_old s) (sym c.as_str-in-RebootOld.ensures.value)) (reboots_node vsn) (λ p. refl) (λ events extent ps. refl) c.reboot_old.ensures.rebooted

pub returns-in-Ok-clause-answered : goal.returns-in-Ok-clause-answered
returns-in-Ok-clause-answered g c =
    let laws : IsDevice g.D.Disk = record { reads_an_image = g.met.D.Disk.reads_an_image; counts_now = g.met.D.Disk.counts_now; only_now = g.met.D.Disk.only_now } in
    answers_acts g.D.Disk c.args.self c.boot-place.result.0 (g.F.Files.gives c.args.files.now) (command_of c.args.command.now) boot c.answer_of.result
    (ap command_of c.in-Boot.is) boots_node (λ p. refl)
    (answers_line g.D.Disk laws Boots c.boot-place.result.1 c.answer_of.result c.args.self c.boot-place.result.0 c.answer_of.ensures.same
    (subst (λ text. AnswersAfter g.D.Disk text Boots c.boot-place.result.1 c.args.self c.boot-place.result.0) c.in-Ok.ensures.blank c.boot-place.ensures.booted))

-- memory was refused to the line
pub returns-in-Err-clause-answered : goal.returns-in-Err-clause-answered
returns-in-Err-clause-answered g c =
    let laws : IsDevice g.D.Disk = record { reads_an_image = g.met.D.Disk.reads_an_image; counts_now = g.met.D.Disk.counts_now; only_now = g.met.D.Disk.only_now } in
    changes_no_memory g.D.Disk laws (λ p a. Transition (g.F.Files.gives c.args.files.now) p (command_of c.args.command.now) a) c.args.self

pub returns-in-Releases-clause-answered : goal.returns-in-Releases-clause-answered
returns-in-Releases-clause-answered g c =
    let laws : IsDevice g.D.Disk = record { reads_an_image = g.met.D.Disk.reads_an_image; counts_now = g.met.D.Disk.counts_now; only_now = g.met.D.Disk.only_now } in
    let source = g.F.Files.gives c.args.files.now in
    answers_command g.D.Disk c.args.self c.args.self source (command_of c.args.command.now) releases c.answer_of-in-Releases.result (ap command_of c.in-Releases.is)
    (answers_still g.D.Disk laws c.args.self releases_answer (λ p a. Transition source p releases a) (λ p. (answers (releases_answer p), inl refl, refl)) c.releases-lines.result c.answer_of-in-Releases.result
    c.answer_of-in-Releases.ensures.same c.releases-lines.ensures)

pub returns-in-Relup-clause-answered : goal.returns-in-Relup-clause-answered
returns-in-Relup-clause-answered g c =
    let laws : IsDevice g.D.Disk = record { reads_an_image = g.met.D.Disk.reads_an_image; counts_now = g.met.D.Disk.counts_now; only_now = g.met.D.Disk.only_now } in
    let new = c.as_str-in-Relup.result.now in
    let ups = c.in-Relup.ups.items in
    let downs = c.in-Relup.downs.items in
    answers_command g.D.Disk c.args.self c.relup.result.0 (g.F.Files.gives c.args.files.now) (command_of c.args.command.now) (relup new (map string_bytes c.deref.result.now) (map string_bytes c.deref-in-Relup.result.now)) c.relup.result.1
    (ap command_of c.in-Relup.is
    ∙ ap (λ name. relup name (map string_bytes ups) (map string_bytes downs)) (sym c.as_str-in-Relup.ensures.value)
    ∙ ap (λ paths. relup new (map string_bytes paths) (map string_bytes downs)) (sym c.deref.ensures.value)
    ∙ ap (λ paths. relup new (map string_bytes c.deref.result.now) (map string_bytes paths)) (sym c.deref-in-Relup.ensures.value)) c.relup.ensures.made

pub returns-in-Bad-clause-answered : goal.returns-in-Bad-clause-answered
returns-in-Bad-clause-answered g c =
    let laws : IsDevice g.D.Disk = record { reads_an_image = g.met.D.Disk.reads_an_image; counts_now = g.met.D.Disk.counts_now; only_now = g.met.D.Disk.only_now } in
    let source = g.F.Files.gives c.args.files.now in
    let line = codes "error session 1 BadCommand\n" in
    answers_command g.D.Disk c.args.self c.args.self source (command_of c.args.command.now) bad c.answer_of-in-Bad.result (ap command_of c.in-Bad.is)
    (answers_still g.D.Disk laws c.args.self (λ p. line) (λ p a. Transition source p bad a) (λ p. (answers line, inl refl, refl)) c.from_str.result c.answer_of-in-Bad.result
    c.answer_of-in-Bad.ensures.same (search rules))
