use Rattle.std.proofs.Common.{◌≡◌, true, false, rules, sym, subst, ◌∙◌, Err, IsOk, OnOk}
use Rattle.node_store.specs.State.{is_dead}
use Rattle.rel_session.specs.InMemory.{ActsOrLacks, AnswersAction, IsSoundPlace, ReportsInstallation}
use Rattle.rel_session.specs.declared.unanswered.Unanswered.TheVariants as unanswered
use Rattle.rel_session.specs.Transition.Action.{installs}
use Rattle.rel_session.specs.declared.place.Place.TheVariants as memory
use Rattle.node_command.specs.declared.error.HandlerError.TheVariants as handler_error
use Rattle.rel_session.proofs.DeviceLemmas.{IsDevice}
use Rattle.rel_session.proofs.InstallReplies.{answers_install, answers_restart, answers_unreported, on_done, on_undone}
use Rattle.rel_session.proofs.Replies.{changes_dead, changes_nowhere, from_there, idle_acts, idle_installs}
use Rattle.rel_session.proofs.place.Place.install.Goals as goal
use Rattle.rel_session.proofs.place.Place.install.Goals.{then-is_ok, else-is_ok}

pub returns-in-Idle-clause-installed : goal.returns-in-Idle-clause-installed
returns-in-Idle-clause-installed g c =
    let laws : IsDevice g.D.Disk = record { reads_an_image = g.met.D.Disk.reads_an_image; counts_now = g.met.D.Disk.counts_now; only_now = g.met.D.Disk.only_now } in
    let there = memory.Idle c.in-Idle.disk in
    let Does = ActsOrLacks (installs c.args.vsn.now) in
    from_there g.D.Disk laws Does (Err (unanswered.Refused handler_error.Dead)) c.args.self there there c.in-Idle.is
    (changes_nowhere g.D.Disk laws Does (λ p idle. idle_acts g.D.Disk laws (installs c.args.vsn.now) p idle (idle_installs g.D.Disk laws c.args.vsn.now p idle)) c.in-Idle.disk)

pub returns-then-is_dead-clause-installed : goal.returns-then-is_dead-clause-installed
returns-then-is_dead-clause-installed g c =
    let laws : IsDevice g.D.Disk = record { reads_an_image = g.met.D.Disk.reads_an_image; counts_now = g.met.D.Disk.counts_now; only_now = g.met.D.Disk.only_now } in
    let there = memory.Made c.in-Made.node in
    let Does = ActsOrLacks (installs c.args.vsn.now) in
    from_there g.D.Disk laws Does (Err (unanswered.Refused handler_error.Dead)) c.args.self there there c.in-Made.is
    (changes_dead g.D.Disk laws Does (λ p idle. idle_acts g.D.Disk laws (installs c.args.vsn.now) p idle (idle_installs g.D.Disk laws c.args.vsn.now p idle)) c.in-Made.node (search rules))

-- the node works on
pub returns-then-not-restarts-clause-installed : goal.returns-then-not-restarts-clause-installed
returns-then-not-restarts-clause-installed g c =
    let laws : IsDevice g.D.Disk = record { reads_an_image = g.met.D.Disk.reads_an_image; counts_now = g.met.D.Disk.counts_now; only_now = g.met.D.Disk.only_now } in
    let vsn = c.args.vsn.now in
    let n = c.in-Made.node in
    let new = c.install_release-done.new.node in
    let done = c.install_release-done.result in
    let works : OnOk done (is_dead new.handler ≡ false) = elim c.if-is_ok.branch [
      | then-is_ok w ↦ on_done done (is_dead new.handler ≡ false) (sym w.is_dead-restarts.ensures ∙ sym w.restarts-is ∙ c.if-not-restarts.true)
      | else-is_ok w ↦ on_undone done (is_dead new.handler ≡ false) (sym c.is_ok.ensures.value ∙ w.if-is_ok.false)
    ] in
    let sound = subst (IsSoundPlace g.D.Disk.seen g.D.Disk.may_leave) c.in-Made.is c.requires in
    from_there g.D.Disk laws (ActsOrLacks (installs vsn)) c.installation_answer-answer.result c.args.self (memory.Made n) (memory.Made new) c.in-Made.is
    (answers_install g.D.Disk laws vsn n new (search rules) sound.1 c.install_release-done.ensures.commits done c.installation_answer-answer.result c.installation_answer-answer.ensures works
    c.install_release-done.ensures.installed c.install_release-done.ensures.refused)

-- the node was booted
pub returns-in-Ok-clause-installed : goal.returns-in-Ok-clause-installed
returns-in-Ok-clause-installed g c =
    let laws : IsDevice g.D.Disk = record { reads_an_image = g.met.D.Disk.reads_an_image; counts_now = g.met.D.Disk.counts_now; only_now = g.met.D.Disk.only_now } in
    let vsn = c.args.vsn.now in
    let n = c.in-Made.node in
    let new = c.install_release-done.new.node in
    let done = c.install_release-done.result in
    let final = c.boot-place.result.0 in
    let both : IsOk done × (is_dead new.handler ≡ true) = elim c.if-is_ok.branch [
      | then-is_ok w ↦ (sym c.is_ok.ensures.value ∙ w.if-is_ok.true, sym w.is_dead-restarts.ensures ∙ sym w.restarts-is ∙ c.if-not-restarts.false)
      | else-is_ok w ↦ let lost : true ≡ false = sym c.if-not-restarts.false ∙ w.restarts-is ∙ w.if-is_ok.false in absurd cc
    ] in
    let sound = subst (IsSoundPlace g.D.Disk.seen g.D.Disk.may_leave) c.in-Made.is c.requires in
    let whole = answers_restart g.D.Disk laws vsn n new (search rules) sound.1 c.install_release-done.ensures.commits done c.in-Ok.line (subst (ReportsInstallation done) c.in-Ok.is c.installation_answer-answer.ensures) both.0 both.1
    c.install_release-done.ensures.installed final c.boot-place.result.1 c.answer_of.result c.answer_of.ensures.same c.boot-place.ensures.booted in
    subst (λ q. AnswersAction g.D.Disk (installs vsn) c.answer_of.result q final) (sym c.in-Made.is) whole

-- memory was refused to what is reported
pub returns-in-Err-clause-installed : goal.returns-in-Err-clause-installed
returns-in-Err-clause-installed g c =
    let laws : IsDevice g.D.Disk = record { reads_an_image = g.met.D.Disk.reads_an_image; counts_now = g.met.D.Disk.counts_now; only_now = g.met.D.Disk.only_now } in
    let vsn = c.args.vsn.now in
    let n = c.in-Made.node in
    let new = c.install_release-done.new.node in
    let done = c.install_release-done.result in
    let final = c.boot-place-in-Err.result.0 in
    let both : IsOk done × (is_dead new.handler ≡ true) = elim c.if-is_ok.branch [
      | then-is_ok w ↦ (sym c.is_ok.ensures.value ∙ w.if-is_ok.true, sym w.is_dead-restarts.ensures ∙ sym w.restarts-is ∙ c.if-not-restarts.false)
      | else-is_ok w ↦ let lost : true ≡ false = sym c.if-not-restarts.false ∙ w.restarts-is ∙ w.if-is_ok.false in absurd cc
    ] in
    let sound = subst (IsSoundPlace g.D.Disk.seen g.D.Disk.may_leave) c.in-Made.is c.requires in
    let whole = answers_unreported g.D.Disk laws vsn n new (search rules) sound.1 c.install_release-done.ensures.commits done c.in-Err.why (subst (ReportsInstallation done) c.in-Err.is c.installation_answer-answer.ensures) both.0 both.1
    c.install_release-done.ensures.installed final _ c.boot-place-in-Err.result.1 c.boot-place-in-Err.ensures.booted in
    subst (λ q. AnswersAction g.D.Disk (installs vsn) (Err c.in-Err.why) q final) (sym c.in-Made.is) whole
