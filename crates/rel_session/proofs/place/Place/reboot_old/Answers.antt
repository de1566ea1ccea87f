use Rattle.std.proofs.Common.{inl, inr, rules, refl, sym, subst, Err}
use Rattle.rel_session.specs.InMemory.{ActsOrLacks, AnswersAction, AnswersAfter}
use Rattle.rel_session.specs.Transition.{Boots}
use Rattle.rel_session.specs.declared.unanswered.Unanswered.TheVariants as unanswered
use Rattle.rel_session.specs.Transition.Action.{reboots_node}
use Rattle.rel_session.specs.declared.place.Place.TheVariants as memory
use Rattle.node_command.specs.declared.error.HandlerError.TheVariants as handler_error
use Rattle.node_command.specs.Taking.{change_size}
use Rattle.rel_list.specs.Event.Event.{reboot_old as rebooting}
use Rattle.rel_session.proofs.CommitReplies.{commits_none}
use Rattle.rel_session.proofs.DeviceLemmas.{IsDevice}
use Rattle.rel_session.proofs.RebootReplies.{IsRebooted, reboots}
use Rattle.rel_session.proofs.Replies.{changes_dead, changes_no_memory, changes_nowhere, from_there, idle_acts, idle_reboots}
use Rattle.rel_session.proofs.place.Place.reboot_old.Goals as goal

pub returns-in-Idle-clause-rebooted : goal.returns-in-Idle-clause-rebooted
returns-in-Idle-clause-rebooted g c =
    let laws : IsDevice g.D.Disk = record { reads_an_image = g.met.D.Disk.reads_an_image; counts_now = g.met.D.Disk.counts_now; only_now = g.met.D.Disk.only_now } in
    let there = memory.Idle c.in-Idle.disk in
    let Does = ActsOrLacks (reboots_node c.args.vsn.now) in
    from_there g.D.Disk laws Does (Err (unanswered.Refused handler_error.Dead)) c.args.self there there c.in-Idle.is
    (changes_nowhere g.D.Disk laws Does (λ p idle. idle_acts g.D.Disk laws (reboots_node c.args.vsn.now) p idle (idle_reboots g.D.Disk laws c.args.vsn.now p idle)) c.in-Idle.disk)

pub returns-then-is_dead-clause-rebooted : goal.returns-then-is_dead-clause-rebooted
returns-then-is_dead-clause-rebooted g c =
    let laws : IsDevice g.D.Disk = record { reads_an_image = g.met.D.Disk.reads_an_image; counts_now = g.met.D.Disk.counts_now; only_now = g.met.D.Disk.only_now } in
    let there = memory.Made c.in-Made.node in
    let Does = ActsOrLacks (reboots_node c.args.vsn.now) in
    from_there g.D.Disk laws Does (Err (unanswered.Refused handler_error.Dead)) c.args.self there there c.in-Made.is
    (changes_dead g.D.Disk laws Does (λ p idle. idle_acts g.D.Disk laws (reboots_node c.args.vsn.now) p idle (idle_reboots g.D.Disk laws c.args.vsn.now p idle)) c.in-Made.node (search rules))

-- The reboot was not committed.
pub returns-in-Err-reboot_old_release-clause-rebooted : goal.returns-in-Err-reboot_old_release-clause-rebooted
returns-in-Err-reboot_old_release-clause-rebooted g c =
    let laws : IsDevice g.D.Disk = record { reads_an_image = g.met.D.Disk.reads_an_image; counts_now = g.met.D.Disk.counts_now; only_now = g.met.D.Disk.only_now } in
    let vsn = c.args.vsn.now in
    let n = c.in-Made.node in
    let new = record c.in-Made.node { handler = c.reboot_old_release.new.self } in
    let Does = ActsOrLacks (reboots_node vsn) in
    from_there g.D.Disk laws Does (Err (unanswered.Refused c.in-Err-reboot_old_release.why)) c.args.self (memory.Made n) (memory.Made new) c.in-Made.is
    (commits_none g.D.Disk laws Does n (search rules) (rebooting vsn) (change_size (rebooting vsn)) (IsRebooted vsn) (λ events extent ps a after is. inl is) new refl c.in-Err-reboot_old_release.ensures.commits (λ events extent ps. inr refl) c.in-Err-reboot_old_release.why c.in-Err-reboot_old_release.ensures.refused)

-- The reboot was committed, and the node was booted.
pub returns-in-Ok-reboot_old_release-clause-rebooted : goal.returns-in-Ok-reboot_old_release-clause-rebooted
returns-in-Ok-reboot_old_release-clause-rebooted g c =
    let laws : IsDevice g.D.Disk = record { reads_an_image = g.met.D.Disk.reads_an_image; counts_now = g.met.D.Disk.counts_now; only_now = g.met.D.Disk.only_now } in
    let vsn = c.args.vsn.now in
    let n = c.in-Made.node in
    let new = record c.in-Made.node { handler = c.reboot_old_release.new.self } in
    let final = c.boot-place.result.0 in
    let whole = reboots g.D.Disk laws vsn n new refl (search rules) c.in-Ok-reboot_old_release.ensures.commits c.in-Ok-reboot_old_release.ensures.done c.in-Ok-reboot_old_release.ensures.dead c.in-Ok-reboot_old_release.ensures.started final
    c.boot-place.result.1 c.answer_of.result c.answer_of.ensures.same (subst (λ text. AnswersAfter g.D.Disk text Boots c.boot-place.result.1 (memory.Made new) final) c.in-Ok.ensures.blank c.boot-place.ensures.booted) in
    subst (λ q. AnswersAction g.D.Disk (reboots_node vsn) c.answer_of.result q final) (sym c.in-Made.is) whole

-- memory was refused to the line
pub returns-in-Err-clause-rebooted : goal.returns-in-Err-clause-rebooted
returns-in-Err-clause-rebooted g c =
    let laws : IsDevice g.D.Disk = record { reads_an_image = g.met.D.Disk.reads_an_image; counts_now = g.met.D.Disk.counts_now; only_now = g.met.D.Disk.only_now } in
    let Does = ActsOrLacks (reboots_node c.args.vsn.now) in
    let there = memory.Made c.in-Made.node in
    from_there g.D.Disk laws Does (Err unanswered.NoMemory) c.args.self there there c.in-Made.is (changes_no_memory g.D.Disk laws Does there)
