use Rattle.std.proofs.Common.{◌≡◌, false, sym, subst, string_bytes}
use Rattle.node_store.specs.State.{IsSound, is_dead}
use Rattle.rel_session.specs.InMemory.{IsNodeStarted}
use Rattle.rel_session.proofs.DeviceLemmas.{IsDevice}
use Rattle.rel_session.proofs.Replies.{started_or_not}
use Rattle.rel_session.proofs.place.started.Goals as goal

pub reported-requires-clause-sound : goal.reported-requires-clause-sound
reported-requires-clause-sound g c = subst (IsSound g.D.Disk.seen g.D.Disk.may_leave) (sym c.in-Ok.ensures.handler) c.requires.sound

pub reported-requires-clause-works : goal.reported-requires-clause-works
reported-requires-clause-works g c = subst (λ h. is_dead h ≡ false) (sym c.in-Ok.ensures.handler) c.requires.works

pub returns-in-Ok-clause-started : goal.returns-in-Ok-clause-started
returns-in-Ok-clause-started g c =
    let laws : IsDevice g.D.Disk = record { reads_an_image = g.met.D.Disk.reads_an_image; counts_now = g.met.D.Disk.counts_now; only_now = g.met.D.Disk.only_now } in
    started_or_not g.D.Disk laws c.args.handler (string_bytes c.args.text) c.reported.result.1 c.reported.result.0
    (subst (λ h. IsNodeStarted h (string_bytes c.args.text) c.reported.result.1 c.reported.result.0) c.in-Ok.ensures.handler c.reported.ensures.started)

pub returns-in-Err-clause-started : goal.returns-in-Err-clause-started
returns-in-Err-clause-started g c = (c.in-Err.ensures.refused, c.append_boot_refusal.ensures)
