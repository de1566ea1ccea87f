use Rattle.std.proofs.Common.{string_bytes}
use Rattle.rel_session.proofs.DeviceLemmas.{IsDevice}
use Rattle.rel_session.proofs.Replies.{boots, boot_refused}
use Rattle.rel_session.proofs.place.Place.boot.Goals as goal

pub reported-requires-clause-sound : goal.reported-requires-clause-sound
reported-requires-clause-sound g c = c.in-Ok.ensures.booted.sound

pub reported-requires-clause-works : goal.reported-requires-clause-works
reported-requires-clause-works g c = c.in-Ok.ensures.booted.works

pub returns-in-Ok-clause-booted : goal.returns-in-Ok-clause-booted
returns-in-Ok-clause-booted g c =
    let laws : IsDevice g.D.Disk = record { reads_an_image = g.met.D.Disk.reads_an_image; counts_now = g.met.D.Disk.counts_now; only_now = g.met.D.Disk.only_now } in
    let b = c.in-Ok.ensures.booted in
    boots g.D.Disk laws c.args.self c.into_disk.result c.into_disk.ensures c.in-Ok.node.handler b.works b.image
    b.acknowledged (b.sound.started b.works) b.list c.in-Ok.ensures.any_moment c.in-Ok.ensures.stored c.in-Ok.ensures.counted
    (string_bytes c.args.text) c.reported.result.1 c.reported.result.0 c.reported.ensures.started

pub returns-in-Err-clause-booted : goal.returns-in-Err-clause-booted
returns-in-Err-clause-booted g c =
    let laws : IsDevice g.D.Disk = record { reads_an_image = g.met.D.Disk.reads_an_image; counts_now = g.met.D.Disk.counts_now; only_now = g.met.D.Disk.only_now } in
    boot_refused g.D.Disk laws c.args.self c.into_disk.result c.in-Err.disk c.into_disk.ensures c.in-Err.ensures.any_moment c.in-Err.ensures.stored c.in-Err.ensures.counted
    c.in-Err.error c.in-Err.ensures.refused c.in-Err.ensures.only c.in-Err.ensures.stopped (string_bytes c.args.text) c.append_boot_refusal.result c.append_boot_refusal.ensures
