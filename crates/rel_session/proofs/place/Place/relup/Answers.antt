use Rattle.std.proofs.Common.{map, string_bytes}
use Rattle.rel_session.proofs.DeviceLemmas.{IsDevice}
use Rattle.rel_session.proofs.RelupReplies.{answers_relup}
use Rattle.rel_session.proofs.place.Place.relup.Goals as goal

pub returns-clause-made : goal.returns-clause-made
returns-clause-made g c =
    let laws : IsDevice g.D.Disk = record { reads_an_image = g.met.D.Disk.reads_an_image; counts_now = g.met.D.Disk.counts_now; only_now = g.met.D.Disk.only_now } in
    answers_relup g.D.Disk laws c.args.self (g.F.Files.gives c.args.files.now) c.args.new.now (map string_bytes c.args.ups.now) (map string_bytes c.args.downs.now)
    c.relup_answer-made.result c.relup_line.result c.relup_line.ensures c.relup_answer-made.ensures.answered
