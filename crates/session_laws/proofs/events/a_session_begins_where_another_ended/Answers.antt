use Rattle.session_laws.proofs.AcknowledgedEvents.{begins_where_one_ended, begins_behind_a_crash, loses_nothing_ever}
use Rattle.rel_session.proofs.DeviceLemmas.{IsDevice}
use Rattle.session_laws.proofs.events.a_session_begins_where_another_ended.Goals as goal

pub returns-clause-ended : goal.returns-clause-ended
returns-clause-ended g c =
    let laws : IsDevice g.D.Disk = record { reads_an_image = g.met.D.Disk.reads_an_image; counts_now = g.met.D.Disk.counts_now; only_now = g.met.D.Disk.only_now } in
    begins_where_one_ended g.D.Disk laws

pub returns-clause-crashed : goal.returns-clause-crashed
returns-clause-crashed g c =
    let laws : IsDevice g.D.Disk = record { reads_an_image = g.met.D.Disk.reads_an_image; counts_now = g.met.D.Disk.counts_now; only_now = g.met.D.Disk.only_now } in
    begins_behind_a_crash g.D.Disk laws

pub returns-clause-ever : goal.returns-clause-ever
returns-clause-ever g c =
    let laws : IsDevice g.D.Disk = record { reads_an_image = g.met.D.Disk.reads_an_image; counts_now = g.met.D.Disk.counts_now; only_now = g.met.D.Disk.only_now } in
    λ files. loses_nothing_ever g.D.Disk laws (g.F.Files.gives files)
