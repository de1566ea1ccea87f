use Rattle.session_laws.proofs.EmptyDisk.{begins_with_a_making}
use Rattle.rel_session.proofs.DeviceLemmas.{IsDevice}
use Rattle.session_laws.proofs.events.an_empty_disk_begins_with_a_making.Goals as goal

pub returns : goal.returns
returns g c =
    let laws : IsDevice g.D.Disk = record { reads_an_image = g.met.D.Disk.reads_an_image; counts_now = g.met.D.Disk.counts_now; only_now = g.met.D.Disk.only_now } in
    λ files. begins_with_a_making g.D.Disk laws (g.F.Files.gives files)
