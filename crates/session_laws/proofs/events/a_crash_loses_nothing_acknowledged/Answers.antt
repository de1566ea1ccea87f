use Rattle.session_laws.proofs.AcknowledgedEvents.{of_accepted, loses_nothing}
use Rattle.rel_session.proofs.DeviceLemmas.{IsDevice}
use Rattle.session_laws.proofs.Transitions.{each_keeps}
use Rattle.session_laws.proofs.events.a_crash_loses_nothing_acknowledged.Goals as goal

pub returns-clause-replies : goal.returns-clause-replies
returns-clause-replies g c = λ files. each_keeps (g.F.Files.gives files)

pub returns-clause-accepted : goal.returns-clause-accepted
returns-clause-accepted g c = of_accepted

pub returns-clause-moments : goal.returns-clause-moments
returns-clause-moments g c =
    let laws : IsDevice g.D.Disk = record { reads_an_image = g.met.D.Disk.reads_an_image; counts_now = g.met.D.Disk.counts_now; only_now = g.met.D.Disk.only_now } in
    λ files. loses_nothing g.D.Disk laws (g.F.Files.gives files)
