use Rattle.session_laws.proofs.KeptEvents.{keep_events_over, sessions_keep_events_once_made}
use Rattle.rel_session.proofs.DeviceLemmas.{IsDevice}
use Rattle.session_laws.specs.KeptEvents.{KeepEventsOver}
use Rattle.session_laws.proofs.sessions.no_number_of_sessions_loses_an_event.Goals as goal

pub returns-clause-stored : goal.returns-clause-stored
returns-clause-stored g c =
    let laws : IsDevice g.D.Disk = record { reads_an_image = g.met.D.Disk.reads_an_image; counts_now = g.met.D.Disk.counts_now; only_now = g.met.D.Disk.only_now } in
    keep_events_over g.D.Disk laws (λ files. g.F.Files.gives files)

pub returns-clause-made : goal.returns-clause-made
returns-clause-made g c =
    let laws : IsDevice g.D.Disk = record { reads_an_image = g.met.D.Disk.reads_an_image; counts_now = g.met.D.Disk.counts_now; only_now = g.met.D.Disk.only_now } in
    λ n files. sessions_keep_events_once_made g.D.Disk laws (KeepEventsOver g.D.Disk (λ file. g.F.Files.gives file) n) (λ s disk begins. keep_events_over g.D.Disk laws (λ file. g.F.Files.gives file) n s disk begins) (g.F.Files.gives files)
