use Rattle.session_laws.proofs.KeptEvents.{answers_keep_events, keeps_acknowledged, sessions_keep_events, sessions_keep_events_once_made}
use Rattle.rel_session.proofs.DeviceLemmas.{IsDevice}
use Rattle.session_laws.specs.KeptEvents.{SessionMayBegin}
use Rattle.session_laws.proofs.sessions.no_session_loses_an_event.Goals as goal

pub returns-clause-stored : goal.returns-clause-stored
returns-clause-stored g c =
    let laws : IsDevice g.D.Disk = record { reads_an_image = g.met.D.Disk.reads_an_image; counts_now = g.met.D.Disk.counts_now; only_now = g.met.D.Disk.only_now } in
    λ files. sessions_keep_events g.D.Disk laws (SessionMayBegin g.D.Disk) (λ s disk begins. begins) (g.F.Files.gives files)

pub returns-clause-made : goal.returns-clause-made
returns-clause-made g c =
    let laws : IsDevice g.D.Disk = record { reads_an_image = g.met.D.Disk.reads_an_image; counts_now = g.met.D.Disk.counts_now; only_now = g.met.D.Disk.only_now } in
    λ files. sessions_keep_events_once_made g.D.Disk laws (SessionMayBegin g.D.Disk) (λ s disk begins. begins) (g.F.Files.gives files)

pub returns-clause-kept : goal.returns-clause-kept
returns-clause-kept g c = keeps_acknowledged

pub returns-clause-answered : goal.returns-clause-answered
returns-clause-answered g c =
    let laws : IsDevice g.D.Disk = record { reads_an_image = g.met.D.Disk.reads_an_image; counts_now = g.met.D.Disk.counts_now; only_now = g.met.D.Disk.only_now } in
    λ files. answers_keep_events g.D.Disk laws (SessionMayBegin g.D.Disk) (λ s disk begins. begins) (g.F.Files.gives files)
