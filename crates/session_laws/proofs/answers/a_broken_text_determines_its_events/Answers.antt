use Rattle.rel_session.proofs.DeviceLemmas.{IsDevice}
use Rattle.session_laws.proofs.BrokenTexts.{each_text_shows, shows_one_run}
use Rattle.session_laws.proofs.KeptEvents.{text_tells_events}
use Rattle.session_laws.proofs.answers.a_broken_text_determines_its_events.Goals as goal

pub returns-clause-shown : goal.returns-clause-shown
returns-clause-shown g c = λ files. each_text_shows (g.F.Files.gives files)

pub returns-clause-one : goal.returns-clause-one
returns-clause-one g c = λ files. shows_one_run (g.F.Files.gives files)

pub returns-clause-events : goal.returns-clause-events
returns-clause-events g c =
    let laws : IsDevice g.D.Disk = record { reads_an_image = g.met.D.Disk.reads_an_image; counts_now = g.met.D.Disk.counts_now; only_now = g.met.D.Disk.only_now } in
    λ files. text_tells_events g.D.Disk laws (g.F.Files.gives files)
