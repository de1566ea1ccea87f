use Rattle.session_laws.proofs.LinePaths.{reads_line_paths, keeps_versions, replies_keep_versions}
use Rattle.session_laws.proofs.OneRun.{reports_one_run}
use Rattle.rel_session.proofs.DeviceLemmas.{IsDevice}
use Rattle.session_laws.proofs.answers.a_text_determines_one_run.Goals as goal

pub returns-clause-one : goal.returns-clause-one
returns-clause-one g c = λ files. reports_one_run (g.F.Files.gives files)

pub returns-clause-paths : goal.returns-clause-paths
returns-clause-paths g c = reads_line_paths

pub returns-clause-versions : goal.returns-clause-versions
returns-clause-versions g c =
    let laws : IsDevice g.D.Disk = record { reads_an_image = g.met.D.Disk.reads_an_image; counts_now = g.met.D.Disk.counts_now; only_now = g.met.D.Disk.only_now } in
    keeps_versions g.D.Disk laws

pub returns-clause-replies : goal.returns-clause-replies
returns-clause-replies g c = λ files. replies_keep_versions g.D.Disk (g.F.Files.gives files)
