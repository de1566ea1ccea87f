use Rattle.session_laws.proofs.Failures.{reports_doubt}
use Rattle.session_laws.proofs.events.a_doubt_is_reported_as_a_failure.Goals as goal

pub returns : goal.returns
returns g c = λ files. reports_doubt (g.F.Files.gives files)
