use Rattle.session_laws.proofs.Failures.{fails_only_with_the_device}
use Rattle.session_laws.proofs.events.no_failure_leaves_no_doubt.Goals as goal

pub returns : goal.returns
returns g c = λ files. fails_only_with_the_device g.D.Disk (g.F.Files.gives files)
