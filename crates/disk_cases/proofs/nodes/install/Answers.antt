use Rattle.std.proofs.Common.{sym, subst}
use Rattle.held_processes.specs.Following.{HoldsNothing}
use Rattle.held_processes.proofs.NothingHeldLemmas.{first_nothing}
use Rattle.disk_cases.proofs.nodes.install.Goals as goal

pub install_release-requires-clause-free : goal.install_release-requires-clause-free
install_release-requires-clause-free g c = subst HoldsNothing (sym c.in-Ok.ensures.1) first_nothing
