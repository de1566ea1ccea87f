use Rattle.std.proofs.Common.{◌≡◌, sym, subst}
use Rattle.held_processes.specs.Following.{HoldsNothing}
use Rattle.held_processes.proofs.NothingHeldLemmas.{starts_hold_nothing}
use Rattle.script_cases.proofs.starts.start_app_at.Goals as goal

pub returns-clause-nothing : goal.returns-clause-nothing
returns-clause-nothing g c =
    subst HoldsNothing (sym c.into_seat.ensures.view)
    (starts_hold_nothing.0 _ _ _ _ _ _ _ _ (subst HoldsNothing (sym c.new-access.ensures) c.requires.nothing) c.start_app.ensures.started)
