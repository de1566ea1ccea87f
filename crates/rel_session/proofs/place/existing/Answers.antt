use Rattle.std.proofs.Common.{inr, refl}
use Rattle.rel_unpack.specs.Unpacking.{brought_of}
use Rattle.rel_session.proofs.place.existing.Goals as goal

pub returns-in-Ok : goal.returns-in-Ok
returns-in-Ok g c = inr (refl, (brought_of c.in-Ok._brought, c.in-Ok.ensures.brought))
