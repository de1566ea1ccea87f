use Rattle.std.proofs.Common.{◌∙◌}
use Rattle.rel_disk.proofs.laws.damage_adds_up.Goals as goal

pub returns-clause-write : goal.returns-clause-write
returns-clause-write g c first calls at bytes old new within follows image left = let from = follows image left in (from.0, within from.0 from.1, from.2)

pub returns-clause-cut : goal.returns-clause-cut
returns-clause-cut g c first calls len old new within follows image left = let from = follows image left in (from.0, within from.0 from.1, from.2)

pub returns-clause-sync : goal.returns-clause-sync
returns-clause-sync g c first calls old new is only image left = only image left ∙ is
