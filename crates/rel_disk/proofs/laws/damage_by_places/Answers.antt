use Rattle.rel_disk.proofs.PlaceLemmas.{torn_keeps, keeps_torn, cut_keeps, keeps_cut}
use Rattle.rel_disk.proofs.laws.damage_by_places.Goals as goal

pub returns-clause-write : goal.returns-clause-write
returns-clause-write c at n old new = (torn_keeps at n old new, keeps_torn at n old new)

pub returns-clause-cut : goal.returns-clause-cut
returns-clause-cut c n old new = (cut_keeps n old new, keeps_cut n old new)
