use Rattle.relup_by_patterns.proofs.NameLemmas.{stays_well_formed}
use Rattle.relup_by_patterns.proofs.laws.a_plain_release_stays_well_formed.Goals as goal

pub returns : goal.returns
returns c = stays_well_formed
