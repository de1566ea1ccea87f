use Rattle.relup_translate.proofs.ItselfLemmas.{stays_itself}
use Rattle.relup_translate.proofs.laws.a_release_stays_itself.Goals as goal

pub returns : goal.returns
returns c = stays_itself
