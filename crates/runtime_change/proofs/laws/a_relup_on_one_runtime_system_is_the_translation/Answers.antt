use Rattle.runtime_change.proofs.LawLemmas.{stays_the_translation}
use Rattle.runtime_change.proofs.laws.a_relup_on_one_runtime_system_is_the_translation.Goals as goal

pub returns : goal.returns
returns c = stays_the_translation
