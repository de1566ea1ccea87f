use Rattle.relup_translate.proofs.OutcomeLemmas.{has_each_entry}
use Rattle.relup_translate.proofs.laws.a_made_relup_has_an_entry_for_each_release.Goals as goal

pub returns : goal.returns
returns c = has_each_entry
