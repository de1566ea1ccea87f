use Rattle.relup_translate.proofs.LoadLemmas.{fetches_loads}
use Rattle.relup_translate.proofs.laws.made_scripts_fetch_what_they_load.Goals as goal

pub returns : goal.returns
returns c = fetches_loads
