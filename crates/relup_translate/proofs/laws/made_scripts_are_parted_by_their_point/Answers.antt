use Rattle.relup_translate.proofs.ScriptLemmas.{scripts_are_parted}
use Rattle.relup_translate.proofs.laws.made_scripts_are_parted_by_their_point.Goals as goal

pub returns : goal.returns
returns c = scripts_are_parted
