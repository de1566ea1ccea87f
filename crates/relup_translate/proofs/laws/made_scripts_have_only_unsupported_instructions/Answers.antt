use Rattle.relup_translate.proofs.ScriptLemmas.{stands_right}
use Rattle.relup_translate.proofs.laws.made_scripts_have_only_unsupported_instructions.Goals as goal

pub returns : goal.returns
returns c = stands_right
