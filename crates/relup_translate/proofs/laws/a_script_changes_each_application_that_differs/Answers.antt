use Rattle.relup_translate.proofs.ChangeLemmas.{scripts_change_all}
use Rattle.relup_translate.proofs.laws.a_script_changes_each_application_that_differs.Goals as goal

pub returns : goal.returns
returns c = scripts_change_all
