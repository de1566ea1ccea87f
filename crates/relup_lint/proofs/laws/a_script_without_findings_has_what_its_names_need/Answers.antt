use Rattle.relup_lint.proofs.NeedLemmas.{needs_nothing}
use Rattle.relup_lint.proofs.laws.a_script_without_findings_has_what_its_names_need.Goals as goal

pub returns : goal.returns
returns c = needs_nothing
