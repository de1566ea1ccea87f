use Rattle.relup_by_patterns.proofs.AskedLemmas.{in_releases}
use Rattle.relup_by_patterns.proofs.laws.each_version_of_an_application_is_asked.Goals as goal

pub returns : goal.returns
returns c = in_releases
