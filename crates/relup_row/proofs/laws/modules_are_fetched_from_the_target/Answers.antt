use Rattle.relup_row.proofs.TargetLemmas.{fetches_from_target}
use Rattle.relup_row.proofs.laws.modules_are_fetched_from_the_target.Goals as goal

pub returns : goal.returns
returns c = fetches_from_target
