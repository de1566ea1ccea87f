use Rattle.relup_row.proofs.OnceLemmas.{fetches_once}
use Rattle.relup_row.proofs.laws.no_module_is_fetched_twice.Goals as goal

pub returns : goal.returns
returns c = fetches_once
