use Rattle.relup_row.proofs.OnceLemmas.{fetches_mentioned}
use Rattle.relup_row.proofs.laws.mentioned_modules_are_fetched.Goals as goal

pub returns : goal.returns
returns c = fetches_mentioned
