use Rattle.rel_records.proofs.StartableLemmas.{make_startable}
use Rattle.rel_records.proofs.laws.records_make_startable_releases.Goals as goal

pub returns : goal.returns
returns c = make_startable
