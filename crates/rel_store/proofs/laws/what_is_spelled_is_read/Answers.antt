use Rattle.rel_store.proofs.Spelled.{spelled_is_read}
use Rattle.rel_store.proofs.laws.what_is_spelled_is_read.Goals as goal

pub returns : goal.returns
returns c = spelled_is_read
