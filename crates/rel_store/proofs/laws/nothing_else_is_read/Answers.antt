use Rattle.rel_store.proofs.Spelled.{read_is_spelled}
use Rattle.rel_store.proofs.laws.nothing_else_is_read.Goals as goal

pub returns : goal.returns
returns c = read_is_spelled
