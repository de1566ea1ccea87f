use Rattle.rel_handler.proofs.NewNodes.{has_a_store}
use Rattle.rel_handler.proofs.laws.a_disk_with_a_list_holds_a_store.Goals as goal

pub returns : goal.returns
returns c = has_a_store
