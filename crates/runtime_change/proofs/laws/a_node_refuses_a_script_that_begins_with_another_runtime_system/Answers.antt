use Rattle.runtime_change.proofs.LawLemmas.{is_refused_by_nodes}
use Rattle.runtime_change.proofs.laws.a_node_refuses_a_script_that_begins_with_another_runtime_system.Goals as goal

pub returns : goal.returns
returns c = is_refused_by_nodes
