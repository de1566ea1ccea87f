use Rattle.relup_block.proofs.DependencyLemmas.{makes_orders}
use Rattle.relup_block.proofs.laws.an_order_follows_dependencies_without_a_cycle.Goals as goal

pub returns : goal.returns
returns c = makes_orders
