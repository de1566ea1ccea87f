use Rattle.std.proofs.Common.{◌≡◌, ◌++◌, drop, filter}
use Rattle.relup_block.specs.Order.{block_items_of}
use Rattle.relup_block.specs.Counts.{has_deps}
use Rattle.relup_block.proofs.order.naming.Given as goal

abbrev pub invariant-loop-item : goal.invariant-loop-item
invariant-loop-item l = block_items_of l.kept.items ++ filter has_deps (block_items_of (drop l.item-index l.items)) ≡ filter has_deps (block_items_of l.items)
