use Rattle.std.proofs.Common.{◌≡◌, ◌++◌, map, drop}
use Rattle.std.specs.List.{filter_map}
use Rattle.relup_block.specs.Order.{block_items_of}
use Rattle.relup_block.specs.Block.{suspension}
use Rattle.relup_instruction.specs.Instruction.{suspension_of}
use Rattle.relup_block.proofs.block.suspensions.Given as goal

abbrev pub invariant-loop-item : goal.invariant-loop-item
invariant-loop-item l = map suspension_of l.suspensions.items ++ filter_map suspension (block_items_of (drop l.item-index l.items)) ≡ filter_map suspension (block_items_of l.items)
