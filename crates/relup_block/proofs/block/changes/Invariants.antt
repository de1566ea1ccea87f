use Rattle.std.proofs.Common.{◌≡◌, ◌++◌, map, drop}
use Rattle.std.specs.List.{filter_map}
use Rattle.relup_block.specs.Order.{block_items_of}
use Rattle.relup_block.specs.Block.{change}
use Rattle.relup_instruction.specs.Instruction.{change_of}
use Rattle.relup_block.proofs.block.changes.Given as goal

abbrev pub invariant-loop-item : goal.invariant-loop-item
invariant-loop-item l = map change_of l.changes.items ++ filter_map change (block_items_of (drop l.item-index l.items)) ≡ filter_map change (block_items_of l.items)
