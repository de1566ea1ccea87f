use Rattle.std.proofs.Common.{◌≡◌, ◌++◌, map, drop, string_bytes}
use Rattle.std.specs.List.{filter_map}
use Rattle.relup_block.specs.Order.{block_items_of}
use Rattle.relup_block.specs.Block.{resumption}
use Rattle.relup_block.proofs.block.resumptions.Given as goal

abbrev pub invariant-loop-item : goal.invariant-loop-item
invariant-loop-item l = map string_bytes l.names.items ++ filter_map resumption (block_items_of (drop l.item-index l.items)) ≡ filter_map resumption (block_items_of l.items)
