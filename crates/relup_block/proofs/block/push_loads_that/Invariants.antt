use Rattle.std.proofs.Common.{◌≡◌, ◌++◌, filter, drop}
use Rattle.relup_instruction.specs.Instruction.{script_of}
use Rattle.relup_block.specs.Order.{block_items_of}
use Rattle.relup_block.specs.Block.{is_of_kind, loading}
use Rattle.relup_block.proofs.block.push_loads_that.Given as goal

abbrev pub invariant-loop-item : goal.invariant-loop-item
invariant-loop-item l = script_of l.out.items ++ loading (filter (is_of_kind l.wanted) (block_items_of (drop l.item-index l.items))) ≡ script_of l.initial.out.items ++ loading (filter (is_of_kind l.wanted) (block_items_of l.items))
