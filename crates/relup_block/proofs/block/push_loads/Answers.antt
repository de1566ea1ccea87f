use Rattle.std.proofs.Common.{[], ◌∷◌, refl}
use Rattle.relup_instruction.specs.Instruction.{instruction_of}
use Rattle.relup_instruction.specs.Instruction.Instruction.{load}
use Rattle.relup_block.specs.Order.{block_item_of}
use Rattle.relup_block.specs.Block.{loading, purging}
use Rattle.relup_block.proofs.WalkLemmas.{one_further, none_left}
use Rattle.relup_block.proofs.block.push_loads.Goals as goal

pub loop-item-preserved : goal.loop-item-preserved
loop-item-preserved c =
    one_further instruction_of block_item_of loading c.args.items.now c.loop-item.item-index c.item-item.result c.loop-item.out.items c.push_load.new.out.items
    (load (purging (block_item_of c.item-item.result)) ∷ []) _ c.loop-item-test.true c.item-item.is refl c.in_ok-push_load.ensures c.loop-item.invariant

pub returns : goal.returns
returns c =
    none_left instruction_of block_item_of loading c.args.items.now c.loop-item.item-index c.loop-item.out.items _ refl c.loop-item-test.false c.loop-item.invariant
