use Rattle.std.proofs.Common.{◌≡◌, ◌≤◌, ◌+◌, drop}
use Rattle.relup_block.specs.Order.{block_item_of, block_items_of}
use Rattle.relup_block.specs.Counts.{waits_among}
use Rattle.relup_block.proofs.order.waits_among.Given as goal

abbrev pub invariant-loop-other : goal.invariant-loop-other
invariant-loop-other l =
    (l.count ≤ l.other-index)
    × (l.count + waits_among l.rule (block_item_of l.item) (block_items_of (drop l.other-index l.others)) ≡ waits_among l.rule (block_item_of l.item) (block_items_of l.others))
