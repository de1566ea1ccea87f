use Rattle.std.proofs.Common.{◌≡◌, ◌≤◌, ◌+◌, ◌++◌, length}
use Rattle.relup_block.specs.Order.{block_items_of, order}
use Rattle.relup_block.specs.Counts.{HasNaming, remaining, IsCounted, size_of_left}
use Rattle.relup_block.proofs.order.order.Given as goal

abbrev pub invariant-loop-left : goal.invariant-loop-left
invariant-loop-left l =
    (block_items_of l.ordered.items ++ order l.rule (remaining l.left) ≡ order l.rule (block_items_of l.items))
    × IsCounted l.rule l.left
    × HasNaming l.left.ahead
    × (size_of_left l.left ≤ length l.items)

abbrev pub decreases-loop-left : goal.decreases-loop-left
decreases-loop-left l = size_of_left l.left + length l.left.ahead.items.now
