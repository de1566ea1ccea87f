use Rattle.std.proofs.Common.{◌≡◌, ◌≤◌, ◌+◌, drop}
use Rattle.relup_block.specs.Order.{block_item_of}
use Rattle.relup_block.specs.Counts.{waits_among, passed_items}
use Rattle.relup_block.proofs.order.waits_for_passed.Given as goal

abbrev pub invariant-loop-other : goal.invariant-loop-other
invariant-loop-other l =
    (l.count ≤ l.other-index)
    × (l.count + waits_among l.rule (block_item_of l.item) (passed_items (drop l.other-index l.passed)) ≡ waits_among l.rule (block_item_of l.item) (passed_items l.passed))
