use Rattle.std.proofs.Common.{◌≡◌}
use Rattle.relup_block.specs.Order.{block_item_of}
use Rattle.relup_block.specs.Counts.{all_waiting}
use Rattle.relup_block.proofs.CountLemmas.{after_item_first}
use Rattle.relup_block.proofs.order.release.Given as goal

abbrev pub invariant-loop-waiting : goal.invariant-loop-waiting
invariant-loop-waiting l = all_waiting l.left ≡ after_item_first l.rule (block_item_of l.item) l.waiting-index (all_waiting l.fn.left)
