use Rattle.std.proofs.Common.{◌≡◌, length, refl, ◌∙◌, rules, arith}
use Rattle.std.proofs.lemmas.List.{length-map}
use Rattle.relup_block.specs.Order.{block_item_of}
use Rattle.relup_block.specs.Counts.{waiting_of, all_waiting, after_item}
use Rattle.relup_block.proofs.CountLemmas.{none_released, one_more_released, all_released}
use Rattle.relup_block.proofs.order.release.Goals as goal

pub loop-waiting-init : goal.loop-waiting-init
loop-waiting-init c = none_released c.args.rule (block_item_of c.args.item) (all_waiting c.args.left.now)

pub loop-waiting-preserved : goal.loop-waiting-preserved
loop-waiting-preserved c =
    let wait : waiting_of c.wait_without.result ≡ after_item c.args.rule (block_item_of c.args.item) (waiting_of c.waiting-item.result) = (search rules) in
    one_more_released c.args.rule (block_item_of c.args.item) c.loop-waiting.waiting-index c.loop-waiting.left _ c.args.left.now c.waiting-item.result c.wait_without.result
    c.loop-waiting.invariant c.loop-waiting-test.true c.loop-waiting.auto.left c.waiting-item.is wait refl

pub returns : goal.returns
returns c =
    let all : c.loop-waiting.waiting-index ≡ length (all_waiting c.args.left.now) = omega (arith, length-map c.args.left.now waiting_of) in
    c.loop-waiting.invariant ∙ all_released c.args.rule (block_item_of c.args.item) c.loop-waiting.waiting-index (all_waiting c.args.left.now) all
