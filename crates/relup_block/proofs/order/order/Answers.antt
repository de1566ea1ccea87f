use Rattle.std.proofs.Common.{◌≡◌, ap, ◌∙◌, subst, Some, [], ◌∷◌, arith}
use Rattle.std.proofs.lemmas.List.{map-append}
use Rattle.relup_block.specs.Order.{block_item_of, block_items_of, choice, order}
use Rattle.relup_block.specs.Counts.{step_of, remaining, Steps, Shrinks}
use Rattle.relup_block.proofs.OrderLemmas.{one_more_chosen}
use Rattle.relup_block.proofs.order.order.Goals as goal

pub loop-left-preserved-in-Continue-branch-5 : goal.loop-left-preserved-in-Continue-branch-5
loop-left-preserved-in-Continue-branch-5 c =
    let counted = c.loop-left.invariant.1 in
    let chosen : choice c.args.rule (remaining c.loop-left.left) ≡ Some (block_item_of c.in-Chosen.item, remaining c.step.new.self) =
    subst (λ s. Steps c.args.rule (remaining c.loop-left.left) (step_of s) (remaining c.step.new.self)) c.in-Chosen.is (c.in_ok-item.ensures.steps counted) in
    let less = subst (λ s. Shrinks s c.loop-left.left c.step.new.self) c.in-Chosen.is c.in_ok-item.ensures.shrinks in (
      one_more_chosen c.args.rule (remaining c.loop-left.left) (block_item_of c.in-Chosen.item) (remaining c.step.new.self) (block_items_of c.loop-left.ordered.items)
          (block_items_of c.push.new.self.items) (order c.args.rule (block_items_of c.args.items.now)) chosen
          (ap block_items_of c.in_ok-push-in-Chosen.ensures.items ∙ map-append block_item_of c.loop-left.ordered.items (c.in-Chosen.item ∷ [])) c.loop-left.invariant.0,
      c.in_ok-item.ensures.counted counted,
      less.2,
      omega (arith, less.0, c.loop-left.invariant.3),
    )
