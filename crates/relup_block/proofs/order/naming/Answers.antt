use Rattle.std.proofs.Common.{◌+◌, [], ◌∷◌, cond, filter, drop, refl, sym, ap, ◌∙◌}
use Rattle.std.proofs.lemmas.List.{append-nil}
use Rattle.relup_block.specs.Order.{block_item_of, block_items_of}
use Rattle.relup_block.specs.Counts.{has_deps}
use Rattle.relup_block.proofs.WalkLemmas.{one_pushed, one_further, none_left}
use Rattle.relup_block.proofs.order.naming.Goals.{then-has_deps+in_ok-push, else-has_deps}
use Rattle.relup_block.proofs.order.naming.Goals as goal

pub loop-item-preserved : goal.loop-item-preserved
loop-item-preserved c =
    let i = c.loop-item.item-index in
    let x = c.item-item.result in
    let made = c.loop-item.kept.items in
    let later = block_items_of (drop (i + 1) c.args.items.now) in
    elim c.if-has_deps.branch [
      | then-has_deps+in_ok-push w ↦
          one_further block_item_of block_item_of (filter has_deps) c.args.items.now i x made c.if-has_deps.kept.items (block_item_of x ∷ []) _ c.loop-item-test.true c.item-item.is
          (ap (λ b. cond b (block_item_of x ∷ filter has_deps later) (filter has_deps later)) (sym c.has_deps.ensures ∙ w.if-has_deps.true))
          (ap (λ v. block_items_of v.items) w.kept-is ∙ one_pushed block_item_of _ _ _ (block_item_of x) w.in_ok-push.ensures.items refl) c.loop-item.invariant
      | else-has_deps w ↦
          one_further block_item_of block_item_of (filter has_deps) c.args.items.now i x made c.if-has_deps.kept.items [] _ c.loop-item-test.true c.item-item.is
          (ap (λ b. cond b (block_item_of x ∷ filter has_deps later) (filter has_deps later)) (sym c.has_deps.ensures ∙ w.if-has_deps.false))
          (ap (λ v. block_items_of v.items) w.kept-is ∙ sym (append-nil (block_items_of made))) c.loop-item.invariant
    ]

pub returns : goal.returns
returns c =
    none_left block_item_of block_item_of (filter has_deps) c.args.items.now c.loop-item.item-index c.loop-item.kept.items _ refl c.loop-item-test.false c.loop-item.invariant
