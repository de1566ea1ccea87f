use Rattle.std.proofs.Common.{◌≡◌, ◌+◌, [], ◌∷◌, None, map, drop, string_bytes, refl, sym, ap, ◌∙◌, rules, arith}
use Rattle.std.specs.List.{cons_option, filter_map}
use Rattle.std.proofs.lemmas.List.{append-nil}
use Rattle.std.proofs.lemmas.Grind.{common_steps}
use Rattle.relup_block.specs.Order.{block_item_of, block_items_of}
use Rattle.relup_block.specs.Block.{resumption}
use Rattle.relup_block.proofs.WalkLemmas.{one_pushed, one_further, none_left}
use Rattle.relup_block.proofs.block.resumptions.Goals.{in-Updated+in_ok-clone+in_ok-push, in_default}
use Rattle.relup_block.proofs.block.resumptions.Goals as goal

pub loop-item-preserved : goal.loop-item-preserved
loop-item-preserved c =
    let i = c.loop-item.item-index in
    let x = c.item-item.result in
    let made = c.loop-item.names.items in
    let later = block_items_of (drop (i + 1) c.args.items.now) in
    elim c.match-item.branch [
      | in-Updated+in_ok-clone+in_ok-push w ↦
          one_further string_bytes block_item_of (filter_map resumption) c.args.items.now i x made c.match-item.names.items (string_bytes w.in-Updated.update.now.name ∷ []) _
          c.loop-item-test.true c.item-item.is (ap (λ y. filter_map resumption (block_item_of y ∷ later)) w.in-Updated.is)
          (ap (λ v. map string_bytes v.items) w.names-is ∙ one_pushed string_bytes _ _ _ (string_bytes w.in-Updated.update.now.name) w.in_ok-push.ensures.items w.in_ok-clone.ensures.cases)
          c.loop-item.invariant
      | in_default w ↦
          let none : resumption (block_item_of x) ≡ None = first_of (search rules, grind (arith, common_steps)) in
          one_further string_bytes block_item_of (filter_map resumption) c.args.items.now i x made c.match-item.names.items [] _ c.loop-item-test.true c.item-item.is
          (ap (λ o. cons_option o (filter_map resumption later)) none) (ap (λ v. map string_bytes v.items) w.names-is ∙ sym (append-nil (map string_bytes made))) c.loop-item.invariant
    ]

pub returns : goal.returns
returns c =
    none_left string_bytes block_item_of (filter_map resumption) c.args.items.now c.loop-item.item-index c.loop-item.names.items _ refl c.loop-item-test.false c.loop-item.invariant
