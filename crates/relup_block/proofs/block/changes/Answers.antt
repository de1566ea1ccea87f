use Rattle.std.proofs.Common.{◌+◌, [], ◌∷◌, map, drop, refl, sym, ap, ◌∙◌}
use Rattle.std.specs.List.{cons_option, filter_map}
use Rattle.std.specs.Option.{option_map}
use Rattle.std.proofs.lemmas.List.{append-nil}
use Rattle.relup_instruction.specs.Instruction.{change_of}
use Rattle.relup_block.specs.Order.{block_item_of, block_items_of}
use Rattle.relup_block.specs.Block.{change}
use Rattle.relup_block.proofs.WalkLemmas.{one_pushed, one_further, none_left}
use Rattle.relup_block.proofs.block.changes.Goals.{in-Some+in_ok-push, in_default}
use Rattle.relup_block.proofs.block.changes.Goals as goal

pub loop-item-preserved : goal.loop-item-preserved
loop-item-preserved c =
    let i = c.loop-item.item-index in
    let x = c.item-item.result in
    let made = c.loop-item.changes.items in
    let later = block_items_of (drop (i + 1) c.args.items.now) in
    elim c.match-branch-3.branch [
      | in-Some+in_ok-push w ↦
          one_further change_of block_item_of (filter_map change) c.args.items.now i x made c.match-branch-3.changes.items (change_of w.in-Some.change ∷ []) _ c.loop-item-test.true c.item-item.is
          (ap (λ o. cons_option o (filter_map change later)) (sym c.in_ok-change.ensures ∙ ap (option_map change_of) w.in-Some.is))
          (ap (λ v. map change_of v.items) w.changes-is ∙ one_pushed change_of _ _ _ (change_of w.in-Some.change) w.in_ok-push.ensures.items refl) c.loop-item.invariant
      | in_default w ↦
          one_further change_of block_item_of (filter_map change) c.args.items.now i x made c.match-branch-3.changes.items [] _ c.loop-item-test.true c.item-item.is
          (ap (λ o. cons_option o (filter_map change later)) (sym c.in_ok-change.ensures ∙ ap (option_map change_of) w.in_default.is))
          (ap (λ v. map change_of v.items) w.changes-is ∙ sym (append-nil (map change_of made))) c.loop-item.invariant
    ]

pub returns : goal.returns
returns c =
    none_left change_of block_item_of (filter_map change) c.args.items.now c.loop-item.item-index c.loop-item.changes.items _ refl c.loop-item-test.false c.loop-item.invariant
