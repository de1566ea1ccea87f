use Rattle.std.proofs.Common.{◌≡◌, ◌+◌, List, [], ◌∷◌, true, false, cond, filter, drop, refl, sym, ap, ◌∙◌, rules, arith}
use Rattle.std.proofs.lemmas.List.{append-nil}
use Rattle.std.proofs.lemmas.Grind.{common_steps}
use Rattle.relup_instruction.specs.Instruction.{instruction_of, script_of}
use Rattle.relup_instruction.specs.Instruction.Instruction.{load}
use Rattle.relup_block.specs.Order.{BlockItemForm, block_item_of, block_items_of}
use Rattle.relup_block.specs.Block.{is_of_kind, loading, purging}
use Rattle.relup_block.proofs.WalkLemmas.{one_further, none_left}
use Rattle.relup_block.proofs.block.push_loads_that.Goals.{then-is_static-wanted+in_ok-push_load, else-is_static-wanted}
use Rattle.relup_block.proofs.block.push_loads_that.Goals as goal

pub loop-item-preserved : goal.loop-item-preserved
loop-item-preserved c =
    let i = c.loop-item.item-index in
    let x = c.item-item.result in
    let made = c.loop-item.out.items in
    let wanted = is_of_kind c.args.wanted in
    let later = block_items_of (drop (i + 1) c.args.items.now) in
    elim c.if-is_static-wanted.branch [
      | then-is_static-wanted+in_ok-push_load w ↦
          let kind : is_of_kind c.args.wanted (block_item_of x) ≡ true = first_of (search rules, grind (arith, common_steps)) in
          one_further instruction_of block_item_of (λ (ys : List BlockItemForm). loading (filter wanted ys)) c.args.items.now i x made c.if-is_static-wanted.out.items (load (purging (block_item_of x)) ∷ []) _
          c.loop-item-test.true c.item-item.is (ap (λ b. loading (cond b (block_item_of x ∷ filter wanted later) (filter wanted later))) kind)
          (ap (λ v. script_of v.items) w.out-is ∙ w.in_ok-push_load.ensures) c.loop-item.invariant
      | else-is_static-wanted w ↦
          let kind : is_of_kind c.args.wanted (block_item_of x) ≡ false = first_of (search rules, grind (arith, common_steps)) in
          one_further instruction_of block_item_of (λ (ys : List BlockItemForm). loading (filter wanted ys)) c.args.items.now i x made c.if-is_static-wanted.out.items [] _
          c.loop-item-test.true c.item-item.is (ap (λ b. loading (cond b (block_item_of x ∷ filter wanted later) (filter wanted later))) kind)
          (ap (λ v. script_of v.items) w.out-is ∙ sym (append-nil (script_of made))) c.loop-item.invariant
    ]

pub returns : goal.returns
returns c =
    none_left instruction_of block_item_of (λ (ys : List BlockItemForm). loading (filter (is_of_kind c.args.wanted) ys)) c.args.items.now c.loop-item.item-index c.loop-item.out.items _ refl
    c.loop-item-test.false c.loop-item.invariant
