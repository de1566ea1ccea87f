use Rattle.std.proofs.Common.{◌≡◌, ◌+◌, [], ◌∷◌, None, map, drop, string_bytes, refl, sym, ap, ◌∙◌, rules, arith}
use Rattle.std.specs.List.{cons_option, filter_map}
use Rattle.std.proofs.lemmas.List.{append-nil}
use Rattle.std.proofs.lemmas.Grind.{common_steps}
use Rattle.relup_instruction.specs.Instruction.{SuspensionForm, suspension_of}
use Rattle.relup_block.specs.Order.{block_item_of, block_items_of}
use Rattle.relup_block.specs.Block.{suspension, written_timeout}
use Rattle.relup_block.proofs.WalkLemmas.{one_pushed, one_further, none_left}
use Rattle.relup_block.proofs.block.suspensions.Goals.{in-Updated+in_ok-clone+in_ok-push, in_default}
use Rattle.relup_block.proofs.block.suspensions.Goals as goal

pub loop-item-preserved : goal.loop-item-preserved
loop-item-preserved c =
    let i = c.loop-item.item-index in
    let x = c.item-item.result in
    let made = c.loop-item.suspensions.items in
    let later = block_items_of (drop (i + 1) c.args.items.now) in
    elim c.match-item.branch [
      | in-Updated+in_ok-clone+in_ok-push w ↦
          let s : SuspensionForm = record { name = string_bytes w.in-Updated.update.now.name; timeout = written_timeout w.in-Updated.update.now.timeout } in
          one_further suspension_of block_item_of (filter_map suspension) c.args.items.now i x made c.match-item.suspensions.items (s ∷ []) _ c.loop-item-test.true c.item-item.is
          (ap (λ y. filter_map suspension (block_item_of y ∷ later)) w.in-Updated.is)
          (ap (λ v. map suspension_of v.items) w.suspensions-is
          ∙ one_pushed suspension_of _ _ _ s w.in_ok-push.ensures.items (λ j. record { name = w.in_ok-clone.ensures.cases j; timeout = w.written_timeout.ensures j }))
          c.loop-item.invariant
      | in_default w ↦
          let none : suspension (block_item_of x) ≡ None = first_of (search rules, grind (arith, common_steps)) in
          one_further suspension_of block_item_of (filter_map suspension) c.args.items.now i x made c.match-item.suspensions.items [] _ c.loop-item-test.true c.item-item.is
          (ap (λ o. cons_option o (filter_map suspension later)) none) (ap (λ v. map suspension_of v.items) w.suspensions-is ∙ sym (append-nil (map suspension_of made))) c.loop-item.invariant
    ]

pub returns : goal.returns
returns c =
    none_left suspension_of block_item_of (filter_map suspension) c.args.items.now c.loop-item.item-index c.loop-item.suspensions.items _ refl c.loop-item-test.false c.loop-item.invariant
