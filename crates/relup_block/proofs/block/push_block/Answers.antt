use Rattle.std.proofs.Common.{List, OnOk, sym, ap, ap₂, subst, ◌∙◌}
use Rattle.relup_instruction.specs.Instruction.{Instruction}
use Rattle.relup_block.specs.Order.{block_items_of}
use Rattle.relup_block.specs.Block.{in_orders}
use Rattle.relup_block.specs.Memory.{Appends}
use Rattle.relup_block.proofs.block.push_block.Goals as goal

pub returns : goal.returns
returns c =
    let suspended = ap block_items_of c.deref.ensures.value ∙ c.in_ok-suspended.ensures in
    let loaded = ap block_items_of c.deref-2.ensures.value ∙ c.in_ok-loaded.ensures in
    subst (λ (is : List Instruction). OnOk c.push_in_orders.result (Appends c.args.out.now.items c.push_in_orders.new.out.items is))
    (ap₂ (in_orders c.args.direction) suspended loaded ∙ sym (c.rules-suspending.ensures (block_items_of c.args.items.now))) c.push_in_orders.ensures
