use Rattle.std.proofs.Common.{◌≡◌, ◌+◌, ◌∷◌, ◌++◌, drop, sym, ap, ◌∙◌}
use Rattle.std.specs.List.{flat_map}
use Rattle.std.specs.Option.{option_map}
use Rattle.std.proofs.lemmas.List.{map_push, drop_more, drop_all}
use Rattle.std.proofs.lemmas.Result.{on_ok_weaker}
use Rattle.relup_instruction.specs.Instruction.{script_of}
use Rattle.appup_file.specs.Instruction.{appup_instruction_of, row_of}
use Rattle.relup_block.specs.Order.{block_item_of, block_items_of}
use Rattle.relup_block.specs.Block.{block}
use Rattle.relup_row.specs.Release.{way_of}
use Rattle.relup_row.specs.Script.{parts, part_script}
use Rattle.relup_row.proofs.PartLemmas.{unfinished, item_more, single_more, none_more}
use Rattle.relup_row.proofs.rows.push_row.Goals.{in-Some+in_ok-push-in-Some, in-None+in_ok-push_block-in-None+in_ok-push_single-in-None}
use Rattle.relup_row.proofs.rows.push_row.Goals as goal

pub loop-instr-preserved : goal.loop-instr-preserved
loop-instr-preserved c =
    let way = way_of c.args.way in
    let row = c.args.row.now in
    let i = c.loop-instr.instr-index in
    let instr = c.instr-item.result in
    let xs = block_items_of c.loop-instr.items.items in
    let made = script_of c.loop-instr.out.items in
    let rest = row_of (drop (i + 1) row) in
    let split : drop i row ≡ instr ∷ drop (i + 1) row = drop_more row i instr c.loop-instr-test.true ∙ ap (λ x. x ∷ drop (i + 1) row) (sym c.instr-item.is) in
    let so_far = ap (λ is. made ++ flat_map (part_script way) (unfinished xs (parts (row_of is)))) (sym split) ∙ c.loop-instr.invariant in
    elim c.match-block_item.branch [
      | in-Some+in_ok-push-in-Some w ↦
          ap (λ v. script_of v.items ++ flat_map (part_script way) (unfinished (block_items_of c.match-block_item.items.items) (parts rest))) w.out-is
          ∙ item_more way xs (block_items_of c.match-block_item.items.items) (block_item_of w.in-Some.item) (appup_instruction_of instr) rest made _
          (sym c.block_item.ensures ∙ ap (option_map block_item_of) w.in-Some.is)
          (ap (λ v. block_items_of v.items) w.items-is ∙ (ap block_items_of w.in_ok-push-in-Some.ensures.items ∙ map_push block_item_of c.loop-instr.items.items w.in-Some.item)) so_far
      | in-None+in_ok-push_block-in-None+in_ok-push_single-in-None w ↦
          single_more way xs (block_items_of c.match-block_item.items.items) (appup_instruction_of instr) rest made _ (script_of c.match-block_item.out.items) _
          (sym c.block_item.ensures ∙ ap (option_map block_item_of) w.in-None.is)
          (ap (λ v. block_items_of v.items) w.items-is ∙ ap block_items_of w.clear.ensures.items)
          (w.in_ok-push_block-in-None.ensures ∙ ap (λ ys. made ++ block way.direction (block_items_of ys)) w.deref.ensures.value)
          (ap (λ v. script_of v.items) w.out-is ∙ w.in_ok-push_single-in-None.ensures) so_far
    ]

pub returns : goal.returns
returns c =
    let way = way_of c.args.way in
    let left = row_of (drop c.loop-instr.instr-index c.args.row.now) in
    let made = script_of c.loop-instr.out.items in
    let ended = none_more way (block_items_of c.loop-instr.items.items) left made _ (ap row_of (drop_all c.loop-instr.instr-index c.args.row.now c.loop-instr-test.false)) c.loop-instr.invariant in
    on_ok_weaker c.push_block-2.result (λ written. written ∙ (ap (λ ys. made ++ block way.direction (block_items_of ys)) c.deref-2.ensures.value ∙ ended)) c.push_block-2.ensures
