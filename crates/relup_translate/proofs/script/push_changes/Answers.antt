use Rattle.std.proofs.Common.{refl}
use Rattle.std.specs.List.{flat_map}
use Rattle.relup_instruction.specs.Instruction.{instruction_of}
use Rattle.relup_row.specs.Release.{way_of}
use Rattle.relup_row.specs.Script.{row_script}
use Rattle.relup_translate.specs.Memory.{row_of_change}
use Rattle.relup_block.proofs.WalkLemmas.{one_further, none_left}
use Rattle.relup_translate.proofs.script.push_changes.Goals as goal

pub loop-change-preserved : goal.loop-change-preserved
loop-change-preserved c =
    one_further instruction_of row_of_change (flat_map (row_script (way_of c.args.way))) c.args.changes.now c.loop-change.change-index c.change-item.result c.loop-change.out.items c.push_change.new.out.items
    (row_script (way_of c.args.way) (row_of_change c.change-item.result)) _ c.loop-change-test.true c.change-item.is refl c.in_ok-push_change.ensures c.loop-change.invariant

pub returns : goal.returns
returns c =
    none_left instruction_of row_of_change (flat_map (row_script (way_of c.args.way))) c.args.changes.now c.loop-change.change-index c.loop-change.out.items _ refl
    c.loop-change-test.false c.loop-change.invariant
