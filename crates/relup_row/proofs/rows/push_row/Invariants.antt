use Rattle.std.proofs.Common.{◌≡◌, ◌++◌, drop}
use Rattle.std.specs.List.{flat_map}
use Rattle.appup_file.specs.Instruction.{row_of}
use Rattle.relup_instruction.specs.Instruction.{script_of}
use Rattle.relup_row.specs.Release.{way_of}
use Rattle.relup_block.specs.Order.{block_items_of}
use Rattle.relup_row.specs.Script.{part_script, parts, row_script}
use Rattle.relup_row.proofs.PartLemmas.{unfinished}
use Rattle.relup_row.proofs.rows.push_row.Given as goal

abbrev pub invariant-loop-instr : goal.invariant-loop-instr
invariant-loop-instr l = script_of l.out.items ++ flat_map (part_script (way_of l.way)) (unfinished (block_items_of l.items.items) (parts (row_of (drop l.instr-index l.row)))) ≡ script_of l.initial.out.items ++ row_script (way_of l.way) (row_of l.row)
