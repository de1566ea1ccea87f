use Rattle.std.proofs.Common.{◌≡◌, ◌++◌, map, drop}
use Rattle.appup_file.specs.Instruction.{row_of}
use Rattle.relup_row.specs.Release.{way_of}
use Rattle.relup_row.specs.Fetches.{mention_of}
use Rattle.relup_row.specs.Script.{mentions}
use Rattle.relup_row.proofs.rows.push_mentions.Given as goal

abbrev pub invariant-loop-instr : goal.invariant-loop-instr
invariant-loop-instr l = map mention_of l.out.items ++ mentions (way_of l.way) (row_of (drop l.instr-index l.row)) ≡ map mention_of l.initial.out.items ++ mentions (way_of l.way) (row_of l.row)
