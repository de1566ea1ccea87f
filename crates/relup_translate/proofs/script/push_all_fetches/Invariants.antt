use Rattle.std.proofs.Common.{◌≡◌, ◌++◌, drop}
use Rattle.std.specs.List.{flat_map}
use Rattle.relup_instruction.specs.Instruction.{script_of}
use Rattle.relup_row.specs.Script.{written_fetches}
use Rattle.relup_translate.specs.Memory.{rows_of}
use Rattle.relup_translate.proofs.script.push_all_fetches.Given as goal

abbrev pub invariant-loop-change : goal.invariant-loop-change
invariant-loop-change l = script_of l.out.items ++ flat_map written_fetches (rows_of (drop l.change-index l.changes)) ≡ script_of l.initial.out.items ++ flat_map written_fetches (rows_of l.changes)
