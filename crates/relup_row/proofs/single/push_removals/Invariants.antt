use Rattle.std.proofs.Common.{◌≡◌, ◌++◌, map, drop, string_bytes}
use Rattle.relup_instruction.specs.Instruction.{script_of}
use Rattle.relup_row.specs.Script.{remove_plainly}
use Rattle.relup_row.proofs.single.push_removals.Given as goal

abbrev pub invariant-loop-name : goal.invariant-loop-name
invariant-loop-name l = script_of l.out.items ++ map remove_plainly (map string_bytes (drop l.name-index l.names)) ≡ script_of l.initial.out.items ++ map remove_plainly (map string_bytes l.names)
