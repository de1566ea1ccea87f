use Rattle.std.proofs.Common.{◌≡◌, ◌+◌, drop}
use Rattle.relup_instruction.specs.Instruction.{script_of}
use Rattle.relup_file.specs.Script.{part_fault}
use Rattle.relup_file.proofs.script.part_fault.Given as goal

abbrev pub invariant-loop-i : goal.invariant-loop-i
invariant-loop-i l = part_fault l.side (l.before + l.i) (script_of (drop l.i l.part)) ≡ part_fault l.side l.before (script_of l.part)
