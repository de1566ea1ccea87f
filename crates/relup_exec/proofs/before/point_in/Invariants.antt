use Rattle.std.proofs.Common.{take}
use Rattle.std.specs.List.{AllByRecursion}
use Rattle.relup_instruction.specs.Instruction.{script_of}
use Rattle.script_progress.specs.Steps.{IsEarly}
use Rattle.relup_exec.proofs.before.point_in.Given as goal

-- all so far may stand before the point
abbrev pub invariant-loop-i : goal.invariant-loop-i
invariant-loop-i l = AllByRecursion IsEarly (script_of (take l.i l.script))
