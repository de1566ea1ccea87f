use Rattle.std.proofs.Common.{◌≡◌, drop}
use Rattle.relup_instruction.specs.Instruction.{script_of}
use Rattle.relup_file.specs.Script.{restarts}
use Rattle.relup_file.proofs.script.restarts.Given as goal

abbrev pub invariant-loop-instr : goal.invariant-loop-instr
invariant-loop-instr l = restarts (script_of (drop l.instr-index l.script)) ≡ restarts (script_of l.script)
