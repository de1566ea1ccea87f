use Rattle.std.proofs.Common.{◌≡◌, ◌++◌, take, drop}
use Rattle.std.specs.Option.{option_map}
use Rattle.relup_instruction.specs.Instruction.{script_of}
use Rattle.relup_file.specs.Script.{split_point}
use Rattle.relup_file.proofs.script.split_point.Given as goal

abbrev pub invariant-loop-i : goal.invariant-loop-i
invariant-loop-i l =
    split_point (script_of l.script) ≡ option_map (λ p. (script_of (take l.i l.script) ++ p.0, p.1)) (split_point (script_of (drop l.i l.script)))
