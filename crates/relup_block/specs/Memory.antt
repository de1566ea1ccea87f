-- What parts of a script in the making stand for.
use Rattle.std.specs.Prelude.{◌≡◌, List, ◌++◌}
use Rattle.relup_instruction.specs.declared.instruction.Instr.{Instr}
use Rattle.relup_instruction.specs.Instruction.{Instruction, script_of}

-- The instructions were written after what stood there.
abbrev pub Appends : List Instr → List Instr → List Instruction → Type 0
Appends old new is = script_of new ≡ script_of old ++ is
