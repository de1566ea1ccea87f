-- Laws of instructions and scripts.
use Rattle.std.specs.Prelude.{◌≡◌, List, Some}
use Rattle.erl_term.specs.Value.{Value, Values, values_of}
use Rattle.relup_instruction.specs.Instruction.{Instruction}
use Rattle.relup_instruction.specs.Form.{instruction_term, IsInstruction, SpellsScript}
use Rattle.relup_instruction.specs.Parts.{instruction_in, script_in}

-- A term is read as an instruction exactly where it is that instruction's term, and the instruction is one of a file.
pub record InstructionsAreRead : Type 0 where
  pub only : (v : Value) (i : Instruction) → instruction_in v ≡ Some i → (v ≡ instruction_term i) × IsInstruction i
  pub each : (i : Instruction) → IsInstruction i → instruction_in (instruction_term i) ≡ Some i

-- Terms are read as a script exactly where they spell it.
pub record ScriptsAreRead : Type 0 where
  pub only : (vs : Values) (script : List Instruction) → script_in vs ≡ Some script → (ws : List Value) × (vs ≡ values_of ws) × SpellsScript ws script
  pub each : (ws : List Value) (script : List Instruction) → SpellsScript ws script → script_in (values_of ws) ≡ Some script
