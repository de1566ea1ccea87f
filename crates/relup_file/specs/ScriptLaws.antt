-- Laws of the fault of a script, whatever finds it.
use Rattle.std.specs.Prelude.{◌≡◌, ◌↔◌, List, Option, None, Some}
use Rattle.relup_instruction.specs.Instruction.{Instruction}
use Rattle.relup_file.specs.declared.script_fault.ScriptFault.{ScriptFault}
use Rattle.relup_file.specs.Script.{IsRunnable, IsScriptFault, script_fault}

-- What is found of a script is its fault, and no other.
abbrev pub FindsItsFault : Type 0
FindsItsFault = (script : List Instruction) (f : ScriptFault) → (script_fault script ≡ Some f) ↔ IsScriptFault script f

-- None is found exactly in a script that can be run.
abbrev pub FindsNone : Type 0
FindsNone = (script : List Instruction) → (script_fault script ≡ None) ↔ IsRunnable script
