-- The fault of a script.
use Rattle.std.specs.Prelude.{ℕ, List, codes}
use Rattle.relup_file.specs.declared.script_fault.ScriptFault.{ScriptFault}
use Rattle.relup_file.specs.declared.script_fault.ScriptFault.TheVariants.{NoPoint, TwoPoints, Misplaced, Unsupported}

-- how a script's fault is shown: by its name alone
abbrev pub script_fault_text : ScriptFault → List ℕ
script_fault_text NoPoint = codes "NoPoint"
script_fault_text TwoPoints = codes "TwoPoints"
script_fault_text (Misplaced n) = codes "Misplaced"
script_fault_text (Unsupported n) = codes "Unsupported"
