-- The script of a direction before its translation, without where it lies in memory.
use Rattle.std.specs.Prelude.{ℕ, ◌+◌, Bool, List, [], ◌∷◌, map, string_bytes, if◌then◌else◌}
use Rattle.std.specs.List.{list_any}
use Rattle.std.specs.Str.{bytes_eq}
use Rattle.appup_file.specs.Instruction.{AppupInstruction, appup_instruction_of}
use Rattle.relup_lint.specs.declared.script.PlacedInstr.{PlacedInstr}
use Rattle.relup_lint.specs.declared.script.TargetApp.{TargetApp}

-- an instruction, the application whose appup has it, and its place in the entry, from 1
pub record PlacedForm : Type 0 where
  pub app : List ℕ
  pub number : ℕ
  pub instr : AppupInstruction

-- an application of the release that the direction leads to
pub record TargetForm : Type 0 where
  pub name : List ℕ
  pub vsn : List ℕ
  pub modules : List (List ℕ)

pub record ScriptForm : Type 0 where
  pub instrs : List PlacedForm
  pub target : List TargetForm

abbrev pub placed_of : PlacedInstr → PlacedForm
placed_of p = record { app = p.app.now; number = p.number; instr = appup_instruction_of p.instr.now }

abbrev pub all_placed : List PlacedInstr → List PlacedForm
all_placed = map placed_of

abbrev pub target_of : TargetApp → TargetForm
target_of t = record { name = t.name.now; vsn = t.vsn.now; modules = map string_bytes t.modules.now }

abbrev pub all_targets : List TargetApp → List TargetForm
all_targets = map target_of

-- the instructions of an entry, numbered from here on
abbrev pub placed : List ℕ → ℕ → List AppupInstruction → List PlacedForm
placed app n [] = []
placed app n (i ∷ is) = record { app = app; number = n; instr = i } ∷ placed app (n + 1) is

-- the modules that the target has of an application, none where it hasn't the application
abbrev pub modules_of : List ℕ → List TargetForm → List (List ℕ)
modules_of name [] = []
modules_of name (t ∷ ts) = if bytes_eq name t.name then t.modules else modules_of name ts

-- whether the target has an application
abbrev pub has_app : List ℕ → List TargetForm → Bool
has_app name = list_any (λ (t : TargetForm). bytes_eq name t.name)
