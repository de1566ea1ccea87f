-- Laws of relups over runtime systems.
use Rattle.std.specs.Prelude.{◌≡◌, ◌⊎◌, Bool, true, false, List, [], ◌∷◌, ◌++◌, None, Some, Ok}
use Rattle.std.specs.List.{AllByRecursion}
use Rattle.relup_instruction.specs.declared.instruction.Direction.{Direction}
use Rattle.relup_instruction.specs.declared.instruction.Direction.TheVariants.{Up, Down}
use Rattle.relup_instruction.specs.Instruction.{Instruction}
use Rattle.relup_instruction.specs.Instruction.Instruction.{restart_new_emulator, restart_emulator}
use Rattle.relup_file.specs.Form.{IsRelup}
use Rattle.relup_file.specs.Relup.{EntryForm, RelupForm}
use Rattle.relup_file.specs.Script.{script_fault, split_point}
use Rattle.relup_file.specs.declared.script_fault.ScriptFault.TheVariants.{Unsupported}
use Rattle.relup_row.specs.Release.{RelupReleaseForm}
use Rattle.relup_translate.specs.Translation.{translation}
use Rattle.relup_translate.specs.WellFormed.{IsWellFormedRelease, HasWellFormedAppups}
use Rattle.runtime_change.specs.Runtime.{changes_runtime, is_restart}
use Rattle.runtime_change.specs.Settled.{settled}
use Rattle.runtime_change.specs.Relup.{entry_between, relup_over_runtimes}

-- No way between a release and these leads to another runtime system.
abbrev pub StaysOn : Direction → RelupReleaseForm → List RelupReleaseForm → Type 0
StaysOn d new = AllByRecursion (λ (o : RelupReleaseForm). changes_runtime d new o ≡ false)

-- Without another runtime system and without a restart that is asked for, the relup is the translation.
abbrev pub StaysTheTranslation : Type 0
StaysTheTranslation = (new : RelupReleaseForm) (ups downs : List RelupReleaseForm) → StaysOn Up new ups → StaysOn Down new downs
    → relup_over_runtimes false new ups downs ≡ translation (settled new.erts new) ups downs

-- The script of an upgrade to another runtime system begins with its restart.
abbrev pub BeginsAnew : Type 0
BeginsAnew = (asked : Bool) (new other : RelupReleaseForm) (e : EntryForm) → changes_runtime Up new other ≡ true → entry_between asked Up new other ≡ Ok e
    → (rest : List Instruction) × (e.script ≡ restart_new_emulator ∷ rest)

-- A restart is the last instruction of a script, and no other instruction is one.
pub record EndsWithRestart (script : List Instruction) : Type 0 where
  pub before : List Instruction
  pub is : script ≡ before ++ (restart_emulator ∷ [])
  pub others : AllByRecursion (λ (i : Instruction). is_restart i ≡ false) before

-- The script of a downgrade from another runtime system ends with a restart, as does each script where one is asked for.
abbrev pub EndsAnew : Type 0
EndsAnew = (asked : Bool) (d : Direction) (new other : RelupReleaseForm) (e : EntryForm)
    → ((asked ≡ true) ⊎ ((d ≡ Down) × (changes_runtime Down new other ≡ true))) → entry_between asked d new other ≡ Ok e → EndsWithRestart e.script

-- A script that begins with another runtime system, and has one point of no return after that, is refused by a node for its first
-- instruction.
abbrev pub IsRefusedByNodes : Type 0
IsRefusedByNodes = (rest before after : List Instruction) → split_point rest ≡ Some (before, after) → split_point after ≡ None
    → script_fault (restart_new_emulator ∷ rest) ≡ Some (Unsupported 1)

-- The names in a made relup are names, its versions are versions, and no script is empty, where it is so of what it is made of.
abbrev pub MadeRelupsAreNamed : Type 0
MadeRelupsAreNamed = (asked : Bool) (new : RelupReleaseForm) (ups downs : List RelupReleaseForm) (r : RelupForm)
    → IsWellFormedRelease new → HasWellFormedAppups new → AllByRecursion IsWellFormedRelease ups → AllByRecursion IsWellFormedRelease downs
    → relup_over_runtimes asked new ups downs ≡ Ok r → IsRelup r
