-- Where a way leads to another runtime system, and what its script has then (OTP: systools_relup, check_for_emulator_restart;
-- systools_rc, sort_emulator_restart).
use Rattle.std.specs.Prelude.{ℕ, Bool, true, false, not, ◌||◌, List, [], ◌∷◌, ◌++◌, filter, Option, None, Some, if◌then◌else◌}
use Rattle.std.specs.List.{list_any}
use Rattle.std.specs.Option.{option_and_then}
use Rattle.std.specs.Result.{result_ok}
use Rattle.std.specs.Str.{bytes_eq}
use Rattle.relup_instruction.specs.declared.instruction.Direction.{Direction}
use Rattle.relup_instruction.specs.declared.instruction.Direction.TheVariants.{Up, Down}
use Rattle.relup_instruction.specs.Instruction.{Instruction}
use Rattle.relup_instruction.specs.Instruction.Instruction.{restart_new_emulator, restart_emulator}
use Rattle.appup_file.specs.Instruction.{AppupInstruction, AppupForm}
use Rattle.appup_file.specs.Instruction.AppupInstruction.{low_level}
use Rattle.appup_file.specs.Search.{entries_of, entry_for}
use Rattle.relup_row.specs.Release.{RelupAppForm, RelupReleaseForm, app_named}

-- whether an instruction of an appup asks for another runtime system
abbrev pub asks_new : AppupInstruction → Bool
asks_new (low_level restart_new_emulator) = true
asks_new i = false

-- the instructions that an appup has for a version
abbrev pub appup_row : Direction → List ℕ → Option AppupForm → Option (List AppupInstruction)
appup_row d vsn None = None
appup_row d vsn (Some p) = result_ok (entry_for vsn (entries_of d p))

-- the instructions between an application and this one of its name, where that has another version
abbrev pub row_to : Direction → RelupAppForm → RelupAppForm → Option (List AppupInstruction)
row_to d a b = if bytes_eq b.vsn a.vsn then None else appup_row d b.vsn a.appup

-- the instructions that an application has for its version in another release
abbrev pub row_between : Direction → RelupReleaseForm → RelupAppForm → Option (List AppupInstruction)
row_between d other a = option_and_then (row_to d a) (app_named a.name other)

-- whether an application has instructions for it that ask for another runtime system
abbrev pub row_asks : Option (List AppupInstruction) → Bool
row_asks None = false
row_asks (Some row) = list_any asks_new row

abbrev pub app_asks : Direction → RelupReleaseForm → RelupAppForm → Bool
app_asks d other a = row_asks (row_between d other a)

-- A way leads to another runtime system where its releases are for different versions of it, or where an application asks for one.
abbrev pub changes_runtime : Direction → RelupReleaseForm → RelupReleaseForm → Bool
changes_runtime d new other = not (bytes_eq new.erts other.erts) || list_any (app_asks d other) new.apps

-- the restart of another runtime system, before all else
abbrev pub at_start : Bool → List Instruction → List Instruction
at_start true is = restart_new_emulator ∷ is
at_start false is = is

-- whether an instruction restarts the runtime system
abbrev pub is_restart : Instruction → Bool
is_restart restart_emulator = true
is_restart i = false

-- one restart after all else, and no other
abbrev pub at_end : Bool → List Instruction → List Instruction
at_end true is = filter (λ (i : Instruction). not (is_restart i)) is ++ (restart_emulator ∷ [])
at_end false is = is

-- the script of a way that may lead to another runtime system, and at whose end a restart may be asked for: up the other one runs from
-- the start on, and down from the end
abbrev pub renewed : Bool → Direction → Bool → List Instruction → List Instruction
renewed asked Up changes is = at_end asked (at_start changes is)
renewed asked Down changes is = at_end (asked || changes) is
