-- The scripts of a relup before they are translated, as systools judges them.
use Rattle.std.specs.Prelude.{ℕ, List, [], ◌++◌, map, Option, None, Some, is_some, if◌then◌else◌}
use Rattle.std.specs.List.{filter_map, flat_map}
use Rattle.relup_instruction.specs.declared.instruction.Direction.{Direction}
use Rattle.relup_instruction.specs.declared.instruction.Direction.TheVariants.{Up, Down}
use Rattle.appup_file.specs.Instruction.{AppupInstruction}
use Rattle.appup_file.specs.Instruction.AppupInstruction.{add_application}
use Rattle.relup_lint.specs.Script.{PlacedForm, TargetForm, ScriptForm, placed}
use Rattle.relup_row.specs.Release.{RelupAppForm, RelupReleaseForm, WayForm, way_between, app_named}
use Rattle.runtime_change.specs.Runtime.{row_between}

-- the instruction that an application is where the target alone has it
abbrev pub coming : WayForm → RelupAppForm → Option AppupInstruction
coming w a = if is_some (app_named a.name w.left) then None else Some (add_application (record { name = a.name; start = a.start }))

abbrev pub all_coming : WayForm → List AppupInstruction
all_coming w = filter_map (coming w) w.target.apps

-- the instructions of an application, each with its number
abbrev pub row_placed : List ℕ → Option (List AppupInstruction) → List PlacedForm
row_placed app None = []
row_placed app (Some row) = placed app 1 row

abbrev pub app_placed : Direction → RelupReleaseForm → RelupAppForm → List PlacedForm
app_placed d other a = row_placed a.name (row_between d other a)

-- an application as a target
abbrev pub target_app : RelupAppForm → TargetForm
target_app a = record { name = a.name; vsn = a.vsn; modules = a.modules }

-- The script between a release and another one: the applications that come, under no application's name, and then the entries that
-- the others take.
abbrev pub script_between : Direction → RelupReleaseForm → RelupReleaseForm → ScriptForm
script_between d new other = record {
  instrs = placed [] 1 (all_coming (way_between d new other)) ++ flat_map (app_placed d other) new.apps;
  target = map target_app (way_between d new other).target.apps;
}

-- the scripts of a relup, those of the upgrades first
abbrev pub scripts : RelupReleaseForm → List RelupReleaseForm → List RelupReleaseForm → List ScriptForm
scripts new ups downs = map (script_between Up new) ups ++ map (script_between Down new) downs
