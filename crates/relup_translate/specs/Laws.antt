-- Laws of the translation, above its definition.
use Rattle.std.specs.Prelude.{◌≡◌, ◌↔◌, ℕ, ◌&&◌, ◌||◌, not, IsTrue, List, [], ◌∷◌, ◌++◌, map, None, Some, IfSome, Ok, Err, bytes_eq}
use Rattle.std.specs.List.{AllByRecursion, IsDistinct, flat_map}
use Rattle.erl_term.specs.Value.Value.{list}
use Rattle.erl_term.specs.Value.Values.{no_values}
use Rattle.relup_instruction.specs.declared.instruction.Direction.{Direction}
use Rattle.relup_instruction.specs.declared.instruction.Direction.TheVariants.{Up, Down}
use Rattle.relup_instruction.specs.Instruction.{FetchForm, Instruction}
use Rattle.relup_instruction.specs.Instruction.Instruction.{load_object_code, point_of_no_return, load}
use Rattle.relup_file.specs.Form.{IsRelup}
use Rattle.relup_file.specs.Relup.{EntryForm, RelupForm}
use Rattle.relup_file.specs.declared.script_fault.ScriptFault.{ScriptFault}
use Rattle.relup_file.specs.declared.script_fault.ScriptFault.TheVariants.{Unsupported}
use Rattle.relup_file.specs.Script.{may_follow, is_restart, is_end, IsScriptFault}
use Rattle.appup_file.specs.Instruction.{AppupInstruction, AppupEntryForm, AppupForm}
use Rattle.appup_file.specs.Instruction.AppupInstruction.{add_application, remove_application, low_level}
use Rattle.appup_file.specs.Search.{entries_of, entry_for}
use Rattle.relup_block.specs.Order.{is_among}
use Rattle.relup_row.specs.Release.{RelupAppForm, RelupReleaseForm, WayForm, way_between, app_named}
use Rattle.relup_row.specs.Script.{row_script}
use Rattle.relup_row.specs.Laws.{app_names}
use Rattle.relup_translate.specs.Fault.{FaultForm}
use Rattle.relup_translate.specs.Translation.{instruction_fault, way_fault, way_script, relup_between, translation}
use Rattle.relup_translate.specs.WellFormed.{IsWellFormedRelease, HasWellFormedAppups}

-- the ways of a relup: its upgrades, then its downgrades
abbrev pub ways : RelupReleaseForm → List RelupReleaseForm → List RelupReleaseForm → List WayForm
ways new ups downs = map (way_between Up new) ups ++ map (way_between Down new) downs

-- None of these ways has a fault.
abbrev pub AreSound : List WayForm → Type 0
AreSound = AllByRecursion (λ w. way_fault w ≡ None)

-- The first of these ways that has a fault has this one.
pub record IsFirstFault (ws : List WayForm) (f : FaultForm) : Type 0 where
  pub before : List WayForm
  pub wrong : WayForm
  pub after : List WayForm
  pub is : ws ≡ before ++ (wrong ∷ after)
  pub sound : AreSound before
  pub fault : way_fault wrong ≡ Some f

-- the versions of releases, and those of a relup's entries
abbrev pub versions : List RelupReleaseForm → List (List ℕ)
versions = map (λ (r : RelupReleaseForm). r.vsn)

abbrev pub entry_versions : List EntryForm → List (List ℕ)
entry_versions = map (λ (e : EntryForm). e.vsn)

-- A relup is made exactly where no way has a fault, and it is this one.
abbrev pub MakesSoundWays : Type 0
MakesSoundWays = (new : RelupReleaseForm) (ups downs : List RelupReleaseForm) (r : RelupForm)
    → (translation new ups downs ≡ Ok r) ↔ (AreSound (ways new ups downs) × (r ≡ relup_between new ups downs))

-- A refusal is the first fault.
abbrev pub RefusesFirstFault : Type 0
RefusesFirstFault = (new : RelupReleaseForm) (ups downs : List RelupReleaseForm) (f : FaultForm)
    → (translation new ups downs ≡ Err f) ↔ IsFirstFault (ways new ups downs) f

-- the one of the higher release, of two versions of an application, and the other one
abbrev pub higher : Direction → RelupAppForm → RelupAppForm → RelupAppForm
higher Up left target = target
higher Down left target = left

abbrev pub lower : Direction → RelupAppForm → RelupAppForm → RelupAppForm
lower Up left target = left
lower Down left target = target

-- An application goes from one version to another by the appup of the higher one. It is of that version, and has instructions
-- for the lower one, in which there is no fault.
pub record GoesOver (w : WayForm) (left target : RelupAppForm) : Type 0 where
  pub appup : AppupForm
  pub instrs : List AppupInstruction
  pub has : (higher w.direction left target).appup ≡ Some appup
  pub counts : appup.vsn ≡ (higher w.direction left target).vsn
  pub entry : entry_for (lower w.direction left target).vsn (entries_of w.direction appup) ≡ Ok instrs
  pub sound : AllByRecursion (λ (i : AppupInstruction). instruction_fault w left i ≡ None) instrs

-- The runtime system stays as it is, and each application that the target has in another version goes over to it.
pub record IsWhole (w : WayForm) : Type 0 where
  pub erts : w.left.erts ≡ w.target.erts
  pub each : AllByRecursion (λ (a : RelupAppForm). (b : RelupAppForm) → app_named a.name w.left ≡ Some b → (b.vsn ≡ a.vsn → ⊥) → GoesOver w b a) w.target.apps

-- A way has no fault exactly where it is whole.
abbrev pub SoundIsWhole : Type 0
SoundIsWhole = (w : WayForm) → (way_fault w ≡ None) ↔ IsWhole w

-- The instructions stand in the script after its point of no return, one right after another.
pub record StandsBehindPoint (script part : List Instruction) : Type 0 where
  pub front : List Instruction
  pub between : List Instruction
  pub rest : List Instruction
  pub is : script ≡ front ++ (point_of_no_return ∷ (between ++ (part ++ rest)))

-- The script of a way has all that its changes become: of an application that the target alone has, of one that goes over to its
-- version, and of one that the target hasn't.
pub record ChangesAll (w : WayForm) : Type 0 where
  pub comes : AllByRecursion (λ (a : RelupAppForm). app_named a.name w.left ≡ None
      → StandsBehindPoint (way_script w) (row_script w (add_application (record { name = a.name; start = a.start }) ∷ []))) w.target.apps
  pub changes : AllByRecursion (λ (a : RelupAppForm). (b : RelupAppForm) → app_named a.name w.left ≡ Some b → (b.vsn ≡ a.vsn → ⊥)
      → (g : GoesOver w b a) → StandsBehindPoint (way_script w) (row_script w g.instrs)) w.target.apps
  pub goes : AllByRecursion (λ (b : RelupAppForm). app_named b.name w.target ≡ None
      → StandsBehindPoint (way_script w) (row_script w (remove_application b.name ∷ []))) w.left.apps

abbrev pub ScriptsChangeAll : Type 0
ScriptsChangeAll = (w : WayForm) → ChangesAll w

-- A made relup is of the higher release's version, with an entry for each of the others, in their order, under its version.
abbrev pub HasEachEntry : Type 0
HasEachEntry = (new : RelupReleaseForm) (ups downs : List RelupReleaseForm) (r : RelupForm)
    → translation new ups downs ≡ Ok r
    → (r.vsn ≡ new.vsn) × (entry_versions r.ups ≡ versions ups) × (entry_versions r.downs ≡ versions downs)

-- The instruction fetches modules.
abbrev pub Fetches : Instruction → Type 0
Fetches i = (f : FetchForm) × (i ≡ load_object_code f)

-- One point of no return parts the script: before it stand fetches alone, and after it each instruction where it may stand, a
-- restart at the end alone.
pub record IsParted (script : List Instruction) : Type 0 where
  pub before : List Instruction
  pub after : List Instruction
  pub is : script ≡ before ++ (point_of_no_return ∷ after)
  pub fetches : AllByRecursion Fetches before
  pub stands : (front rest : List Instruction) (i : Instruction) → after ≡ front ++ (i ∷ rest) → IsTrue (may_follow i && (is_end rest || not (is_restart i)))

-- Each script of a relup that is made is parted in this way.
abbrev pub PartsScripts : Type 0
PartsScripts = (new : RelupReleaseForm) (ups downs : List RelupReleaseForm) (r : RelupForm)
    → translation new ups downs ≡ Ok r
    → AllByRecursion (λ (e : EntryForm). IsParted e.script) (r.ups ++ r.downs)

-- the modules that an instruction fetches
abbrev pub fetched_modules : Instruction → List (List ℕ)
fetched_modules (load_object_code f) = f.modules
fetched_modules i = []

-- The module that an instruction loads, if it loads one, is among these.
abbrev pub LoadsAmong : List (List ℕ) → Instruction → Type 0
LoadsAmong names (load p) = IsTrue (is_among p.name names)
LoadsAmong names i = Unit {0}

-- The script fetches each module that it loads.
abbrev pub FetchesItsLoads : List Instruction → Type 0
FetchesItsLoads script = AllByRecursion (LoadsAmong (flat_map fetched_modules script)) script

-- An instruction of an appup isn't a `load` that is written out.
abbrev pub WritesNoLoad : AppupInstruction → Type 0
WritesNoLoad (low_level (load p)) = ⊥
WritesNoLoad i = Unit {0}

abbrev pub EntriesWriteNoLoad : List AppupEntryForm → Type 0
EntriesWriteNoLoad = AllByRecursion (λ (e : AppupEntryForm). AllByRecursion WritesNoLoad e.instrs)

-- the appups of a release
abbrev pub AppupsWriteNoLoad : RelupReleaseForm → Type 0
AppupsWriteNoLoad r = AllByRecursion (λ (a : RelupAppForm). IfSome a.appup (λ (p : AppupForm). EntriesWriteNoLoad p.ups × EntriesWriteNoLoad p.downs)) r.apps

-- Where the appups leave loading to their high-level instructions, each script that is made fetches what it loads.
abbrev pub FetchesLoads : Type 0
FetchesLoads = (new : RelupReleaseForm) (ups downs : List RelupReleaseForm) (r : RelupForm)
    → AppupsWriteNoLoad new → translation new ups downs ≡ Ok r
    → AllByRecursion (λ (e : EntryForm). FetchesItsLoads e.script) (r.ups ++ r.downs)

-- The fault of a script, if it has one, is an instruction that can't be run anywhere.
abbrev pub HasOnlyUnsupported : List Instruction → Type 0
HasOnlyUnsupported script = (f : ScriptFault) → IsScriptFault script f → (n : ℕ) × (f ≡ Unsupported n)

abbrev pub StandsRight : Type 0
StandsRight = (new : RelupReleaseForm) (ups downs : List RelupReleaseForm) (r : RelupForm)
    → translation new ups downs ≡ Ok r
    → AllByRecursion (λ (e : EntryForm). HasOnlyUnsupported e.script) (r.ups ++ r.downs)

-- the entry that changes nothing
abbrev pub idle : RelupReleaseForm → EntryForm
idle r = record { vsn = r.vsn; descr = list no_values; script = point_of_no_return ∷ [] }

-- From a release to itself nothing changes.
abbrev pub StaysItself : Type 0
StaysItself = (r : RelupReleaseForm) → IsDistinct bytes_eq (app_names r)
    → translation r (r ∷ []) (r ∷ []) ≡ Ok (record { vsn = r.vsn; ups = idle r ∷ []; downs = idle r ∷ [] })

-- The names in a made relup are names, its versions are versions, and no script is empty, where it is so of what it is made of.
abbrev pub MadeRelupsAreNamed : Type 0
MadeRelupsAreNamed = (new : RelupReleaseForm) (ups downs : List RelupReleaseForm) (r : RelupForm)
    → IsWellFormedRelease new → HasWellFormedAppups new → AllByRecursion IsWellFormedRelease ups → AllByRecursion IsWellFormedRelease downs
    → translation new ups downs ≡ Ok r → IsRelup r
