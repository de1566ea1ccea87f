-- The relup between releases that the appups of the higher one say (OTP: systools:make_relup/3; the order of applications is this
-- project's own).
use Rattle.std.specs.Prelude.{ℕ, Bool, true, false, List, [], ◌∷◌, ◌++◌, map, reverse, Option, None, Some, is_some, Result, Ok, Err, if◌then◌else◌}
use Rattle.std.specs.List.{filter_map}
use Rattle.std.specs.Option.{option_and_then, option_or}
use Rattle.std.specs.Result.{result_ok}
use Rattle.std.specs.Str.{bytes_eq}
use Rattle.erl_term.specs.Value.Value.{list}
use Rattle.erl_term.specs.Value.Values.{no_values}
use Rattle.relup_instruction.specs.declared.instruction.Direction.{Direction}
use Rattle.relup_instruction.specs.declared.instruction.Direction.TheVariants.{Up, Down}
use Rattle.relup_instruction.specs.Instruction.{Instruction}
use Rattle.relup_instruction.specs.Instruction.Instruction.{point_of_no_return, restart_new_emulator}
use Rattle.relup_file.specs.Relup.{EntryForm, RelupForm}
use Rattle.appup_file.specs.declared.search.EntryFault.{EntryFault}
use Rattle.appup_file.specs.declared.search.EntryFault.TheVariants.{NoEntry, RegexVersion}
use Rattle.appup_file.specs.Instruction.{AppupInstruction, AppupForm}
use Rattle.appup_file.specs.Instruction.AppupInstruction.{update, load_module, add_module, delete_module, add_application, remove_application, restart_application, low_level}
use Rattle.appup_file.specs.Search.{entries_of, entry_for}
use Rattle.relup_translate.specs.declared.error.TranslateError.{TranslateError}
use Rattle.relup_translate.specs.declared.error.TranslateError.TheVariants.{NoMemory}
use Rattle.relup_block.specs.Order.{is_among}
use Rattle.relup_row.specs.Release.{RelupAppForm, RelupReleaseForm, WayForm, way_between, app_named, owner}
use Rattle.relup_row.specs.Script.{script}
use Rattle.relup_translate.specs.Fault.{FaultForm, Says}
use Rattle.relup_translate.specs.Fault.FaultForm.{no_appup, no_entry, unknown_module, regex_version, needs_new_emulator, unsupported}

-- refused for this fault, unless what is asked for is known
abbrev pub known : Bool → FaultForm → Option FaultForm
known true f = None
known false f = Some f

abbrev pub target_has_module : WayForm → List ℕ → Option FaultForm
target_has_module w name = known (is_some (owner name w.target)) (unknown_module name)

abbrev pub target_has_app : WayForm → List ℕ → List ℕ → Option FaultForm
target_has_app w app asked = known (is_some (app_named app w.target)) (unsupported asked)

abbrev pub left_has_app : WayForm → List ℕ → List ℕ → Option FaultForm
left_has_app w app asked = known (is_some (app_named app w.left)) (unsupported asked)

abbrev pub low_level_fault : List ℕ → Instruction → Option FaultForm
low_level_fault asked point_of_no_return = Some (unsupported asked)
low_level_fault asked restart_new_emulator = Some needs_new_emulator
low_level_fault asked i = None

abbrev pub deleted_fault : RelupAppForm → List ℕ → Option FaultForm
deleted_fault b name = known (is_among name b.modules) (unknown_module name)

abbrev pub restart_fault : WayForm → List ℕ → List ℕ → Option FaultForm
restart_fault w app asked = option_or (left_has_app w app asked) (target_has_app w app asked)

-- why an instruction can't be translated, in the appup of an application that is left in this version
abbrev pub instruction_fault : WayForm → RelupAppForm → AppupInstruction → Option FaultForm
instruction_fault w b (update u) = target_has_module w u.name
instruction_fault w b (load_module l) = target_has_module w l.name
instruction_fault w b (add_module d) = target_has_module w d.name
instruction_fault w b (delete_module d) = deleted_fault b d.name
instruction_fault w b (add_application a) = target_has_app w a.name b.name
instruction_fault w b (remove_application app) = left_has_app w app b.name
instruction_fault w b (restart_application app) = restart_fault w app b.name
instruction_fault w b (low_level i) = low_level_fault b.name i

-- the first fault of a list
abbrev pub first_fault : {A : Type 0} → (A → Option FaultForm) → List A → Option FaultForm
first_fault f [] = None
first_fault f (a ∷ as') = option_or (f a) (first_fault f as')

-- an appup counts where it is of its application's version
abbrev pub counting : RelupAppForm → AppupForm → Option AppupForm
counting a p = if bytes_eq p.vsn a.vsn then Some p else None

abbrev pub counting_appup : RelupAppForm → Option AppupForm
counting_appup a = option_and_then (counting a) a.appup

abbrev pub entry_fault : List ℕ → List ℕ → EntryFault → FaultForm
entry_fault app vsn NoEntry = no_entry app vsn
entry_fault app vsn RegexVersion = regex_version app

abbrev pub found : List ℕ → List ℕ → Result (List AppupInstruction) EntryFault → Result (List AppupInstruction) FaultForm
found app vsn (Ok is) = Ok is
found app vsn (Err e) = Err (entry_fault app vsn e)

abbrev pub searched : Direction → List ℕ → List ℕ → Option AppupForm → Result (List AppupInstruction) FaultForm
searched direction app vsn None = Err (no_appup app)
searched direction app vsn (Some p) = found app vsn (entry_for vsn (entries_of direction p))

-- the instructions that the appup of an application has for another version
abbrev pub by_appup : Direction → RelupAppForm → List ℕ → Result (List AppupInstruction) FaultForm
by_appup direction a vsn = searched direction a.name vsn (counting_appup a)

-- from an application to another version of it, by the appup of the higher release
abbrev pub between_versions : Direction → RelupAppForm → RelupAppForm → Result (List AppupInstruction) FaultForm
between_versions Up b a = by_appup Up a b.vsn
between_versions Down b a = by_appup Down b a.vsn

-- another version of an application
abbrev pub if_other : RelupAppForm → RelupAppForm → Option RelupAppForm
if_other a b = if bytes_eq b.vsn a.vsn then None else Some b

-- the other version in which an application of the target is left
abbrev pub other_version : WayForm → RelupAppForm → Option RelupAppForm
other_version w a = option_and_then (if_other a) (app_named a.name w.left)

-- whether there is an entry, and whether its instructions can be translated
abbrev pub row_fault : WayForm → RelupAppForm → Result (List AppupInstruction) FaultForm → Option FaultForm
row_fault w b (Err f) = Some f
row_fault w b (Ok is) = first_fault (instruction_fault w b) is

abbrev pub app_fault : WayForm → RelupAppForm → Option FaultForm
app_fault w a = option_and_then (λ (b : RelupAppForm). row_fault w b (between_versions w.direction b a)) (other_version w a)

-- Another version of the runtime system is refused first, then what the applications ask, in the target's order.
abbrev pub way_fault : WayForm → Option FaultForm
way_fault w =
    if bytes_eq w.left.erts w.target.erts then first_fault (app_fault w) w.target.apps
    else Some needs_new_emulator

-- the row by which an application comes that the target alone has
abbrev pub coming_row : WayForm → RelupAppForm → Option (List AppupInstruction)
coming_row w a =
    if is_some (app_named a.name w.left) then None
    else Some (add_application (record { name = a.name; start = a.start }) ∷ [])

-- the row of an application of the target that the release that is left has in another version
abbrev pub changing_row : WayForm → RelupAppForm → Option (List AppupInstruction)
changing_row w a = option_and_then (λ (b : RelupAppForm). result_ok (between_versions w.direction b a)) (other_version w a)

-- the row by which an application goes that the target has not
abbrev pub going_row : WayForm → RelupAppForm → Option (List AppupInstruction)
going_row w b =
    if is_some (app_named b.name w.target) then None
    else Some (remove_application b.name ∷ [])

abbrev pub rows : WayForm → List (List AppupInstruction)
rows w =
    filter_map (coming_row w) w.target.apps
    ++ (filter_map (changing_row w) w.target.apps
    ++ reverse (filter_map (going_row w) w.left.apps))

-- the script of a way
abbrev pub way_script : WayForm → List Instruction
way_script w = script w (rows w)

-- the entry for another release, described by []
abbrev pub entry : Direction → RelupReleaseForm → RelupReleaseForm → EntryForm
entry direction new other = record { vsn = other.vsn; descr = list no_values; script = way_script (way_between direction new other) }

abbrev pub release_fault : Direction → RelupReleaseForm → RelupReleaseForm → Option FaultForm
release_fault direction new other = way_fault (way_between direction new other)

-- The first fault is reported: of the upgrades, then of the downgrades, release by release.
abbrev pub fault_between : RelupReleaseForm → List RelupReleaseForm → List RelupReleaseForm → Option FaultForm
fault_between new ups downs = option_or (first_fault (release_fault Up new) ups) (first_fault (release_fault Down new) downs)

abbrev pub relup_between : RelupReleaseForm → List RelupReleaseForm → List RelupReleaseForm → RelupForm
relup_between new ups downs = record { vsn = new.vsn; ups = map (entry Up new) ups; downs = map (entry Down new) downs }

abbrev pub unless_fault : {A : Type 0} → A → Option FaultForm → Result A FaultForm
unless_fault a None = Ok a
unless_fault a (Some f) = Err f

-- The translation: a relup, or the first fault.
abbrev pub translation : RelupReleaseForm → List RelupReleaseForm → List RelupReleaseForm → Result RelupForm FaultForm
translation new ups downs = unless_fault (relup_between new ups downs) (fault_between new ups downs)

-- The error is the fault that the translation is, or out of memory.
abbrev pub Refuses : Result RelupForm FaultForm → TranslateError → Type 0
Refuses t NoMemory = Unit {0}
Refuses (Ok r) e = ⊥
Refuses (Err f) e = Says e f
