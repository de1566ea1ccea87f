-- What the instructions of an appup become in a script (OTP: appup(4)).
use Rattle.std.specs.Prelude.{ℕ, Bool, true, false, List, [], ◌∷◌, ◌++◌, map, Option, None, Some, codes, if◌then◌else◌}
use Rattle.std.specs.List.{filter_map, flat_map, list_any}
use Rattle.erl_term.specs.Value.{Values}
use Rattle.erl_term.specs.Value.Value.{atom}
use Rattle.erl_term.specs.Value.Values.{no_values, value}
use Rattle.rel_files.specs.declared.release.StartType.{StartType}
use Rattle.rel_files.specs.declared.release.StartType.TheVariants.{Load, Unloaded}
use Rattle.rel_files.specs.Form.{start_word}
use Rattle.relup_instruction.specs.declared.instruction.PurgeMode.TheVariants.{Brutal}
use Rattle.relup_instruction.specs.Instruction.{PurgingForm, Instruction}
use Rattle.relup_instruction.specs.Instruction.Instruction.{load_object_code, point_of_no_return, load, remove, purge, apply, restart_emulator}
use Rattle.appup_file.specs.Instruction.{AppupInstruction}
use Rattle.appup_file.specs.Instruction.AppupInstruction.{update, load_module, add_module, delete_module, add_application, remove_application, restart_application, low_level}
use Rattle.relup_row.specs.Release.{RelupAppForm, RelupReleaseForm, WayForm, app_named}
use Rattle.relup_block.specs.Order.{BlockItemForm}
use Rattle.relup_block.specs.Order.BlockItemForm.{updated, loaded}
use Rattle.relup_block.specs.Block.{block}
use Rattle.relup_row.specs.Fetches.{MentionForm, mention, fetching}

-- a module with the default words
abbrev pub plain_purging : List ℕ → PurgingForm
plain_purging name = record { name = name; pre = Brutal; post = Brutal }

abbrev pub load_plainly : List ℕ → Instruction
load_plainly name = load (plain_purging name)

abbrev pub remove_plainly : List ℕ → Instruction
remove_plainly name = remove (plain_purging name)

-- {apply, {application, Function, Args}}
abbrev pub application_call : List ℕ → Values → Instruction
application_call function args = apply (record { name = codes "application"; function = function; args = args })

-- of one application
abbrev pub call_with : List ℕ → List ℕ → Instruction
call_with function app = application_call function (value (atom app) no_values)

abbrev pub start_call : StartType → List ℕ → Instruction
start_call start app = application_call (codes "start") (value (atom app) (value (atom (start_word start)) no_values))

-- started with its type, loaded alone, or neither
abbrev pub starting : StartType → List ℕ → List Instruction
starting Load app = call_with (codes "load") app ∷ []
starting Unloaded app = []
starting start app = start_call start app ∷ []

-- An application comes: its modules are loaded, then it is started.
abbrev pub coming : StartType → RelupAppForm → List Instruction
coming start a = map load_plainly a.modules ++ starting start a.name

-- Its modules leave: they are removed, and purged together.
abbrev pub leaving : List (List ℕ) → List Instruction
leaving names = map remove_plainly names ++ (purge names ∷ [])

-- the instructions that stop an application: it is stopped, and its modules leave
abbrev pub stopping : RelupAppForm → List Instruction
stopping a = (call_with (codes "stop") a.name ∷ []) ++ leaving a.modules

-- the instructions by which an application leaves the release: it is stopped, its modules leave, and then it is unloaded
abbrev pub going : RelupAppForm → List Instruction
going a = stopping a ++ (call_with (codes "unload") a.name ∷ [])

-- what is made of an application, if there is one
abbrev pub of_app : {A : Type 0} → (RelupAppForm → List A) → Option RelupAppForm → List A
of_app f None = []
of_app f (Some a) = f a

abbrev pub restarting : WayForm → List ℕ → List Instruction
restarting w app = of_app stopping (app_named app w.left) ++ of_app (λ (a : RelupAppForm). coming a.start a) (app_named app w.target)

abbrev pub deleting : List ℕ → List Instruction
deleting name = remove_plainly name ∷ purge (name ∷ []) ∷ []

-- A written `load_object_code` stands elsewhere, and a `restart_emulator` too.
abbrev pub in_place : Instruction → List Instruction
in_place (load_object_code f) = []
in_place restart_emulator = []
in_place i = i ∷ []

-- what an instruction outside a block becomes, after the point of no return
abbrev pub single : WayForm → AppupInstruction → List Instruction
single w (update u) = []
single w (load_module l) = []
single w (add_module d) = load_plainly d.name ∷ []
single w (delete_module d) = deleting d.name
single w (add_application a) = of_app (coming a.start) (app_named a.name w.target)
single w (remove_application app) = of_app going (app_named app w.left)
single w (restart_application app) = restarting w app
single w (low_level i) = in_place i

-- an instruction that belongs to a block
abbrev pub block_item : AppupInstruction → Option BlockItemForm
block_item (update u) = Some (updated u)
block_item (load_module l) = Some (loaded l)
block_item i = None

-- A row of instructions is blocks, each as long as can be, and single instructions.
pub data PartForm : Type 0 where
  a_block : List BlockItemForm → PartForm
  a_single : AppupInstruction → PartForm

abbrev pub put_item : BlockItemForm → List PartForm → List PartForm
put_item x (a_block xs ∷ ps) = a_block (x ∷ xs) ∷ ps
put_item x ps = a_block (x ∷ []) ∷ ps

abbrev pub put : AppupInstruction → Option BlockItemForm → List PartForm → List PartForm
put i (Some x) ps = put_item x ps
put i None ps = a_single i ∷ ps

abbrev pub parts : List AppupInstruction → List PartForm
parts [] = []
parts (i ∷ is) = put i (block_item i) (parts is)

abbrev pub part_script : WayForm → PartForm → List Instruction
part_script w (a_block xs) = block w.direction xs
part_script w (a_single i) = single w i

-- what a row becomes, after the point of no return
abbrev pub row_script : WayForm → List AppupInstruction → List Instruction
row_script w is = flat_map (part_script w) (parts is)

-- the modules of the application of a name
abbrev pub app_modules : List ℕ → RelupReleaseForm → List (List ℕ)
app_modules app r = of_app (λ (a : RelupAppForm). a.modules) (app_named app r)

-- the modules that an instruction loads, in the order in which it mentions them
abbrev pub loaded_by : WayForm → AppupInstruction → List (List ℕ)
loaded_by w (update u) = u.name ∷ []
loaded_by w (load_module l) = l.name ∷ []
loaded_by w (add_module d) = d.name ∷ []
loaded_by w (add_application a) = app_modules a.name w.target
loaded_by w (restart_application app) = app_modules app w.target
loaded_by w i = []

abbrev pub mentions_by : WayForm → AppupInstruction → List MentionForm
mentions_by w i = filter_map (mention w.target) (loaded_by w i)

abbrev pub mentions : WayForm → List AppupInstruction → List MentionForm
mentions w = flat_map (mentions_by w)

-- the `load_object_code` that the appup itself has
abbrev pub written_fetch : AppupInstruction → List Instruction
written_fetch (low_level (load_object_code f)) = load_object_code f ∷ []
written_fetch i = []

abbrev pub written_fetches : List AppupInstruction → List Instruction
written_fetches = flat_map written_fetch

-- The appup asks for a restart of the runtime system.
abbrev pub asks_restart : AppupInstruction → Bool
asks_restart (low_level restart_emulator) = true
asks_restart i = false

-- However often rows ask for it, it is the last instruction, once.
abbrev pub restart_at_end : List (List AppupInstruction) → List Instruction
restart_at_end rows = if list_any (list_any asks_restart) rows then restart_emulator ∷ [] else []

-- the script of rows of instructions, one for each application that changes
abbrev pub script : WayForm → List (List AppupInstruction) → List Instruction
script w rows =
    fetching (flat_map (mentions w) rows)
    ++ (flat_map written_fetches rows
    ++ (point_of_no_return ∷ (flat_map (row_script w) rows ++ restart_at_end rows)))
