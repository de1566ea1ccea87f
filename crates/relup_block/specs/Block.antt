-- The instructions of a block: consecutive updates and loads of modules, which are made together (OTP: appup(4)).
-- Which of them make a block, and their order, are this project's own.
use Rattle.std.specs.Prelude.{ℕ, Bool, true, false, not, List, [], ◌∷◌, ◌++◌, map, reverse, Option, None, Some, filter}
use Rattle.std.specs.List.{filter_map}
use Rattle.relup_instruction.specs.declared.instruction.Timeout.{Timeout}
use Rattle.relup_instruction.specs.declared.instruction.Timeout.TheVariants.{Default}
use Rattle.relup_instruction.specs.declared.instruction.Direction.{Direction}
use Rattle.relup_instruction.specs.declared.instruction.Direction.TheVariants.{Up, Down}
use Rattle.relup_instruction.specs.Instruction.{SuspensionForm, PurgingForm, ChangeForm, Instruction}
use Rattle.relup_instruction.specs.Instruction.Instruction.{suspend, load, code_change, resume}
use Rattle.appup_file.specs.declared.instruction.ModType.{ModType}
use Rattle.appup_file.specs.declared.instruction.ModType.TheVariants.{Static, Dynamic}
use Rattle.appup_file.specs.Instruction.{ChangeForm as StateForm}
use Rattle.appup_file.specs.Instruction.ChangeForm.{soft, advanced}
use Rattle.relup_block.specs.declared.order.ChoiceRule.TheVariants.{DependentsFirst, DependenciesFirst}
use Rattle.relup_block.specs.Order.{BlockItemForm, order}
use Rattle.relup_block.specs.Order.BlockItemForm.{updated, loaded}

-- a timeout, where it is not the default
abbrev pub written_timeout : Timeout → Option Timeout
written_timeout Default = None
written_timeout t = Some t

-- the suspension of a module that is updated
abbrev pub suspension : BlockItemForm → Option SuspensionForm
suspension (updated u) = Some (record { name = u.name; timeout = written_timeout u.timeout })
suspension (loaded l) = None

-- the name by which a module that is updated is resumed
abbrev pub resumption : BlockItemForm → Option (List ℕ)
resumption (updated u) = Some u.name
resumption (loaded l) = None

-- the change of state of an advanced update
abbrev pub change_to : List ℕ → StateForm → Option ChangeForm
change_to name soft = None
change_to name (advanced extra) = Some (record { name = name; extra = extra })

abbrev pub change : BlockItemForm → Option ChangeForm
change (updated u) = change_to u.name u.change
change (loaded l) = None

abbrev pub purging : BlockItemForm → PurgingForm
purging (updated u) = record { name = u.name; pre = u.pre; post = u.post }
purging (loaded l) = record { name = l.name; pre = l.pre; post = l.post }

abbrev pub is_static_type : ModType → Bool
is_static_type Static = true
is_static_type Dynamic = false

-- the update of a static module
abbrev pub is_static : BlockItemForm → Bool
is_static (updated u) = is_static_type u.mod_type
is_static (loaded l) = false

abbrev pub is_of_kind : Bool → BlockItemForm → Bool
is_of_kind true x = is_static x
is_of_kind false x = not (is_static x)

-- an instruction over a list, none where the list is empty
abbrev pub over : {A : Type 0} → (List A → Instruction) → List A → List Instruction
over f [] = []
over f (a ∷ as') = f (a ∷ as') ∷ []

abbrev pub suspending : List BlockItemForm → List Instruction
suspending xs = over suspend (filter_map suspension xs)

abbrev pub loading : List BlockItemForm → List Instruction
loading = map (λ (x : BlockItemForm). load (purging x))

abbrev pub changing : Direction → List BlockItemForm → List Instruction
changing direction xs = over (λ cs. code_change (record { mode = Some direction; changes = cs })) (filter_map change xs)

-- in the reverse order of suspending
abbrev pub resuming : List BlockItemForm → List Instruction
resuming xs = over resume (reverse (filter_map resumption xs))

-- Going up, code is loaded before states are changed. Going down, that of static modules is loaded before it, and all other
-- code after it: that of dynamic modules, and of modules that are loaded without an update.
abbrev pub updating : Direction → List BlockItemForm → List Instruction
updating Up xs = loading xs ++ changing Up xs
updating Down xs = loading (filter (is_of_kind true) xs) ++ (changing Down xs ++ loading (filter (is_of_kind false) xs))

-- A block suspends in one order, and loads and changes in the other.
abbrev pub in_orders : Direction → List BlockItemForm → List BlockItemForm → List Instruction
in_orders direction suspended xs = suspending suspended ++ (updating direction xs ++ resuming suspended)

-- Going up, what depends on others is suspended first and loaded last; going down the other way round.
abbrev pub block : Direction → List BlockItemForm → List Instruction
block Up xs = in_orders Up (order DependentsFirst xs) (order DependenciesFirst xs)
block Down xs = in_orders Down (order DependenciesFirst xs) (order DependentsFirst xs)
