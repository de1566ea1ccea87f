-- Laws of blocks, above the definition of their instructions.
use Rattle.std.specs.Prelude.{◌≡◌, ℕ, ◌<◌, Bool, true, false, List, [], ◌∷◌, ◌++◌, map, reverse, filter, Some, IsPermutation}
use Rattle.relup_instruction.specs.declared.instruction.Direction.{Direction}
use Rattle.relup_instruction.specs.declared.instruction.Direction.TheVariants.{Up, Down}
use Rattle.relup_instruction.specs.Instruction.{SuspensionForm, PurgingForm, ChangeForm, ConversionForm, Instruction}
use Rattle.relup_instruction.specs.Instruction.Instruction.{suspend, load, code_change, resume}
use Rattle.std.specs.List.{AllByRecursion, filter_map, flat_map}
use Rattle.relup_block.specs.declared.order.ChoiceRule.{ChoiceRule}
use Rattle.relup_block.specs.declared.order.ChoiceRule.TheVariants.{DependentsFirst, DependenciesFirst}
use Rattle.relup_block.specs.Order.{BlockItemForm, must_wait_for, is_free, order}
use Rattle.relup_block.specs.Block.{suspension, change, purging, is_of_kind, block}

-- what an instruction loads
abbrev pub load_by : Instruction → List PurgingForm
load_by (load p) = p ∷ []
load_by i = []

-- the states that an instruction changes
abbrev pub changed_by : Instruction → List ChangeForm
changed_by (code_change c) = c.changes
changed_by i = []

-- the modules that an instruction suspends, with how long it waits for each
abbrev pub suspended_by : Instruction → List SuspensionForm
suspended_by (suspend ss) = ss
suspended_by i = []

-- the modules that an instruction resumes
abbrev pub resumed_by : Instruction → List (List ℕ)
resumed_by (resume names) = names
resumed_by i = []

-- The instructions load these modules, each once, with its own words.
abbrev pub Loads : List BlockItemForm → List Instruction → Type 0
Loads xs is = IsPermutation (map purging xs) (flat_map load_by is)

-- The states of these updates are changed, each once.
abbrev pub Changes : List BlockItemForm → List ChangeForm → Type 0
Changes xs cs = IsPermutation (filter_map change xs) cs

-- The one item has the lower number if the other waits for it.
abbrev pub IsLower : ChoiceRule → (BlockItemForm → ℕ) → BlockItemForm → BlockItemForm → Type 0
IsLower rule number y x = must_wait_for rule x y ≡ true → number y < number x

-- The dependencies among these items have no cycle: by these numbers each waits for others of lower numbers alone.
abbrev pub HaveNoCycle : ChoiceRule → (BlockItemForm → ℕ) → List BlockItemForm → Type 0
HaveNoCycle rule number [] = Unit {0}
HaveNoCycle rule number (x ∷ xs) =
    AllByRecursion (λ (y : BlockItemForm). IsLower rule number y x × IsLower rule number x y) xs × HaveNoCycle rule number xs

-- Each of these items stands after all those that it waits for.
abbrev pub StandBehind : ChoiceRule → List BlockItemForm → Type 0
StandBehind rule [] = Unit {0}
StandBehind rule (x ∷ xs) = (is_free rule x xs ≡ true) × StandBehind rule xs

-- The second row is an order of the first: it has its items, each once, and where the dependencies have no cycle, each stands
-- after all those that it waits for.
pub record IsOrder (rule : ChoiceRule) (xs ys : List BlockItemForm) : Type 0 where
  pub same : IsPermutation xs ys
  pub behind : (number : BlockItemForm → ℕ) → HaveNoCycle rule number xs → StandBehind rule ys

-- The choices of a rule make an order.
abbrev pub MakesOrders : Type 0
MakesOrders = (rule : ChoiceRule) (xs : List BlockItemForm) → IsOrder rule xs (order rule xs)

-- The updates are suspended in an order of the one rule. Modules are loaded and states changed in an order of the other, but
-- for what comes first of the loads: each item once, with its own words. A module named twice is two items.
pub record GoesInOrders (first then : ChoiceRule) (arranged : List BlockItemForm → List BlockItemForm) (xs : List BlockItemForm)
    (is : List Instruction) : Type 0 where
  pub suspended : List BlockItemForm
  pub loaded : List BlockItemForm
  pub suspending : IsOrder first xs suspended
  pub loading : IsOrder then xs loaded
  pub suspends : flat_map suspended_by is ≡ filter_map suspension suspended
  pub loads : flat_map load_by is ≡ map purging (arranged loaded)
  pub changes : flat_map changed_by is ≡ filter_map change loaded

-- Going up, what depends on others is suspended first, and loaded and changed last.
abbrev pub OrdersUp : Type 0
OrdersUp = (xs : List BlockItemForm) → GoesInOrders DependentsFirst DependenciesFirst (λ ls. ls) xs (block Up xs)

-- Going down it is the other way round, and static updates are loaded before all else.
abbrev pub OrdersDown : Type 0
OrdersDown = (xs : List BlockItemForm)
    → GoesInOrders DependenciesFirst DependentsFirst (λ ls. filter (is_of_kind true) ls ++ filter (is_of_kind false) ls) xs (block Down xs)

-- The processes that a block suspends it resumes, the last first.
abbrev pub ResumesSuspended : Type 0
ResumesSuspended = (d : Direction) (xs : List BlockItemForm)
    → flat_map resumed_by (block d xs) ≡ reverse (map (λ (s : SuspensionForm). s.name) (flat_map suspended_by (block d xs)))

-- Going up, all modules are loaded before states are changed, which are changed as for an upgrade.
abbrev pub LoadsBeforeChange : Type 0
LoadsBeforeChange = (xs : List BlockItemForm) (front rest : List Instruction) (c : ConversionForm)
    → block Up xs ≡ front ++ (code_change c ∷ rest)
    → Loads xs front × Changes xs c.changes × Loads [] rest × (c.mode ≡ Some Up)

-- Going down, states are changed, as for a downgrade, before their modules are loaded, but for those of static updates.
abbrev pub ChangesBeforeLoad : Type 0
ChangesBeforeLoad = (xs : List BlockItemForm) (front rest : List Instruction) (c : ConversionForm)
    → block Down xs ≡ front ++ (code_change c ∷ rest)
    → Loads (filter (is_of_kind true) xs) front × Changes xs c.changes × Loads (filter (is_of_kind false) xs) rest × (c.mode ≡ Some Down)

-- The instruction loads a module or changes states.
abbrev pub is_change : Instruction → Bool
is_change (load p) = true
is_change (code_change c) = true
is_change i = false

-- Meanwhile the modules of all updates are suspended: none is suspended after such an instruction, and none is resumed before it.
abbrev pub SuspendsMeanwhile : Type 0
SuspendsMeanwhile = (d : Direction) (xs : List BlockItemForm) (front rest : List Instruction) (i : Instruction)
    → block d xs ≡ front ++ (i ∷ rest) → is_change i ≡ true
    → (flat_map suspended_by rest ≡ []) × (flat_map resumed_by front ≡ [])
