-- Laws of what a script fetches, and of how a row is cut, above their definitions.
use Rattle.std.specs.Prelude.{◌≡◌, ℕ, IsTrue, List, [], ◌∷◌, ◌++◌, map, Some, bytes_eq}
use Rattle.std.specs.List.{AllByRecursion, IsDistinct, flat_map}
use Rattle.relup_instruction.specs.Instruction.{FetchForm}
use Rattle.appup_file.specs.Instruction.{AppupInstruction}
use Rattle.appup_file.specs.Instruction.AppupInstruction.{update, load_module}
use Rattle.relup_block.specs.Order.{BlockItemForm, is_among}
use Rattle.relup_block.specs.Order.BlockItemForm.{updated, loaded}
use Rattle.relup_row.specs.Release.{RelupAppForm, RelupReleaseForm, WayForm, app_named}
use Rattle.relup_row.specs.Fetches.{MentionForm, module_of, fetches}
use Rattle.relup_row.specs.Script.{mentions, PartForm, parts}
use Rattle.relup_row.specs.Script.PartForm.{a_block, a_single}

-- the modules of these fetches
abbrev pub fetched : List FetchForm → List (List ℕ)
fetched = flat_map (λ (f : FetchForm). f.modules)

-- No module is fetched twice.
abbrev pub FetchesOnce : Type 0
FetchesOnce = (ms : List MentionForm) → IsDistinct bytes_eq (fetched (fetches ms))

-- The modules that are fetched are those that are mentioned.
abbrev pub FetchesMentioned : Type 0
FetchesMentioned = (ms : List MentionForm) (name : List ℕ) → is_among name (fetched (fetches ms)) ≡ is_among name (map module_of ms)

-- the names of a release's applications
abbrev pub app_names : RelupReleaseForm → List (List ℕ)
app_names r = map (λ (a : RelupAppForm). a.name) r.apps

-- What is fetched is of the application of that name in a release, in its version, and each module is one of its own.
pub record IsFetchFrom (r : RelupReleaseForm) (f : FetchForm) : Type 0 where
  pub app : RelupAppForm
  pub named : app_named f.app r ≡ Some app
  pub version : f.vsn ≡ app.vsn
  pub own : AllByRecursion (λ (name : List ℕ). IsTrue (is_among name app.modules)) f.modules

-- All is fetched from the target, where its applications have names of their own.
abbrev pub FetchesFromTarget : Type 0
FetchesFromTarget = (w : WayForm) (rows : List (List AppupInstruction)) → IsDistinct bytes_eq (app_names w.target)
    → AllByRecursion (IsFetchFrom w.target) (fetches (flat_map (mentions w) rows))

-- the instruction of an item of a block
abbrev pub of_item : BlockItemForm → AppupInstruction
of_item (updated u) = update u
of_item (loaded l) = load_module l

-- the instructions of a part of a row
abbrev pub of_part : PartForm → List AppupInstruction
of_part (a_block xs) = map of_item xs
of_part (a_single i) = i ∷ []

-- A block has an item, and all updates and loads of modules stand in blocks.
abbrev pub IsPart : PartForm → Type 0
IsPart (a_block []) = ⊥
IsPart (a_single (update u)) = ⊥
IsPart (a_single (load_module l)) = ⊥
IsPart p = Unit {0}

-- A row is cut into these parts. Its blocks are as long as can be: none stands right after another one.
pub record IsCut (row : List AppupInstruction) (ps : List PartForm) : Type 0 where
  pub whole : flat_map of_part ps ≡ row
  pub each : AllByRecursion IsPart ps
  pub longest : (front rest : List PartForm) (xs ys : List BlockItemForm) → ps ≡ front ++ (a_block xs ∷ a_block ys ∷ rest) → ⊥

-- Each row is cut into parts whose blocks are as long as can be.
abbrev pub CutsIntoLongestBlocks : Type 0
CutsIntoLongestBlocks = (row : List AppupInstruction) → IsCut row (parts row)
