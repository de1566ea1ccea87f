-- Which modules a script fetches, and from which applications.
use Rattle.std.specs.Prelude.{ℕ, Bool, not, List, [], ◌∷◌, map, Option, option_map}
use Rattle.std.specs.List.{filter}
use Rattle.std.specs.Str.{bytes_eq}
use Rattle.relup_instruction.specs.Instruction.{FetchForm, Instruction}
use Rattle.relup_instruction.specs.Instruction.Instruction.{load_object_code}
use Rattle.relup_row.specs.declared.fetches.Mention.{Mention}
use Rattle.relup_row.specs.Release.{RelupAppForm, RelupReleaseForm, relup_app_of, owner}

-- a module that a script loads, with the application of the target that has it
pub record MentionForm : Type 0 where
  pub name : List ℕ
  pub app : RelupAppForm

abbrev pub mention_of : Mention → MentionForm
mention_of m = record { name = m.name.now; app = relup_app_of m.app.now }

abbrev pub mention : RelupReleaseForm → List ℕ → Option MentionForm
mention target name = option_map (λ (a : RelupAppForm). record { name = name; app = a }) (owner name target)

abbrev pub module_of : MentionForm → List ℕ
module_of m = m.name

abbrev pub app_of : MentionForm → List ℕ
app_of m = m.app.name

-- whether another mention is not of the same
abbrev pub differs : (MentionForm → List ℕ) → MentionForm → MentionForm → Bool
differs key m n = not (bytes_eq (key m) (key n))

-- the first mention of each
abbrev pub firsts : (MentionForm → List ℕ) → List MentionForm → List MentionForm
firsts key [] = []
firsts key (m ∷ ms) = m ∷ filter (differs key m) (firsts key ms)

-- the modules among these that an application has
abbrev pub modules_in : List ℕ → List MentionForm → List (List ℕ)
modules_in app ms = map module_of (filter (λ (m : MentionForm). bytes_eq m.app.name app) ms)

-- what is fetched of an application's library
abbrev pub fetch : List MentionForm → RelupAppForm → FetchForm
fetch ms a = record { app = a.name; vsn = a.vsn; modules = modules_in a.name ms }

-- Each module is fetched once, by one fetch for each application, both in the order in which they are first mentioned.
abbrev pub fetches : List MentionForm → List FetchForm
fetches ms = map (λ (m : MentionForm). fetch (firsts module_of ms) m.app) (firsts app_of ms)

abbrev pub fetching : List MentionForm → List Instruction
fetching ms = map load_object_code (fetches ms)
