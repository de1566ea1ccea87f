-- The shape of a release file's term (OTP: rel(4)). Where a version is to stand, any numbers are of this shape.
use Rattle.std.specs.Prelude.{◌≡◌, ◌⊎◌, ℕ, ℤ, List, [], ◌∷◌, map, Option, None, Some, codes}
use Rattle.std.specs.List.{AllByRecursion}
use Rattle.erl_term.specs.Value.{Value}
use Rattle.erl_term.specs.Value.Value.{atom}
use Rattle.rel_files.specs.declared.release.StartType.{StartType}
use Rattle.rel_files.specs.declared.release.StartType.TheVariants.{Permanent, Transient, Temporary, Load, Unloaded}
use Rattle.rel_files.specs.Name.{IsName, IsReleaseName}
use Rattle.rel_files.specs.Release.{Release, Application}
use Rattle.rel_files.specs.Terms.{tuple_of, list_of, pair_term, numbers_term, numbers_of, text_term, atoms_term}

-- an application as the file has it
pub record AppForm : Type 0 where
  pub name : List ℕ
  pub vsn : List ℤ
  pub start : StartType
  pub included : Option (List (List ℕ))

-- a release as the file has it
pub record Form : Type 0 where
  pub name : List ℕ
  pub vsn : List ℤ
  pub erts : List ℤ
  pub apps : List AppForm

-- the atom for a start type
abbrev pub start_word : StartType → List ℕ
start_word Permanent = codes "permanent"
start_word Transient = codes "transient"
start_word Temporary = codes "temporary"
start_word Load = codes "load"
start_word Unloaded = codes "none"

abbrev pub IsStart : Value → StartType → Type 0
IsStart v start = v ≡ atom (start_word start)

-- the list of the included applications
abbrev pub ListsIncluded : Value → Option (List (List ℕ)) → Type 0
ListsIncluded v None = ⊥
ListsIncluded v (Some names) = (v ≡ atoms_term names) × AllByRecursion IsName names

-- what follows an application's version: its start type, permanent where no type is written, and the applications included in it
abbrev pub IsEnding : List Value → StartType → Option (List (List ℕ)) → Type 0
IsEnding [] start included = (start ≡ Permanent) × (included ≡ None)
IsEnding (v ∷ []) start included = (IsStart v start × (included ≡ None)) ⊎ ((start ≡ Permanent) × ListsIncluded v included)
IsEnding (v ∷ w ∷ []) start included = IsStart v start × ListsIncluded w included
IsEnding (v ∷ w ∷ x ∷ vs) start included = ⊥

-- an AppSpec: {App, Vsn}, {App, Vsn, Type}, {App, Vsn, IncApps} or {App, Vsn, Type, IncApps}
pub record IsAppSpec (v : Value) (a : AppForm) : Type 0 where
  pub ending : List Value
  pub is : v ≡ tuple_of (atom a.name ∷ numbers_term a.vsn ∷ ending)
  pub name : IsName a.name
  pub ends : IsEnding ending a.start a.included

abbrev pub AreAppSpecs : List Value → List AppForm → Type 0
AreAppSpecs [] [] = Unit {0}
AreAppSpecs (v ∷ vs) (a ∷ forms) = IsAppSpec v a × AreAppSpecs vs forms
AreAppSpecs vs forms = ⊥

-- {release, {Name, Vsn}, {erts, EVsn}, [AppSpec]}
pub record IsRelTerm (v : Value) (f : Form) : Type 0 where
  pub apps : List Value
  pub is : v ≡ tuple_of (atom (codes "release")
      ∷ pair_term (text_term f.name) (numbers_term f.vsn)
      ∷ pair_term (atom (codes "erts")) (numbers_term f.erts)
      ∷ list_of apps ∷ [])
  pub name : IsReleaseName f.name
  pub each : AreAppSpecs apps f.apps

-- the names of its applications
abbrev pub app_names : Form → List (List ℕ)
app_names f = map (λ (a : AppForm). a.name) f.apps

-- the form that a release has in a file
abbrev pub app_form_of : Application → AppForm
app_form_of a = record { name = a.name; vsn = numbers_of a.vsn; start = a.start; included = a.included }

abbrev pub form_of : Release → Form
form_of r = record { name = r.name; vsn = numbers_of r.vsn; erts = numbers_of r.erts; apps = map app_form_of r.apps }
