-- The terms of applications (OTP: app(4)); docs/RULES.md gives the format.
use Rattle.std.specs.Prelude.{◌≡◌, ◌≢◌, ◌⊎◌, ℕ, List, [], ◌∷◌, ◌++◌, map, Option, None, Some, codes}
use Rattle.std.specs.List.{AllByRecursion}
use Rattle.erl_term.specs.Value.{Value}
use Rattle.erl_term.specs.Value.Value.{atom}
use Rattle.rel_files.specs.Name.{IsName, IsVersion, AreDistinct}
use Rattle.rel_files.specs.Terms.{list_of, pair_term, triple_term, text_term, atoms_term}
use Rattle.rel_files.specs.AppFile.{Specification}

-- {Key, Value}, both of which may be any terms
abbrev pub entry_term : Value × Value → Value
entry_term p = pair_term p.0 p.1

-- {application, App, [{Key, Value}]}
abbrev pub app_term : List ℕ → List (Value × Value) → Value
app_term name pairs = triple_term (atom (codes "application")) (atom name) (list_of (map entry_term pairs))

-- No pair has this key.
abbrev pub Lacks : List (Value × Value) → List ℕ → Type 0
Lacks pairs key = AllByRecursion (λ p. p.0 ≢ atom key) pairs

-- The first pair of this key has this value. Of equal keys the first counts.
pub record HasFirst (pairs : List (Value × Value)) (key : List ℕ) (v : Value) : Type 0 where
  pub before : List (Value × Value)
  pub after : List (Value × Value)
  pub is : pairs ≡ before ++ ((atom key, v) ∷ after)
  pub first : Lacks before key

-- `vsn` has to be there, with the text of a version.
abbrev pub HasVsn : List (Value × Value) → List ℕ → Type 0
HasVsn pairs vsn = HasFirst pairs (codes "vsn") (text_term vsn) × IsVersion vsn

-- `modules` is a list of names. Where the key is missing there are none.
abbrev pub HasModules : List (Value × Value) → List (List ℕ) → Type 0
HasModules pairs ms =
    (HasFirst pairs (codes "modules") (atoms_term ms) × AllByRecursion IsName ms) ⊎ (Lacks pairs (codes "modules") × (ms ≡ []))

-- `mod` is {Module, Args}, where Args may be any term. If it is [], or the key is missing, no module starts the application.
abbrev pub HasTop : List (Value × Value) → Option (List ℕ) → Type 0
HasTop pairs (Some m) = ((args : Value) × HasFirst pairs (codes "mod") (pair_term (atom m) args)) × IsName m
HasTop pairs None = HasFirst pairs (codes "mod") (list_of []) ⊎ Lacks pairs (codes "mod")

-- The term has the form of this application, in which no module stands twice. All other keys have no effect.
pub record IsAppForm (v : Value) (a : Specification) : Type 0 where
  pub pairs : List (Value × Value)
  pub is : v ≡ app_term a.name pairs
  pub name : IsName a.name
  pub vsn : HasVsn pairs a.vsn
  pub modules : HasModules pairs a.modules
  pub top : HasTop pairs a.top
  pub distinct : AreDistinct a.modules
  pub whole : a.whole ≡ v
