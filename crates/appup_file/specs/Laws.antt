-- Laws of appup files, whatever reads them.
use Rattle.std.specs.Prelude.{◌≡◌, ◌⊎◌, ◌↔◌, ℕ, List, IsSome}
use Rattle.erl_term.specs.Value.{Value}
use Rattle.appup_file.specs.declared.fault.AppupFault.{AppupFault}
use Rattle.appup_file.specs.declared.fault.AppupFault.TheVariants.{BadShape}
use Rattle.appup_file.specs.Instruction.{AppupForm}
use Rattle.appup_file.specs.Form.{IsAppupTerm}
use Rattle.appup_file.specs.File.{TermSaysAppup, IsTermFault, SaysAppup, IsAppupFault}
use Rattle.appup_file.specs.Shape.{shape_fault}

-- No file says two appups.
abbrev pub SaysOneAppup : Type 0
SaysOneAppup = (bytes : List ℕ) (a b : AppupForm) → SaysAppup bytes a → SaysAppup bytes b → a ≡ b

-- No file has two faults.
abbrev pub HasOneFault : Type 0
HasOneFault = (bytes : List ℕ) (f g : AppupFault) → IsAppupFault bytes f → IsAppupFault bytes g → f ≡ g

-- No file both says an appup and has a fault.
abbrev pub NeverBoth : Type 0
NeverBoth = (bytes : List ℕ) (a : AppupForm) (f : AppupFault) → SaysAppup bytes a → IsAppupFault bytes f → ⊥

-- Each file says an appup or has a fault.
abbrev pub SaysOrFails : Type 0
SaysOrFails = (bytes : List ℕ) → ((a : AppupForm) × SaysAppup bytes a) ⊎ ((f : AppupFault) × IsAppupFault bytes f)

-- A term says an appup exactly where it is a term of this appup.
abbrev pub SaysItsTerm : Type 0
SaysItsTerm = (v : Value) (a : AppupForm) → TermSaysAppup v a ↔ IsAppupTerm v a

-- Something is none in a term exactly where it says no appup.
abbrev pub HasItsPlace : Type 0
HasItsPlace = (v : Value) → IsTermFault v BadShape ↔ IsSome (shape_fault v)
