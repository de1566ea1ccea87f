-- Laws of files, whatever reads them.
use Rattle.std.specs.Prelude.{◌≡◌, ◌⊎◌, ℕ, List}
use Rattle.erl_term.specs.Value.{Value}
use Rattle.rel_files.specs.Fault.{Fault}
use Rattle.rel_files.specs.Kind.{Says, HasFault}
use Rattle.rel_files.specs.AppFile.{Specification, app_files, IsAppTerm}
use Rattle.rel_files.specs.AppForm.{IsAppForm}

-- No file says two applications.
abbrev pub SaysOneApp : Type 0
SaysOneApp = (bytes : List ℕ) (s t : Specification) → Says app_files bytes s → Says app_files bytes t → s ≡ t

-- No file has two faults.
abbrev pub HasOneFault : Type 0
HasOneFault = (bytes : List ℕ) (f g : Fault) → HasFault app_files bytes f → HasFault app_files bytes g → f ≡ g

-- No file both says an application and has a fault.
abbrev pub NeverBoth : Type 0
NeverBoth = (bytes : List ℕ) (t : Specification) (f : Fault) → Says app_files bytes t → HasFault app_files bytes f → ⊥

-- Each file says an application or has a fault.
abbrev pub SaysOrFails : Type 0
SaysOrFails = (bytes : List ℕ) → ((t : Specification) × Says app_files bytes t) ⊎ ((f : Fault) × HasFault app_files bytes f)

-- A term says an application exactly where it has the form of that application.
pub record ApplicationsAreRead : Type 0 where
  pub only : (v : Value) (a : Specification) → IsAppTerm v a → IsAppForm v a
  pub each : (v : Value) (a : Specification) → IsAppForm v a → IsAppTerm v a
