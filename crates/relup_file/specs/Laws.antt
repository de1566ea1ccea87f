-- Laws of relup files, whatever reads them.
use Rattle.std.specs.Prelude.{◌≡◌, ◌⊎◌, ℕ, List}
use Rattle.relup_file.specs.declared.fault.RelupFault.{RelupFault}
use Rattle.relup_file.specs.Relup.{RelupForm}
use Rattle.relup_file.specs.File.{SaysRelup, IsRelupFault}

-- No file says two relups.
abbrev pub SaysOneRelup : Type 0
SaysOneRelup = (bytes : List ℕ) (r s : RelupForm) → SaysRelup bytes r → SaysRelup bytes s → r ≡ s

-- No file has two faults.
abbrev pub HasOneFault : Type 0
HasOneFault = (bytes : List ℕ) (f g : RelupFault) → IsRelupFault bytes f → IsRelupFault bytes g → f ≡ g

-- No file both says a relup and has a fault.
abbrev pub NeverBoth : Type 0
NeverBoth = (bytes : List ℕ) (r : RelupForm) (f : RelupFault) → SaysRelup bytes r → IsRelupFault bytes f → ⊥

-- Each file says a relup or has a fault.
abbrev pub SaysOrFails : Type 0
SaysOrFails = (bytes : List ℕ) → ((r : RelupForm) × SaysRelup bytes r) ⊎ ((f : RelupFault) × IsRelupFault bytes f)
