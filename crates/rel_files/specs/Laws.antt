-- Laws of files, whatever reads them.
use Rattle.std.specs.Prelude.{◌≡◌, ◌⊎◌, ℕ, List}
use Rattle.rel_files.specs.Fault.{Fault}
use Rattle.rel_files.specs.Release.{Release}
use Rattle.rel_files.specs.File.{SaysRelease, HasReleaseFault}

-- No file says two releases.
abbrev pub SaysOneRelease : Type 0
SaysOneRelease = (bytes : List ℕ) (r s : Release) → SaysRelease bytes r → SaysRelease bytes s → r ≡ s

-- No file has two faults.
abbrev pub HasOneFault : Type 0
HasOneFault = (bytes : List ℕ) (f g : Fault) → HasReleaseFault bytes f → HasReleaseFault bytes g → f ≡ g

-- No file both says a release and has a fault.
abbrev pub NeverBoth : Type 0
NeverBoth = (bytes : List ℕ) (r : Release) (f : Fault) → SaysRelease bytes r → HasReleaseFault bytes f → ⊥

-- Each file says a release or has a fault.
abbrev pub SaysOrFails : Type 0
SaysOrFails = (bytes : List ℕ) → ((r : Release) × SaysRelease bytes r) ⊎ ((f : Fault) × HasReleaseFault bytes f)
