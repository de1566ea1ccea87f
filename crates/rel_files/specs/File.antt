-- What a `.rel` file says, or which fault it has.
use Rattle.std.specs.Prelude.{◌≡◌, ℕ, List}
use Rattle.std.specs.List.{AllByRecursion}
use Rattle.erl_term.specs.Value.{Value}
use Rattle.rel_files.specs.declared.fault.FileFault.{FileFault}
use Rattle.rel_files.specs.Fault.{Fault, fault_of}
use Rattle.rel_files.specs.Fault.Fault.{bad_term, bad_shape, duplicate, bad_version, no_memory}
use Rattle.rel_files.specs.Name.{IsVersion, AreDistinct, IsFirstTwice}
use Rattle.rel_files.specs.Release.{Release, Application}
use Rattle.rel_files.specs.Form.{Form, IsRelTerm, app_names, form_of}
use Rattle.rel_files.specs.OneTermFile.{TermOfFileSays, HasFileFault}

-- each version of the release is the text of one
pub record HasVersions (r : Release) : Type 0 where
  pub own : IsVersion r.vsn
  pub erts : IsVersion r.erts
  pub apps : AllByRecursion (λ (a : Application). IsVersion a.vsn) r.apps

-- The term says this of a release.
pub record IsReleaseTerm (v : Value) (r : Release) : Type 0 where
  pub shape : IsRelTerm v (form_of r)
  pub distinct : AreDistinct (app_names (form_of r))
  pub versions : HasVersions r

-- The fault of a term that begins at this place. Of several the first in the order of their kinds is reported.
abbrev pub HasReleaseTermFault : Value → ℕ → Fault → Type 0
HasReleaseTermFault v at (bad_term e) = ⊥
HasReleaseTermFault v at (bad_shape place) = ((f : Form) → IsRelTerm v f → ⊥) × (place ≡ at)
HasReleaseTermFault v at (duplicate name) = (f : Form) × IsRelTerm v f × IsFirstTwice (app_names f) name
HasReleaseTermFault v at bad_version = (f : Form) × IsRelTerm v f × AreDistinct (app_names f) × ((r : Release) → f ≡ form_of r → HasVersions r → ⊥)
HasReleaseTermFault v at no_memory = ⊥

abbrev pub IsTermFault : Value → ℕ → FileFault → Type 0
IsTermFault v at f = HasReleaseTermFault v at (fault_of f)

-- The file says this of a release.
abbrev pub SaysRelease : List ℕ → Release → Type 0
SaysRelease bytes r = TermOfFileSays IsReleaseTerm bytes r

-- The fault of a file: it hasn't one term, or this has the fault.
abbrev pub HasReleaseFault : List ℕ → Fault → Type 0
HasReleaseFault bytes f = HasFileFault HasReleaseTermFault bytes f

abbrev pub IsRelFault : List ℕ → FileFault → Type 0
IsRelFault bytes f = HasReleaseFault bytes (fault_of f)
