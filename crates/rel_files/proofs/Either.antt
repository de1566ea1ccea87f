-- A file says a release or has a fault.
use Rattle.std.proofs.Common.{◌≡◌, ℕ, List, Option, Some, None, ◌⊎◌, inl, inr, refl, sym}
use Rattle.erl_term.specs.Value.{Value}
use Rattle.rel_files.specs.Fault.{Fault}
use Rattle.rel_files.specs.Fault.Fault.{bad_shape, duplicate, bad_version}
use Rattle.rel_files.specs.Name.{AreDistinct, IsFirstTwice}
use Rattle.rel_files.specs.Release.{Release}
use Rattle.rel_files.specs.File.{IsReleaseTerm, HasReleaseTermFault, SaysRelease, HasReleaseFault}
use Rattle.rel_files.specs.Sketch.{Sketch, sketch_in, release_in}
use Rattle.rel_files.proofs.Distinct.{distinct_or_twice}
use Rattle.rel_files.proofs.OneTermFile.{either_of_file}
use Rattle.rel_files.proofs.Outcomes.{sketch_names, no_form, duplicate as reports_twice, bad_version as reports_no_version, says}

abbrev TermCases : Value → ℕ → Type 0
TermCases v at = ((r : Release) × IsReleaseTerm v r) ⊎ ((f : Fault) × HasReleaseTermFault v at f)

-- a term says a release or has a fault, by its sketch, its names and their versions
of_versions : (v : Value) (at : ℕ) (k : Sketch) → sketch_in v ≡ Some k → AreDistinct (sketch_names k.apps)
    → (o : Option Release) → o ≡ release_in k → TermCases v at
of_versions v at k sketched distinct (Some r) is = inl (r, says v k r sketched distinct is)
of_versions v at k sketched distinct None is = inr (bad_version, reports_no_version v k sketched distinct is)

of_names : (v : Value) (at : ℕ) (k : Sketch) → sketch_in v ≡ Some k
    → AreDistinct (sketch_names k.apps) ⊎ ((n : List ℕ) × IsFirstTwice (sketch_names k.apps) n) → TermCases v at
of_names v at k sketched (inl distinct) = of_versions v at k sketched distinct (release_in k) refl
of_names v at k sketched (inr (n, twice)) = inr (duplicate n, reports_twice v k n sketched twice)

of_sketch : (v : Value) (at : ℕ) (o : Option Sketch) → sketch_in v ≡ o → TermCases v at
of_sketch v at None is = inr (bad_shape at, (no_form v (sym is), refl))
of_sketch v at (Some k) is = of_names v at k is (distinct_or_twice (sketch_names k.apps))

of_term : (v : Value) (at : ℕ) → TermCases v at
of_term v at = of_sketch v at (sketch_in v) refl

-- Each file says a release or has a fault.
pub says_or_fault : (bytes : List ℕ) → ((r : Release) × SaysRelease bytes r) ⊎ ((f : Fault) × HasReleaseFault bytes f)
says_or_fault bytes = either_of_file IsReleaseTerm HasReleaseTermFault of_term bytes
