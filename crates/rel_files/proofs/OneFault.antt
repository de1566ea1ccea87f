-- A file says one release or has one fault.
use Rattle.std.proofs.Common.{◌≡◌, ℕ, List, Some, ◌⊎◌, inl, inr, refl, sym, ap, subst, ◌∙◌}
use Rattle.erl_term.specs.Value.{Value}
use Rattle.rel_files.specs.Fault.{Fault}
use Rattle.rel_files.specs.Fault.Fault.{bad_term, bad_shape, duplicate, bad_version, no_memory}
use Rattle.rel_files.specs.Name.{AreDistinct, IsFirstTwice}
use Rattle.rel_files.specs.Release.{Release}
use Rattle.rel_files.specs.Form.{Form, form_of, app_names, IsRelTerm}
use Rattle.rel_files.specs.File.{HasVersions, IsReleaseTerm, HasReleaseTermFault, SaysRelease, HasReleaseFault}
use Rattle.rel_files.specs.Sketch.{Sketch, release_in}
use Rattle.rel_files.proofs.Distinct.{never_both, one_twice}
use Rattle.rel_files.proofs.OneTermFile.{file_says_one, one_file_fault, never_both_of_file}
use Rattle.rel_files.proofs.Outcomes.{sketch_names, form_names, one_release}
use Rattle.rel_files.proofs.Shape.{form_sketch, sketch_in-term}
use Rattle.rel_files.proofs.Versions.{release_in-form, from_release}

-- the forms of a term have one sketch
one_sketch : (v : Value) (f g : Form) → IsRelTerm v f → IsRelTerm v g → form_sketch f ≡ form_sketch g
one_sketch v f g is also = let same : Some (form_sketch f) ≡ Some (form_sketch g) = sym (sketch_in-term v f is) ∙ sketch_in-term v g also in cc

-- and so the names of the applications are the same in them
one_row : (v : Value) (f g : Form) → IsRelTerm v f → IsRelTerm v g → app_names f ≡ app_names g
one_row v f g is also = sym (form_names f.apps) ∙ (ap (λ (s : Sketch). sketch_names s.apps) (one_sketch v f g is also) ∙ form_names g.apps)

-- Why a term is none of a release: it has another shape, a name stands twice, or a version is none.
pub record IsShapeless (v : Value) (at : ℕ) (f : Fault) : Type 0 where
  pub formless : (form : Form) → IsRelTerm v form → ⊥
  pub reported : f ≡ bad_shape at

pub record HasTwice (v : Value) (f : Fault) : Type 0 where
  pub form : Form
  pub shape : IsRelTerm v form
  pub name : List ℕ
  pub twice : IsFirstTwice (app_names form) name
  pub reported : f ≡ duplicate name

pub record HasNoVersion (v : Value) (f : Fault) : Type 0 where
  pub form : Form
  pub shape : IsRelTerm v form
  pub distinct : AreDistinct (app_names form)
  pub none : (r : Release) → form ≡ form_of r → HasVersions r → ⊥
  pub reported : f ≡ bad_version

abbrev Causes : Value → ℕ → Fault → Type 0
Causes v at f = IsShapeless v at f ⊎ (HasTwice v f ⊎ HasNoVersion v f)

causes : (v : Value) (at : ℕ) (f : Fault) → HasReleaseTermFault v at f → Causes v at f
causes v at (bad_term e) h = absurd h
causes v at (bad_shape place) (none, same) = inl (record { formless = none; reported = ap bad_shape same })
causes v at (duplicate name) (form, shape, twice) = inr (inl (record { form = form; shape = shape; name = name; twice = twice; reported = refl }))
causes v at bad_version (form, shape, distinct, none) = inr (inr (record { form = form; shape = shape; distinct = distinct; none = none; reported = refl }))
causes v at no_memory h = absurd h

never_all : (v : Value) (f g : Fault) → HasTwice v f → HasNoVersion v g → ⊥
never_all v f g p q = never_both (app_names q.form) p.name q.distinct (subst (λ ns. IsFirstTwice ns p.name) (one_row v p.form q.form p.shape q.shape) p.twice)

one_cause : (v : Value) (at : ℕ) (f g : Fault) → Causes v at f → Causes v at g → f ≡ g
one_cause v at f g (inl p) (inl q) = p.reported ∙ sym q.reported
one_cause v at f g (inl p) (inr (inl q)) = absurd (p.formless q.form q.shape)
one_cause v at f g (inl p) (inr (inr q)) = absurd (p.formless q.form q.shape)
one_cause v at f g (inr (inl p)) (inl q) = absurd (q.formless p.form p.shape)
one_cause v at f g (inr (inr p)) (inl q) = absurd (q.formless p.form p.shape)
one_cause v at f g (inr (inl p)) (inr (inl q)) =
    let same : p.name ≡ q.name = one_twice (app_names q.form) p.name q.name (subst (λ ns. IsFirstTwice ns p.name) (one_row v p.form q.form p.shape q.shape) p.twice) q.twice in
    p.reported ∙ (ap duplicate same ∙ sym q.reported)
one_cause v at f g (inr (inl p)) (inr (inr q)) = absurd (never_all v f g p q)
one_cause v at f g (inr (inr p)) (inr (inl q)) = absurd (never_all v g f q p)
one_cause v at f g (inr (inr p)) (inr (inr q)) = p.reported ∙ sym q.reported

one_of_term : (v : Value) (at : ℕ) (f g : Fault) → HasReleaseTermFault v at f → HasReleaseTermFault v at g → f ≡ g
one_of_term v at f g p q = one_cause v at f g (causes v at f p) (causes v at g q)

-- No file has two faults.
pub one_fault : (bytes : List ℕ) (f g : Fault) → HasReleaseFault bytes f → HasReleaseFault bytes g → f ≡ g
one_fault bytes f g p q = one_file_fault HasReleaseTermFault one_of_term bytes f g p q

-- No file says two releases.
pub says_one : (bytes : List ℕ) (r s : Release) → SaysRelease bytes r → SaysRelease bytes s → r ≡ s
says_one bytes r s says also = file_says_one IsReleaseTerm one_release bytes r s says also

-- a term that says a release has no cause of a fault
never_caused : (v : Value) (at : ℕ) (r : Release) (f : Fault) → IsReleaseTerm v r → Causes v at f → ⊥
never_caused v at r f says (inl p) = p.formless (form_of r) says.shape
never_caused v at r f says (inr (inl p)) =
    never_both (app_names (form_of r)) p.name says.distinct (subst (λ ns. IsFirstTwice ns p.name) (one_row v p.form (form_of r) p.shape says.shape) p.twice)
never_caused v at r f says (inr (inr p)) =
    let is : release_in (form_sketch p.form) ≡ Some r = ap release_in (one_sketch v p.form (form_of r) p.shape says.shape) ∙ release_in-form r says.versions in
    let form = from_release p.form r is in
    p.none r form.0 form.1

-- No file both says a release and has a fault.
pub never_says_and_fails : (bytes : List ℕ) (r : Release) (f : Fault) → SaysRelease bytes r → HasReleaseFault bytes f → ⊥
never_says_and_fails bytes r f says fails =
    never_both_of_file IsReleaseTerm HasReleaseTermFault (λ v at s g is fault. never_caused v at s g is (causes v at g fault)) bytes r f says fails
