-- What a term says, or its fault, from its sketch.
use Rattle.std.proofs.Common.{◌≡◌, ℕ, List, [], ◌∷◌, map, Some, None, string_bytes, refl, sym, ap, subst, ◌∙◌}
use Rattle.erl_term.specs.Value.{Value}
use Rattle.rel_files.specs.declared.draft.AppDraft.{AppDraft}
use Rattle.rel_files.specs.declared.draft.Draft.{Draft}
use Rattle.rel_files.specs.Name.{AreDistinct, IsFirstTwice}
use Rattle.rel_files.specs.Release.{Release}
use Rattle.rel_files.specs.Form.{AppForm, Form, form_of, app_names, IsRelTerm}
use Rattle.rel_files.specs.File.{HasVersions, IsReleaseTerm}
use Rattle.rel_files.specs.Sketch.{AppSketch, Sketch, sketch_in, release_in}
use Rattle.rel_files.specs.Sketched.{app_sketch_of, sketch_of}
use Rattle.rel_files.proofs.Shape.{app_form_sketch, form_sketch, sketch_in-term, from_sketch}
use Rattle.rel_files.proofs.Versions.{release_in-form, from_release}
use Rattle.rel_files.proofs.Distinct.{names, never_both}

-- the names of the applications
abbrev pub sketch_names : List AppSketch → List (List ℕ)
sketch_names ks = map (λ (k : AppSketch). k.name) ks

draft_names : (as' : List AppDraft) → sketch_names (map app_sketch_of as') ≡ names as'
draft_names [] = refl
draft_names (a ∷ as') = ap (λ (ns : List (List ℕ)). string_bytes a.name ∷ ns) (draft_names as')

pub form_names : (forms : List AppForm) → sketch_names (map app_form_sketch forms) ≡ map (λ (a : AppForm). a.name) forms
form_names [] = refl
form_names (f ∷ forms) = ap (λ (ns : List (List ℕ)). f.name ∷ ns) (form_names forms)

-- a term without a sketch has no form
pub no_form : (v : Value) → None ≡ sketch_in v → (f : Form) → IsRelTerm v f → ⊥
no_form v none f is = let some = sketch_in-term v f is in absurd cc

pub duplicate : (v : Value) (k : Sketch) (n : List ℕ) → sketch_in v ≡ Some k → IsFirstTwice (sketch_names k.apps) n → (f : Form) × IsRelTerm v f × IsFirstTwice (app_names f) n
duplicate v k n e twice =
    let form = from_sketch v k e in
    (form.0, form.1, subst (λ (ns : List (List ℕ)). IsFirstTwice ns n) (ap (λ (s : Sketch). sketch_names s.apps) form.2 ∙ form_names form.0.apps) twice)

distinct_form : (k : Sketch) (f : Form) → k ≡ form_sketch f → AreDistinct (sketch_names k.apps) → AreDistinct (app_names f)
distinct_form k f e distinct = subst AreDistinct (ap (λ (s : Sketch). sketch_names s.apps) e ∙ form_names f.apps) distinct

pub bad_version : (v : Value) (k : Sketch) → sketch_in v ≡ Some k → AreDistinct (sketch_names k.apps) → None ≡ release_in k
    → (f : Form) × IsRelTerm v f × AreDistinct (app_names f) × ((r : Release) → f ≡ form_of r → HasVersions r → ⊥)
bad_version v k e distinct none =
    let form = from_sketch v k e in (
      form.0,
      form.1,
      distinct_form k form.0 form.2 distinct,
      λ r same has. let some : release_in k ≡ Some r = ap release_in (form.2 ∙ ap form_sketch same) ∙ release_in-form r has in absurd cc,
    )

pub says : (v : Value) (k : Sketch) (r : Release) → sketch_in v ≡ Some k → AreDistinct (sketch_names k.apps) → Some r ≡ release_in k → IsReleaseTerm v r
says v k r e distinct some =
    let form = from_sketch v k e in
    let is = from_release form.0 r (sym (some ∙ ap release_in form.2)) in
    record {
      shape = subst (IsRelTerm v) is.0 form.1;
      distinct = subst (λ (f : Form). AreDistinct (app_names f)) is.0 (distinct_form k form.0 form.2 distinct);
      versions = is.1;
    }

-- the sketch of a term that says this of a release
sketch_of_release : (v : Value) (k : Sketch) (r : Release) → IsReleaseTerm v r → sketch_in v ≡ Some k → k ≡ form_sketch (form_of r)
sketch_of_release v k r is e = let some = sketch_in-term v (form_of r) is.shape in cc

none_twice : (v : Value) (k : Sketch) (r : Release) (n : List ℕ) → IsReleaseTerm v r → sketch_in v ≡ Some k → IsFirstTwice (sketch_names k.apps) n → ⊥
none_twice v k r n is e twice =
    never_both (app_names (form_of r)) n is.distinct
    (subst (λ (ns : List (List ℕ)). IsFirstTwice ns n) (ap (λ (s : Sketch). sketch_names s.apps) (sketch_of_release v k r is e) ∙ form_names _) twice)

is_release : (v : Value) (k : Sketch) (r : Release) → IsReleaseTerm v r → sketch_in v ≡ Some k → release_in k ≡ Some r
is_release v k r is e = ap release_in (sketch_of_release v k r is e) ∙ release_in-form r is.versions

-- a term says one release at most
pub one_release : (v : Value) (r s : Release) → IsReleaseTerm v r → IsReleaseTerm v s → r ≡ s
one_release v r s is also =
    let both = is_release v (form_sketch (form_of r)) s also (sketch_in-term v (form_of r) is.shape) in
    let own = release_in-form r is.versions in
    let same : Some r ≡ Some s = sym own ∙ both in cc

-- from here on of a draft of the term, and its applications
module _ (v : Value) (d : Draft) (as' : List AppDraft) (drafted : Some (sketch_of d) ≡ sketch_in v) (listed : as' ≡ d.apps.items) where
  named : names as' ≡ sketch_names (sketch_of d).apps
  named = ap names listed ∙ sym (draft_names d.apps.items)

  pub reports_duplicate : (n m : List ℕ) → IsFirstTwice (names as') n → m ≡ n → (f : Form) × IsRelTerm v f × IsFirstTwice (app_names f) m
  reports_duplicate n m twice same =
      duplicate v (sketch_of d) m (sym drafted) (subst (IsFirstTwice (sketch_names (sketch_of d).apps)) (sym same) (subst (λ (ns : List (List ℕ)). IsFirstTwice ns n) named twice))

  pub no_duplicate : (n : List ℕ) → IsFirstTwice (names as') n → (r : Release) → IsReleaseTerm v r → ⊥
  no_duplicate n twice r is = none_twice v (sketch_of d) r n is (sym drafted) (subst (λ (ns : List (List ℕ)). IsFirstTwice ns n) named twice)

  pub reports_version : AreDistinct (names as') → None ≡ release_in (sketch_of d)
      → (f : Form) × IsRelTerm v f × AreDistinct (app_names f) × ((r : Release) → f ≡ form_of r → HasVersions r → ⊥)
  reports_version distinct none = bad_version v (sketch_of d) (sym drafted) (subst AreDistinct named distinct) none

  pub no_bad_version : None ≡ release_in (sketch_of d) → (r : Release) → IsReleaseTerm v r → ⊥
  no_bad_version none r is = let some = is_release v (sketch_of d) r is (sym drafted) in absurd cc

  pub reports_release : (r : Release) → AreDistinct (names as') → Some r ≡ release_in (sketch_of d) → IsReleaseTerm v r
  reports_release r distinct some = says v (sketch_of d) r (sym drafted) (subst AreDistinct named distinct) some

  pub reports_only : (r : Release) → Some r ≡ release_in (sketch_of d) → (s : Release) → IsReleaseTerm v s → r ≡ s
  reports_only r some s is = let other = is_release v (sketch_of d) s is (sym drafted) in cc
