-- What the term of a record says.
use Rattle.std.proofs.Common.{◌≡◌, ◌⊎◌, inl, inr, ℕ, Bool, true, false, List, codes, Option, Some, None, Result, Ok, Err, refl, sym, ap, ◌∙◌, subst}
use Rattle.std.specs.Option.{option_and_then, option_map}
use Rattle.erl_term.specs.Value.{Value, Values}
use Rattle.erl_term.specs.Value.Value.{tuple}
use Rattle.erl_term.specs.Value.Values.{no_values, value}
use Rattle.rel_files.specs.File.{IsReleaseTerm}
use Rattle.rel_files.specs.Form.{app_names, form_of}
use Rattle.rel_files.specs.Name.{AreDistinct, IsFirstTwice}
use Rattle.rel_files.specs.Parts.{is_word, four_in, list_in, word_in}
use Rattle.rel_files.specs.Release.{Release}
use Rattle.rel_files.specs.Sketch.{Sketch, sketch_in, release_in}
use Rattle.rel_files.proofs.Options.{mapped, chained}
use Rattle.rel_files.proofs.Distinct.{distinct_or_twice, never_both}
use Rattle.rel_files.proofs.Outcomes.{sketch_names, form_names, says}
use Rattle.rel_files.proofs.Shape.{form_sketch, sketch_in-term}
use Rattle.rel_files.proofs.TermParts.{from_word, from_is_word, from_list, from_four}
use Rattle.rel_files.proofs.Versions.{release_in-form}
use Rattle.relup_file.specs.Parts.{relup_in}
use Rattle.relup_file.specs.Relup.{RelupForm}
use Rattle.relup_file.proofs.RelupLemmas.{from_relup, relup_in-term}
use Rattle.rel_records.specs.Parts.{ReleaseParts, parts_in, parts_term, parts_with}
use Rattle.rel_records.specs.Reading.{StandsForRelup}
use Rattle.rel_records.specs.Record.{release_term}

-- A term says a release, or none.
abbrev pub SaysOrNot : Value → Type 0
SaysOrNot v = ((r : Release) × IsReleaseTerm v r) ⊎ ((r : Release) → IsReleaseTerm v r → ⊥)

sketch_of_form : (v : Value) (k : Sketch) → sketch_in v ≡ Some k → (r : Release) → IsReleaseTerm v r → form_sketch (form_of r) ≡ k
sketch_of_form v k e r is = let same : Some (form_sketch (form_of r)) ≡ Some k = sym (sketch_in-term v (form_of r) is.shape) ∙ e in cc

pub says_or_not : (v : Value) → SaysOrNot v
says_or_not v = by_sketch (sketch_in v) refl
  where
    by_release : (k : Sketch) → sketch_in v ≡ Some k → AreDistinct (sketch_names k.apps) → (o : Option Release) → release_in k ≡ o → SaysOrNot v
    by_release k e distinct (Some r) found = inl (r, says v k r e distinct (sym found))
    by_release k e distinct None found = inr (λ r is. let lost : None ≡ Some r = sym found ∙ ap release_in (sym (sketch_of_form v k e r is)) ∙ release_in-form r is.versions in cc)

    by_names : (k : Sketch) → sketch_in v ≡ Some k → AreDistinct (sketch_names k.apps) ⊎ ((n : List ℕ) × IsFirstTwice (sketch_names k.apps) n) → SaysOrNot v
    by_names k e (inl distinct) = by_release k e distinct (release_in k) refl
    by_names k e (inr (n, twice)) = inr (λ r is.
        let same : app_names (form_of r) ≡ sketch_names k.apps = sym (form_names (form_of r).apps) ∙ ap (λ (s : Sketch). sketch_names s.apps) (sketch_of_form v k e r is) in
        never_both (sketch_names k.apps) n (subst AreDistinct same is.distinct) twice)

    by_sketch : (o : Option Sketch) → sketch_in v ≡ o → SaysOrNot v
    by_sketch None e = inr (λ r is. let lost : None ≡ Some (form_sketch (form_of r)) = sym e ∙ sketch_in-term v (form_of r) is.shape in cc)
    by_sketch (Some k) e = by_names k e (distinct_or_twice (sketch_names k.apps))

-- A term stands for a relup or for none, or for neither.
abbrev pub StandsOrNot : Value → Type 0
StandsOrNot v = ((o : Option RelupForm) × StandsForRelup v o) ⊎ ((o : Option RelupForm) → StandsForRelup v o → ⊥)

pub stands_or_not : (v : Value) → StandsOrNot v
stands_or_not v = by_word (is_word (codes "none") v) refl (relup_in v) refl
  where
    neither : is_word (codes "none") v ≡ false → (n : ℕ) → relup_in v ≡ Err n → (o : Option RelupForm) → StandsForRelup v o → ⊥
    neither other n bad None is = cc (other, ap (is_word (codes "none")) is)
    neither other n bad (Some r) says = cc (bad, relup_in-term v r says)

    by_word : (b : Bool) → is_word (codes "none") v ≡ b → (o : Result RelupForm ℕ) → relup_in v ≡ o → StandsOrNot v
    by_word true is o read = inl (None, from_is_word (codes "none") v is)
    by_word false other (Ok r) read = inl (Some r, from_relup v r read)
    by_word false other (Err n) read = inr (neither other n read)

-- a word, a list and two terms make the term of a record
parts_spelled : (m : Value × Value × Value × Value) (word : List ℕ) (vs : Values) → word_in m.0 ≡ Some word → list_in m.2 ≡ Some vs
    → tuple (value m.0 (value m.1 (value m.2 (value m.3 no_values)))) ≡ release_term word m.1 vs m.3
parts_spelled m word vs name libs = λ k. tuple (value (from_word m.0 word name k) (value m.1 (value (from_list m.2 vs libs k) (value m.3 no_values))))

-- the parts of a term are those of a record's term
pub is_parts_term : (v : Value) (p : ReleaseParts) → parts_in v ≡ Some p → v ≡ parts_term p
is_parts_term v p e =
    let (m, four, rest) = chained (λ (m : Value × Value × Value × Value). option_and_then (λ (word : List ℕ). option_map (parts_with m word) (list_in m.2)) (word_in m.0)) (four_in v) p e in
    let (word, name, listed) = chained (λ (word : List ℕ). option_map (parts_with m word) (list_in m.2)) (word_in m.0) p rest in
    let (vs, libs, same) = mapped (parts_with m word) (list_in m.2) p listed in
    by m word vs four name libs same
  where
    by : (m : Value × Value × Value × Value) (word : List ℕ) (vs : Values) → four_in v ≡ Some m → word_in m.0 ≡ Some word → list_in m.2 ≡ Some vs → parts_with m word vs ≡ p → v ≡ parts_term p
    by m word vs four name libs same = from_four v m four ∙ (parts_spelled m word vs name libs ∙ ap parts_term same)
