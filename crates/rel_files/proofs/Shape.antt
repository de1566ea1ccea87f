-- The shape of a release file's term, both ways: what is made of a term is the sketch of its form.
use Rattle.std.proofs.Common.{◌≡◌, ℕ, Bool, ◌&&◌, List, [], ◌∷◌, map, Some, None, if◌then◌else◌, refl, sym, ap, ◌∙◌}
use Rattle.std.specs.Option.{option_map, option_and_then}
use Rattle.erl_term.specs.Value.{Value, Values, values_of}
use Rattle.erl_term.specs.Value.Value.{atom, list, tuple}
use Rattle.erl_term.specs.Value.Values.{no_values, value}
use Rattle.rel_files.specs.Name.{is_name}
use Rattle.rel_files.specs.Form.{AppForm, Form, IsAppSpec, AreAppSpecs, IsRelTerm}
use Rattle.rel_files.specs.Parts.{AppParts, app_parts, RelParts, rel_parts}
use Rattle.rel_files.specs.Sketch.{are_numbers, text_in, End, end_in, AppSketch, app_sketch, app_sketch_in, app_sketches_in, Sketch, sketch, sketch_in}
use Rattle.rel_files.proofs.Options.{mapped, chained, passed, both, both_true}
use Rattle.rel_files.proofs.Texts.{numbers, are_numbers-numbers, from_numbers, text_in-numbers, from_text}
use Rattle.rel_files.proofs.TermParts.{from_app_parts, rel_term, from_rel_parts}
use Rattle.rel_files.proofs.Endings.{end_in-ending, from_end}
use Rattle.rel_files.specs.Terms.{numbers_of}

-- a form, where a version is only known if it is one
abbrev pub app_form_sketch : AppForm → AppSketch
app_form_sketch a = record { name = a.name; vsn = text_in 0x21 (numbers a.vsn); start = a.start; included = a.included }

abbrev pub form_sketch : Form → Sketch
form_sketch f = record { name = f.name; vsn = text_in 0x21 (numbers f.vsn); erts = text_in 0x21 (numbers f.erts); apps = map app_form_sketch f.apps }

app_sketch_in-term : (v : Value) (a : AppForm) → IsAppSpec v a → app_sketch_in v ≡ Some (app_form_sketch a)
app_sketch_in-term v a is =
    let sketched : End → AppSketch = λ e. record { name = a.name; vsn = text_in 0x21 (numbers a.vsn); start = e.start; included = e.included } in
    ap app_sketch_in is.is
    ∙ ap (λ (b : Bool). if b then option_map sketched (end_in (values_of is.ending)) else None)
    (both_true (is_name a.name) (are_numbers (numbers a.vsn)) is.name (are_numbers-numbers a.vsn))
    ∙ ap (option_map sketched) (end_in-ending is.ending a.start a.included is.ends)

from_app_sketch : (v : Value) (k : AppSketch) → app_sketch_in v ≡ Some k → (a : AppForm) × IsAppSpec v a × (k ≡ app_form_sketch a)
from_app_sketch v k e =
    let parts = chained app_sketch (app_parts v) k e in
    let p : AppParts = parts.0 in
    let sketched : End → AppSketch = λ d. record { name = p.name; vsn = text_in 0x21 p.vsn; start = d.start; included = d.included } in
    let valid = passed (is_name p.name && are_numbers p.vsn) (option_map sketched (end_in p.ending)) k parts.2 in
    let texts = both (is_name p.name) (are_numbers p.vsn) valid.0 in
    let ended = mapped sketched (end_in p.ending) k valid.1 in
    let vsn = from_numbers p.vsn texts.1 in
    let ending = from_end p.ending ended.0 ended.1 in
    let form : AppForm = record { name = p.name; vsn = vsn.0; start = ended.0.start; included = ended.0.included } in (
      form,
      record {
        ending = ending.0;
        is = from_app_parts v p parts.1 ∙ (λ j. tuple (value (atom p.name) (value (list (vsn.1 j)) (ending.1 j))));
        name = texts.0;
        ends = ending.2;
      },
      sym ended.2 ∙ (λ j. record { name = p.name; vsn = text_in 0x21 (vsn.1 j); start = ended.0.start; included = ended.0.included }),
    )

app_sketches_in-terms : (vs : List Value) (forms : List AppForm) → AreAppSpecs vs forms → app_sketches_in (values_of vs) ≡ Some (map app_form_sketch forms)
app_sketches_in-terms [] [] each = refl
app_sketches_in-terms (v ∷ vs) (a ∷ forms) each =
    ap (option_and_then (λ (k : AppSketch). option_map (λ (ks : List AppSketch). k ∷ ks) (app_sketches_in (values_of vs)))) (app_sketch_in-term v a each.0)
    ∙ ap (option_map (λ (ks : List AppSketch). app_form_sketch a ∷ ks)) (app_sketches_in-terms vs forms each.1)
app_sketches_in-terms vs forms each = absurd each

from_app_sketches : (vs : Values) (ks : List AppSketch) → app_sketches_in vs ≡ Some ks
    → (terms : List Value) × (forms : List AppForm) × (vs ≡ values_of terms) × AreAppSpecs terms forms × (ks ≡ map app_form_sketch forms)
from_app_sketches no_values ks e = ([], [], refl, tt, cc)
from_app_sketches (value v vs) ks e =
    let first = chained (λ (k : AppSketch). option_map (λ (later : List AppSketch). k ∷ later) (app_sketches_in vs)) (app_sketch_in v) ks e in
    let more = mapped (λ (later : List AppSketch). first.0 ∷ later) (app_sketches_in vs) ks first.2 in
    let here = from_app_sketch v first.0 first.1 in
    let rest = from_app_sketches vs more.0 more.1 in
    (v ∷ rest.0, here.0 ∷ rest.1, ap (value v) rest.2, (here.1, rest.3), sym more.2 ∙ (λ j. here.2 j ∷ rest.4 j))

-- a term of the shape has the sketch of its form
pub sketch_in-term : (v : Value) (f : Form) → IsRelTerm v f → sketch_in v ≡ Some (form_sketch f)
sketch_in-term v f is =
    let named : List ℕ → List AppSketch → Sketch = λ name apps. record { name = name; vsn = text_in 0x21 (numbers f.vsn); erts = text_in 0x21 (numbers f.erts); apps = apps } in
    let apps = app_sketches_in-terms is.apps f.apps is.each in
    ap sketch_in is.is
    ∙ ap (λ (b : Bool). if b then option_and_then (λ (name : List ℕ). option_map (named name) (app_sketches_in (values_of is.apps))) (text_in 0x20 (numbers (numbers_of f.name))) else None)
    (both_true (are_numbers (numbers f.vsn)) (are_numbers (numbers f.erts)) (are_numbers-numbers f.vsn) (are_numbers-numbers f.erts))
    ∙ ap (option_and_then (λ (name : List ℕ). option_map (named name) (app_sketches_in (values_of is.apps)))) (text_in-numbers 0x20 f.name is.name)
    ∙ ap (option_map (named f.name)) apps

-- a term with a sketch has a form, and that is its sketch
pub from_sketch : (v : Value) (k : Sketch) → sketch_in v ≡ Some k → (f : Form) × IsRelTerm v f × (k ≡ form_sketch f)
from_sketch v k e =
    let parts = chained sketch (rel_parts v) k e in
    let p : RelParts = parts.0 in
    let named : List ℕ → List AppSketch → Sketch = λ name apps. record { name = name; vsn = text_in 0x21 p.title.vsn; erts = text_in 0x21 p.erts; apps = apps } in
    let valid = passed (are_numbers p.title.vsn && are_numbers p.erts)
    (option_and_then (λ (name : List ℕ). option_map (named name) (app_sketches_in p.apps)) (text_in 0x20 p.title.name)) k parts.2 in
    let numeric = both (are_numbers p.title.vsn) (are_numbers p.erts) valid.0 in
    let title = chained (λ (name : List ℕ). option_map (named name) (app_sketches_in p.apps)) (text_in 0x20 p.title.name) k valid.1 in
    let apps = mapped (named title.0) (app_sketches_in p.apps) k title.2 in
    let name = from_text 0x20 p.title.name title.0 title.1 in
    let vsn = from_numbers p.title.vsn numeric.0 in
    let erts = from_numbers p.erts numeric.1 in
    let each = from_app_sketches p.apps apps.0 apps.1 in
    let form : Form = record { name = title.0; vsn = vsn.0; erts = erts.0; apps = each.1 } in (
      form,
      record {
        apps = each.0;
        is = from_rel_parts v p parts.1 ∙ (λ j. rel_term (record { title = record { name = name.0 j; vsn = vsn.1 j }; erts = erts.1 j; apps = each.2 j }));
        name = name.1;
        each = each.3;
      },
      sym apps.2 ∙ (λ j. record { name = title.0; vsn = text_in 0x21 (vsn.1 j); erts = text_in 0x21 (erts.1 j); apps = each.4 j }),
    )
