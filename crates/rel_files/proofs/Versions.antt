-- The release that a sketch is, where each version is one.
use Rattle.std.proofs.Common.{◌≡◌, ℕ, ℤ, List, [], ◌∷◌, ◌++◌, length, map, Option, Some, None, refl, sym, ap, subst, ◌∙◌, arith}
use Rattle.std.specs.List.{AllByRecursion}
use Rattle.std.specs.Option.{option_map, option_and_then}
use Rattle.std.proofs.lemmas.List.{append-nil}
use Rattle.erl_term.specs.Value.{Values}
use Rattle.erl_term.specs.Value.Value.{int}
use Rattle.erl_term.specs.Value.Values.{no_values, value}
use Rattle.rel_files.specs.declared.draft.AppDraft.{AppDraft}
use Rattle.rel_files.specs.declared.release.RelApp.{RelApp}
use Rattle.rel_files.specs.Name.{IsVersion}
use Rattle.rel_files.specs.Release.{Release, Application, application_of}
use Rattle.rel_files.specs.Form.{AppForm, Form, app_form_of, form_of}
use Rattle.rel_files.specs.File.{HasVersions}
use Rattle.rel_files.specs.Sketch.{text_in, app_in, apps_in, release_in}
use Rattle.rel_files.specs.Sketched.{app_sketch_of}
use Rattle.rel_files.proofs.Options.{mapped, chained}
use Rattle.rel_files.proofs.Rows.{joined, viewed}
use Rattle.rel_files.proofs.Texts.{numbers, text_in-numbers, from_text}
use Rattle.rel_files.proofs.Shape.{app_form_sketch, form_sketch}
use Rattle.rel_files.specs.Terms.{numbers_of}

-- the numbers that these terms are
abbrev ints : Values → List ℤ
ints no_values = []
ints (value (int z) vs) = z ∷ ints vs
ints (value v vs) = ints vs

ints-numbers : (zs : List ℤ) → ints (numbers zs) ≡ zs
ints-numbers [] = refl
ints-numbers (z ∷ zs) = ap (λ (ys : List ℤ). z ∷ ys) (ints-numbers zs)

from_version : (zs : List ℤ) (s : List ℕ) → text_in 0x21 (numbers zs) ≡ Some s → (zs ≡ numbers_of s) × IsVersion s
from_version zs s e =
    let read = from_text 0x21 (numbers zs) s e in
    (sym (ints-numbers zs) ∙ ap ints read.0 ∙ ints-numbers (numbers_of s), read.1)

abbrev AreVersions : List Application → Type 0
AreVersions as' = AllByRecursion (λ (a : Application). IsVersion a.vsn) as'

apps_in-forms : (as' : List Application) → AreVersions as' → apps_in (map app_form_sketch (map app_form_of as')) ≡ Some as'
apps_in-forms [] each = refl
apps_in-forms (a ∷ as') each =
    let first : app_in (app_form_sketch (app_form_of a)) ≡ Some a =
    ap (option_map (λ (s : List ℕ). record { name = a.name; vsn = s; start = a.start; included = a.included })) (text_in-numbers 0x21 a.vsn each.0) in
    ap (option_and_then (λ (b : Application). option_map (λ (bs : List Application). b ∷ bs) (apps_in (map app_form_sketch (map app_form_of as'))))) first
    ∙ ap (option_map (λ (bs : List Application). a ∷ bs)) (apps_in-forms as' each.1)

from_apps : (forms : List AppForm) (as' : List Application) → apps_in (map app_form_sketch forms) ≡ Some as' → (forms ≡ map app_form_of as') × AreVersions as'
from_apps [] [] e = (refl, tt)
from_apps [] (a ∷ as') e = absurd cc
from_apps (f ∷ forms) [] e =
    let first = chained (λ (b : Application). option_map (λ (bs : List Application). b ∷ bs) (apps_in (map app_form_sketch forms))) (app_in (app_form_sketch f)) [] e in
    let more = mapped (λ (bs : List Application). first.0 ∷ bs) (apps_in (map app_form_sketch forms)) [] first.2 in
    absurd cc
from_apps (f ∷ forms) (a ∷ as') e =
    let first = chained (λ (b : Application). option_map (λ (bs : List Application). b ∷ bs) (apps_in (map app_form_sketch forms))) (app_in (app_form_sketch f)) (a ∷ as') e in
    let more = mapped (λ (bs : List Application). first.0 ∷ bs) (apps_in (map app_form_sketch forms)) (a ∷ as') first.2 in
    let here : first.0 ≡ a = cc in
    let later : more.0 ≡ as' = cc in
    let version = mapped (λ (s : List ℕ). record { name = f.name; vsn = s; start = f.start; included = f.included }) (text_in 0x21 (numbers f.vsn)) a (first.1 ∙ ap Some here) in
    let read = from_version f.vsn version.0 version.1 in
    let same : f ≡ app_form_of a = (λ j. record { name = f.name; vsn = read.0 j; start = f.start; included = f.included }) ∙ ap app_form_of version.2 in
    let rest = from_apps forms as' (more.1 ∙ ap Some later) in
    ((λ j. same j ∷ rest.0 j), (subst IsVersion (ap (λ (b : Application). b.vsn) version.2) read.1, rest.1))

-- a release whose versions are some is what its form's sketch is
pub release_in-form : (r : Release) → HasVersions r → release_in (form_sketch (form_of r)) ≡ Some r
release_in-form r has =
    let made : List ℕ → List ℕ → List Application → Release = λ vsn erts apps. record { name = r.name; vsn = vsn; erts = erts; apps = apps } in
    let apps = apps_in (map app_form_sketch (map app_form_of r.apps)) in
    ap (option_and_then (λ (vsn : List ℕ). option_and_then (λ (erts : List ℕ). option_map (made vsn erts) apps) (text_in 0x21 (numbers (numbers_of r.erts))))) (text_in-numbers 0x21 r.vsn has.own)
    ∙ ap (option_and_then (λ (erts : List ℕ). option_map (made r.vsn erts) apps)) (text_in-numbers 0x21 r.erts has.erts)
    ∙ ap (option_map (made r.vsn r.erts)) (apps_in-forms r.apps has.apps)

-- and a form whose sketch is a release is that release's
pub from_release : (f : Form) (r : Release) → release_in (form_sketch f) ≡ Some r → (f ≡ form_of r) × HasVersions r
from_release f r e =
    let made : List ℕ → List ℕ → List Application → Release = λ vsn erts apps. record { name = f.name; vsn = vsn; erts = erts; apps = apps } in
    let apps = apps_in (map app_form_sketch f.apps) in
    let vsn = chained (λ (vsn : List ℕ). option_and_then (λ (erts : List ℕ). option_map (made vsn erts) apps) (text_in 0x21 (numbers f.erts))) (text_in 0x21 (numbers f.vsn)) r e in
    let erts = chained (λ (erts : List ℕ). option_map (made vsn.0 erts) apps) (text_in 0x21 (numbers f.erts)) r vsn.2 in
    let listed = mapped (made vsn.0 erts.0) apps r erts.2 in
    let own = from_version f.vsn vsn.0 vsn.1 in
    let runtime = from_version f.erts erts.0 erts.1 in
    let each = from_apps f.apps listed.0 listed.1 in (
      (λ j. record { name = f.name; vsn = own.0 j; erts = runtime.0 j; apps = each.0 j }) ∙ ap form_of listed.2,
      subst HasVersions listed.2 (record { own = own.1; erts = runtime.1; apps = each.1 }),
    )

-- one application more
pub apps-more : (before after : List AppDraft) (d : AppDraft) (old new : List RelApp) (a : RelApp) (whole : Option (List Application))
    → before ≡ d ∷ after → Some (application_of a) ≡ app_in (app_sketch_of d) → new ≡ old ++ a ∷ []
    → option_map (λ as'. map application_of old ++ as') (apps_in (map app_sketch_of before)) ≡ whole
    → option_map (λ as'. map application_of new ++ as') (apps_in (map app_sketch_of after)) ≡ whole
apps-more before after d old new a whole split made grown so_far =
    let front = map application_of old in
    let later = apps_in (map app_sketch_of after) in
    ap (λ (fs : List Application). option_map (λ (as' : List Application). fs ++ as') later) (viewed application_of old new a grown)
    ∙ (sym (joined front (application_of a) later)
    ∙ (ap (λ (o : Option Application). option_map (λ (as' : List Application). front ++ as')
    (option_and_then (λ (b : Application). option_map (λ (bs : List Application). b ∷ bs) later) o)) made
    ∙ (ap (λ (ds : List AppDraft). option_map (λ (as' : List Application). front ++ as') (apps_in (map app_sketch_of ds))) (sym split) ∙ so_far)))

-- an application has no version
pub apps-none : (before after : List AppDraft) (d : AppDraft) (made : List RelApp) (whole : Option (List Application))
    → before ≡ d ∷ after → None ≡ app_in (app_sketch_of d) → option_map (λ as'. map application_of made ++ as') (apps_in (map app_sketch_of before)) ≡ whole
    → None ≡ whole
apps-none before after d made whole split none so_far =
    let front = map application_of made in
    let later = apps_in (map app_sketch_of after) in
    ap (λ (o : Option Application). option_map (λ (as' : List Application). front ++ as')
    (option_and_then (λ (b : Application). option_map (λ (bs : List Application). b ∷ bs) later) o)) none
    ∙ (ap (λ (ds : List AppDraft). option_map (λ (as' : List Application). front ++ as') (apps_in (map app_sketch_of ds))) (sym split) ∙ so_far)

-- no application is left
pub apps-all : (left : List AppDraft) (made : List RelApp) (whole : Option (List Application)) → length left ≡ 0
    → option_map (λ as'. map application_of made ++ as') (apps_in (map app_sketch_of left)) ≡ whole → Some (map application_of made) ≡ whole
apps-all [] made whole none so_far = ap Some (sym (append-nil (map application_of made))) ∙ so_far
apps-all (d ∷ left) made whole none so_far = absurd (omega arith)
