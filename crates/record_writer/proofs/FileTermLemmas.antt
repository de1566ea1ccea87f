-- The terms that an image writes say their releases and relups.
use Rattle.std.proofs.Common.{inl, inr, ℕ, ◌++◌, List, [], ◌∷◌, map, Option, Some, None, refl}
use Rattle.std.specs.List.{AllByRecursion}
use Rattle.std.specs.Option.{option_map}
use Rattle.erl_term.specs.Value.{Value}
use Rattle.rel_files.specs.declared.release.StartType.{StartType}
use Rattle.rel_files.specs.declared.release.StartType.TheVariants.{Permanent, Transient, Temporary, Load, Unloaded}
use Rattle.rel_files.specs.File.{IsReleaseTerm}
use Rattle.rel_files.specs.Form.{AreAppSpecs, IsAppSpec, IsEnding, app_form_of}
use Rattle.rel_files.specs.Name.{IsName}
use Rattle.rel_files.specs.Release.{Application, Release}
use Rattle.relup_file.specs.Form.{relup_term}
use Rattle.relup_file.specs.Relup.{RelupForm}
use Rattle.relup_file.proofs.RelupLemmas.{is_relup, is_said}
use Rattle.rel_records.specs.Reading.{StandsForRelup}
use Rattle.rel_records.specs.Record.{relup_or_none}
use Rattle.rel_records.specs.ReleaseTerm.{application_term, file_term, included_members, start_members}

-- the included applications have names
HaveNames : Option (List (List ℕ)) → Type 0
HaveNames None = Unit {0}
HaveNames (Some names) = AllByRecursion IsName names

included_names : (ending : List Value) (start : StartType) (included : Option (List (List ℕ))) → IsEnding ending start included → HaveNames included
unfolding HaveNames
included_names ending start None ends = tt
included_names [] start (Some names) ends = absurd cc
included_names (v ∷ []) start (Some names) (inl (is, none)) = absurd cc
included_names (v ∷ []) start (Some names) (inr (is, lists)) = lists.1
included_names (v ∷ w ∷ []) start (Some names) ends = ends.1.1
included_names (v ∷ w ∷ x ∷ vs) start (Some names) ends = absurd ends

-- what is written after a version ends an application as its file did
ends_so : (start : StartType) (included : Option (List (List ℕ))) → HaveNames included → IsEnding (start_members start ++ included_members included) start included
unfolding HaveNames
ends_so Permanent None names = (refl, refl)
ends_so Permanent (Some ns) names = inr (refl, (refl, names))
ends_so Transient None names = inl (refl, refl)
ends_so Transient (Some ns) names = (refl, (refl, names))
ends_so Temporary None names = inl (refl, refl)
ends_so Temporary (Some ns) names = (refl, (refl, names))
ends_so Load None names = inl (refl, refl)
ends_so Load (Some ns) names = (refl, (refl, names))
ends_so Unloaded None names = inl (refl, refl)
ends_so Unloaded (Some ns) names = (refl, (refl, names))

application_said : (v : Value) (a : Application) → IsAppSpec v (app_form_of a) → IsAppSpec (application_term a) (app_form_of a)
application_said v a says = record {
  ending = start_members a.start ++ included_members a.included;
  is = refl;
  name = says.name;
  ends = ends_so a.start a.included (included_names says.ending a.start a.included says.ends);
}

applications_said : (vs : List Value) (as' : List Application) → AreAppSpecs vs (map app_form_of as') → AreAppSpecs (map application_term as') (map app_form_of as')
applications_said [] [] say = tt
applications_said [] (a ∷ as') say = absurd say
applications_said (v ∷ vs) [] say = absurd say
applications_said (v ∷ vs) (a ∷ as') say = (application_said v a say.0, applications_said vs as' say.1)

-- What a term says of a release, the term that an image writes says.
pub file_term_says : (v : Value) (r : Release) → IsReleaseTerm v r → IsReleaseTerm (file_term r) r
file_term_says v r says = record {
  shape = record {
    apps = map application_term r.apps;
    is = refl;
    name = says.shape.name;
    each = applications_said says.shape.apps r.apps says.shape.each;
  };
  distinct = says.distinct;
  versions = says.versions;
}

-- And so of a relup, or of none.
pub relup_term_stands : (v : Value) (o : Option RelupForm) → StandsForRelup v o → StandsForRelup (relup_or_none (option_map relup_term o)) o
relup_term_stands v None is = refl
relup_term_stands v (Some r) says = is_said r (is_relup v r says)
