-- The names in a relup that is made of files are names: those that the files say are.
use Rattle.std.proofs.Common.{◌≡◌, ℕ, Bool, true, false, List, [], ◌∷◌, map, Some, None, Ok, Err, IfSome, refl, sym, subst}
use Rattle.std.specs.Prelude.{if◌then◌else◌}
use Rattle.std.specs.List.{AllByRecursion}
use Rattle.std.specs.Str.{bytes_eq}
use Rattle.std.proofs.lemmas.Bool.{and_parts}
use Rattle.std.proofs.lemmas.Slice.Eq.{bytes_eq-Decides}
use Rattle.erl_term.specs.Value.{Value}
use Rattle.rel_files.specs.Form.{AreAppSpecs, app_form_of}
use Rattle.rel_files.specs.Name.{IsName, IsVersion}
use Rattle.rel_files.specs.Release.{Application}
use Rattle.rel_files.specs.AppFile.{Specification, has_few_modules}
use Rattle.appup_file.proofs.TermLemmas.{says_its_term}
use Rattle.rel_unpack.specs.Applications.{AppAt, app_form, is_named}
use Rattle.rel_unpack.specs.Order.{Outcome, Then, Each}
use Rattle.rel_unpack.specs.Paths.{app_path}
use Rattle.rel_unpack.specs.Refusal.{Refusal}
use Rattle.rel_unpack.specs.Refusal.Refusal.{vsn_mismatch, too_many}
use Rattle.rel_check.specs.Limits.{is_small}
use Rattle.rel_unpack.specs.Release.{Found, ReleaseAt, rel_form}
use Rattle.rel_unpack.specs.Source.{Source, Form, FileSays}
use Rattle.rel_unpack.proofs.FileNames.{application_names}
use Rattle.relup_row.specs.Release.{RelupAppForm, RelupReleaseForm}
use Rattle.relup_translate.specs.WellFormed.{IsWellFormedApp, IsWellFormedRelease, IsWellFormedAppup, HasWellFormedAppups}
use Rattle.relup_translate.proofs.NameLemmas as translation
use Rattle.relup_row.proofs.ListLemmas.{trivially}
use Rattle.relup_command.specs.Appups.{AppupAt, WithAppup, with_appup}
use Rattle.relup_command.specs.Laws.{AreWellFormed, ReadReleasesAreWellFormed, MadeRelupsAreNamed}
use Rattle.relup_command.specs.Releases.{Releases, RelupAppAt, RelupReleaseAt, WithAppups, relup_app, relup_release}
use Rattle.relup_command.proofs.RelupLines.{entries_all}

-- Each value that may be the outcome is such a one.
abbrev Gives : {X : Type 0} → Outcome X → (X → Type 0) → Type 0
Gives {X} P G = (x : X) → P (Ok x) → G x

-- Where the outcome is a value that has G, each value that may be the outcome has it.
gives_value : {X : Type 0} (G : X → Type 0) (x : X) → G x → Gives (λ r. r ≡ Ok x) G
gives_value G x h y e = let same : x ≡ y = cc in subst G same h

-- Where the outcome is refused by a test or is a value that has G, each value that may be the outcome has it.
gives_tested : {X : Type 0} (G : X → Type 0) (x : X) (why : Refusal) (b : Bool) → (b ≡ true → G x)
    → Gives (λ r. r ≡ (if b then Ok x else Err why)) G
gives_tested G x why true h y e = gives_value G x (h refl) y e
gives_tested G x why false h y e = absurd cc

-- First this, and then that.
gives_then : {A B : Type 0} (P : Outcome A) (Q : A → Outcome B) (G : A → Type 0) (H : B → Type 0)
    → Gives P G → ((a : A) → G a → Gives (Q a) H) → Gives (Then P Q) H
gives_then P Q G H first next b (a, p, q) = next a (first a p) b q

-- Each in turn.
gives_each : {A B : Type 0} (P : A → Outcome B) (K : A → Type 0) (G : B → Type 0) → ((a : A) → K a → Gives (P a) G)
    → (as' : List A) → AllByRecursion K as' → Gives (Each P as') (AllByRecursion G)
gives_each P K G each [] h = gives_value (AllByRecursion G) [] tt
gives_each P K G each (a ∷ as') h =
    gives_then (P a) (λ b. Then (Each P as') (λ bs t. t ≡ Ok (b ∷ bs))) G (AllByRecursion G) (each a h.0)
    (λ b first. gives_then (Each P as') (λ bs t. t ≡ Ok (b ∷ bs)) (AllByRecursion G) (AllByRecursion G) (gives_each P K G each as' h.1)
    (λ bs more. gives_value (AllByRecursion G) (b ∷ bs) (first, more)))

-- What a file says, some bytes say.
gives_said : {X : Type 0} (form : Form X) (source : Source) (path : List ℕ)
    → Gives (FileSays form source path) (λ x. (bytes : List ℕ) × form.says bytes x)
gives_said form source path x (bytes, reads, says) = (bytes, says)

-- An application has a name and a version.
abbrev IsNamed : Application → Type 0
IsNamed a = IsName a.name × IsVersion a.vsn

named_applications : (vs : List Value) (apps : List Application) → AreAppSpecs vs (map app_form_of apps)
    → AllByRecursion (λ (a : Application). IsVersion a.vsn) apps → AllByRecursion IsNamed apps
named_applications vs [] are versions = tt
named_applications [] (a ∷ apps) are versions = absurd are
named_applications (v ∷ vs) (a ∷ apps) (is, are) (version, versions) = ((is.name, version), named_applications vs apps are versions)

-- A release has a version, and its applications have names and versions.
abbrev HasNames : Found → Type 0
HasNames f = IsVersion f.release.vsn × AllByRecursion IsNamed f.release.apps

gives_release : (source : Source) (path : List ℕ) → Gives (ReleaseAt source path) HasNames
gives_release source path =
    gives_then (FileSays rel_form source path) (λ f r. r ≡ (if is_small f.release then Ok f else Err too_many)) _ HasNames (gives_said rel_form source path)
    (λ f (bytes, (has, says)). gives_tested HasNames f too_many (is_small f.release)
    (λ small. (says.versions.own, named_applications says.shape.apps f.release.apps says.shape.each says.versions.apps)))

-- What the file of an application says is of its name and version, and its modules have names.
abbrev IsNamedSpecification : Specification → Type 0
IsNamedSpecification s = IsName s.name × IsVersion s.vsn × AllByRecursion IsName s.modules

gives_specification : (source : Source) (a : Application) → IsNamed a → Gives (AppAt source a) IsNamedSpecification
gives_specification source a named =
    gives_then (FileSays app_form source (app_path a)) (λ s r. r ≡ (if is_named a s then Ok s else Err (vsn_mismatch (app_path a)))) _ IsNamedSpecification
    (gives_said app_form source (app_path a))
    (λ s (bytes, (v, here, says)). gives_tested IsNamedSpecification s (vsn_mismatch (app_path a)) (is_named a s) (λ is. (
      subst IsName (sym ((bytes_eq-Decides s.name a.name).0 (and_parts (bytes_eq s.name a.name) (bytes_eq s.vsn a.vsn) is).0)) named.0,
      says.versions,
      (application_names v s says.shape).modules,
    )))

-- An application that files give is well formed.
gives_app : (source : Source) (a : Application) → IsNamed a → Gives (RelupAppAt source a) IsWellFormedApp
gives_app source a named =
    gives_then (AppAt source a) (λ s r. r ≡ (if has_few_modules s then Ok (relup_app a.start s) else Err too_many)) IsNamedSpecification IsWellFormedApp
    (gives_specification source a named)
    (λ s said. gives_tested IsWellFormedApp (relup_app a.start s) too_many (has_few_modules s) (λ few. said))

-- A release that files give is well formed.
gives_relup_release : (source : Source) (path : List ℕ) → Gives (RelupReleaseAt source path) IsWellFormedRelease
gives_relup_release source path =
    gives_then (ReleaseAt source path) (λ f. Then (Each (RelupAppAt source) f.release.apps) (λ apps r. r ≡ Ok (relup_release f.release apps)))
    HasNames IsWellFormedRelease (gives_release source path)
    (λ f names. gives_then (Each (RelupAppAt source) f.release.apps) (λ apps r. r ≡ Ok (relup_release f.release apps))
    (AllByRecursion IsWellFormedApp) IsWellFormedRelease (gives_each (RelupAppAt source) IsNamed IsWellFormedApp (gives_app source) f.release.apps names.1)
    (λ apps are. gives_value IsWellFormedRelease (relup_release f.release apps) (names.0, are)))

-- Each of several releases that files give is well formed.
gives_releases : (source : Source) (paths : List (List ℕ)) → Gives (Each (RelupReleaseAt source) paths) (AllByRecursion IsWellFormedRelease)
gives_releases source paths =
    gives_each (RelupReleaseAt source) (λ path. Unit {0}) IsWellFormedRelease (λ path any. gives_relup_release source path) paths (trivially paths)

-- The appup of an application is well formed, if it has one.
gives_appup : (source : Source) (a : RelupAppForm) → Gives (AppupAt source a) (λ p. IfSome p IsWellFormedAppup)
gives_appup source a None missing = tt
gives_appup source a (Some p) (bytes, reads, (v, here, says)) =
    let term = (says_its_term v p).0 says in
    (entries_all term.ups p.ups term.each_up, entries_all term.downs p.downs term.each_down)

-- An application is well formed, and so is its appup, if it has one.
abbrev IsWhole : RelupAppForm → Type 0
IsWhole a = IsWellFormedApp a × IfSome a.appup IsWellFormedAppup

gives_with_appup : (source : Source) (a : RelupAppForm) → IsWellFormedApp a → Gives (WithAppup source a) IsWhole
gives_with_appup source a of =
    gives_then (AppupAt source a) (λ p r. r ≡ Ok (with_appup a p)) (λ p. IfSome p IsWellFormedAppup) IsWhole (gives_appup source a)
    (λ p is. gives_value IsWhole (with_appup a p) (of, is))

whole_apps : (apps : List RelupAppForm) → AllByRecursion IsWhole apps
    → AllByRecursion IsWellFormedApp apps × AllByRecursion (λ (a : RelupAppForm). IfSome a.appup IsWellFormedAppup) apps
whole_apps [] h = (tt, tt)
whole_apps (a ∷ apps) h = let more = whole_apps apps h.1 in ((h.0.0, more.0), (h.0.1, more.1))

-- A release is well formed, and so are its appups.
abbrev IsWholeRelease : RelupReleaseForm → Type 0
IsWholeRelease r = IsWellFormedRelease r × HasWellFormedAppups r

gives_with_appups : (source : Source) (r : RelupReleaseForm) → IsWellFormedRelease r → Gives (WithAppups source r) IsWholeRelease
gives_with_appups source r of =
    let whole : List RelupAppForm → RelupReleaseForm = λ apps. record { vsn = r.vsn; erts = r.erts; apps = apps } in
    gives_then (Each (WithAppup source) r.apps) (λ apps s. s ≡ Ok (whole apps)) (AllByRecursion IsWhole) IsWholeRelease
    (gives_each (WithAppup source) IsWellFormedApp IsWhole (gives_with_appup source) r.apps of.1)
    (λ apps are. let both = whole_apps apps are in gives_value IsWholeRelease (whole apps) ((of.0, both.0), both.1))

-- The releases of a request are well formed, so that their relup is one that a file can say.
pub read_releases_are_well_formed : (source : Source) → ReadReleasesAreWellFormed source
read_releases_are_well_formed source new ups downs all (release, at_new, (lower, at_ups, (back, at_downs, (whole, at_whole, is)))) =
    let here : Releases = record { new = whole; ups = lower; downs = back } in
    let same : here ≡ all = cc in
    let of_whole = gives_with_appups source release (gives_relup_release source new release at_new) whole at_whole in
    subst AreWellFormed same (record { new = of_whole.0; appups = of_whole.1; ups = gives_releases source ups lower at_ups; downs = gives_releases source downs back at_downs })

pub made_relups_are_named : (source : Source) → MadeRelupsAreNamed source
made_relups_are_named source new ups downs relup (all, there, made) =
    let of = read_releases_are_well_formed source new ups downs all there in
    translation.made_relups_are_named all.new all.ups all.downs relup of.new of.appups of.ups of.downs made
