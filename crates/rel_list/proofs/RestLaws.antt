-- Events lead from a list as records report it to each other one of the same releases.
use Rattle.std.proofs.Common.{◌≡◌, ◌⊎◌, ℕ, ◌≤◌, Bool, true, false, cond, List, [], ◌∷◌, ◌++◌, length, map, Option, Some, None, is_some, inl, inr, refl, sym, ap, subst, ◌∙◌, true≢false, arith}
use Rattle.std.specs.Option.{option_map}
use Rattle.std.specs.Str.{bytes_eq}
use Rattle.std.proofs.lemmas.Bool.{cases_Bool}
use Rattle.rel_list.specs.declared.status.Status.{Status}
use Rattle.rel_list.specs.declared.status.Status.TheVariants.{Unpacked, Current, Old, Permanent, OneShot}
use Rattle.rel_list.specs.Status.{is_old, is_one_shot, is_permanent, is_temporary}
use Rattle.rel_list.specs.Releases.{Bundle, Releases, Entry, entry, bundle_in, status_of, of_status, has_one_shot, HasDistinctVersions}
use Rattle.rel_list.specs.Event.{Event, may_be_installed, may_be_made_permanent, installed_status, restarted_status, permanent_status, booted_status, recorded_status, with_statuses, list_restarted, booted, recorded, list_from}
use Rattle.rel_list.specs.Event.Event.{installed, restart_installed, made_permanent, boot}
use Rattle.rel_list.specs.Laws.{bundles_of, IsRecorded}
use Rattle.rel_list.proofs.BootLaws.{boot_leaves_no_one_shot, first_is_none, none_is_one_shot}
use Rattle.rel_list.proofs.Orderly.{same_version, is_itself, differs_back, first_differs, none_behind, distinct-with_statuses, just_as_many}
use Rattle.rel_list.proofs.EventLaws.{list_from-append, permanent-booted, permanents}

-- Releases with given statuses

-- the releases of a list, with a status for each version
abbrev given : (List ℕ → Status) → Releases → Releases
given status es = with_statuses (λ w s. status w) es

-- their former statuses don't matter
given-bundles : (status : List ℕ → Status) (es : Releases) → given status es ≡ map (λ (p : Bundle). entry p (status p.release.vsn)) (bundles_of es)
given-bundles status [] = refl
given-bundles status (e ∷ es) = ap (λ l. entry (bundle_in e) (status e.release.vsn) ∷ l) (given-bundles status es)

given-changed : (f : List ℕ → Status → Status) (status : List ℕ → Status) (es : Releases) → with_statuses f (given status es) ≡ given (λ w. f w (status w)) es
given-changed f status [] = refl
given-changed f status (e ∷ es) = ap (λ l. record e { status = f e.release.vsn (status e.release.vsn) } ∷ l) (given-changed f status es)

status-given : (v : List ℕ) (status : List ℕ → Status) (es : Releases) → is_some (status_of v es) ≡ true → status_of v (given status es) ≡ Some (status v)
status-given v status [] listed = absurd (true≢false (sym listed))
status-given v status (e ∷ es) listed = elim (cases_Bool (bytes_eq v e.release.vsn)) [
  | inl is ↦ rw is (ap (λ w. Some (status w)) (sym (same_version v e.release.vsn is)))
  | inr is ↦ rw is (status-given v status es (rw is at listed))
]

-- Statuses at rest

-- the status of the permanent release, or of another one, which is old or not
abbrev rest_status : Bool → Bool → Status
rest_status true old = Permanent
rest_status false true = Old
rest_status false false = Unpacked

-- the releases of a list, of which one is permanent and others are old
abbrev resting : List ℕ → (List ℕ → Bool) → Releases → Releases
resting p old es = given (λ w. rest_status (bytes_eq p w) (old w)) es

-- which ones are old, with another answer for one version
abbrev but : List ℕ → Bool → (List ℕ → Bool) → List ℕ → Bool
but v answer old w = cond (bytes_eq v w) answer (old w)

-- it doesn't matter where no release has the version
but-unlisted : (v p : List ℕ) (answer : Bool) (old : List ℕ → Bool) (es : Releases) → status_of v es ≡ None → resting p (but v answer old) es ≡ resting p old es
but-unlisted v p answer old [] none = refl
but-unlisted v p answer old (e ∷ es) none = λ k.
    record e { status = rest_status (bytes_eq p e.release.vsn) (cond (first_differs v e es none k) answer (old e.release.vsn)) }
    ∷ but-unlisted v p answer old es (none_behind v e es none) k

-- nor for the permanent release
but_permanent : (v p first second old : Bool) → rest_status p (cond v first (cond p second old)) ≡ rest_status p (cond v first old)
but_permanent v true first second old = refl
but_permanent v false first second old = refl

-- no release is a one-shot, at rest or after an installation
none-given : (status : List ℕ → Status) → ((w : List ℕ) → is_one_shot (status w) ≡ false) → (es : Releases) → has_one_shot (given status es) ≡ false
none-given status never es = none_is_one_shot (λ w s. status w) (λ w s. never w) es

none_at_rest : (p old : Bool) → is_one_shot (rest_status p old) ≡ false
none_at_rest true old = refl
none_at_rest false true = refl
none_at_rest false false = refl

none_installed : (v p old : Bool) → is_one_shot (installed_status v (rest_status p old)) ≡ false
none_installed true true old = refl
none_installed true false true = refl
none_installed true false false = refl
none_installed false true old = refl
none_installed false false true = refl
none_installed false false false = refl

-- the status after an installation that is made permanent
raised_status : (v p old : Bool) → permanent_status v (installed_status v (rest_status p old)) ≡ rest_status v (cond p true old)
raised_status true p old = refl
raised_status false true old = refl
raised_status false false true = refl
raised_status false false false = refl

-- the status after an installation and a boot
unpacked_status : (v p old : Bool) → booted_status (installed_status v (rest_status p old)) ≡ rest_status p (cond v false old)
unpacked_status true true old = refl
unpacked_status true false true = refl
unpacked_status true false false = refl
unpacked_status false true old = refl
unpacked_status false false true = refl
unpacked_status false false false = refl

-- what isn't permanent may be installed, and made permanent then
allows_installation : (other old : Bool) → may_be_installed other (Some (rest_status false old)) ≡ true
allows_installation other true = refl
allows_installation other false = refl

allows_permanence : (old : Bool) → may_be_made_permanent (Some (installed_status true (rest_status false old))) ≡ true
allows_permanence true = refl
allows_permanence false = refl

-- Events in a row

-- none of a list at rest is a one-shot
none-resting : (p : List ℕ) (old : List ℕ → Bool) (es : Releases) → has_one_shot (resting p old es) ≡ false
none-resting p old es = none-given (λ w. rest_status (bytes_eq p w) (old w)) (λ w. none_at_rest (bytes_eq p w) (old w)) es

-- the list after an installation of a release at rest
abbrev installing : List ℕ → List ℕ → (List ℕ → Bool) → Releases → Releases
installing v p old es = given (λ w. installed_status (bytes_eq v w) (rest_status (bytes_eq p w) (old w))) es

none-installing : (v p : List ℕ) (old : List ℕ → Bool) (es : Releases) → has_one_shot (installing v p old es) ≡ false
none-installing v p old es =
    none-given (λ w. installed_status (bytes_eq v w) (rest_status (bytes_eq p w) (old w))) (λ w. none_installed (bytes_eq v w) (bytes_eq p w) (old w)) es

-- a release becomes the permanent one, and the former one is old
raise : (v p : List ℕ) (old : List ℕ → Bool) (es : Releases) (events : List Event) → is_some (status_of v es) ≡ true → bytes_eq p v ≡ false
    → list_from (resting p old es) (installed v ∷ made_permanent v ∷ events) ≡ list_from (resting v (but p true old) es) events
raise v p old es events listed differ =
    rw (none-resting p old es, status-given v _ es listed, differ, allows_installation _ (old v), given-changed (λ w s. installed_status (bytes_eq v w) s) _ es)
    (rw (none-installing v p old es, status-given v _ es listed, is_itself v, differ, allows_permanence (old v))
    (ap (λ l. list_from l events)
    (given-changed (λ w s. permanent_status (bytes_eq v w) s) _ es ∙ (λ k. given (λ w. raised_status (bytes_eq v w) (bytes_eq p w) (old w) k) es))))

-- another release is unpacked again
unpack : (v p : List ℕ) (old : List ℕ → Bool) (es : Releases) (events : List Event) → is_some (status_of v es) ≡ true → bytes_eq p v ≡ false
    → list_from (resting p old es) (installed v ∷ boot ∷ events) ≡ list_from (resting p (but v false old) es) events
unpack v p old es events listed differ =
    rw (none-resting p old es, status-given v _ es listed, differ, allows_installation _ (old v), given-changed (λ w s. installed_status (bytes_eq v w) s) _ es)
    (ap (λ l. list_from l events)
    (given-changed (λ w s. booted_status s) _ es ∙ (λ k. given (λ w. unpacked_status (bytes_eq v w) (bytes_eq p w) (old w) k) es)))

-- events lead from a list to the next one
abbrev Leads : Releases → Releases → Type 0
Leads next es = (events : List Event) × (list_from es events ≡ Some next)

-- a release becomes old, or unpacked again
settle : (next : Releases) (v p : List ℕ) (old : List ℕ → Bool) (es : Releases) (answer : Bool) (o : Option Status) (b : Bool) → status_of v es ≡ o → bytes_eq p v ≡ b
    → is_some (status_of p es) ≡ true → Leads next (resting p (but v answer old) es) → Leads next (resting p old es)
settle next v p old es answer o true found is listed rest =
    subst (Leads next)
    (ap (λ u. resting p (but u answer old) es) (sym (same_version p v is)) ∙ (λ k. given (λ w. but_permanent false (bytes_eq p w) true answer (old w) k) es)) rest
settle next v p old es answer None false found is listed rest = subst (Leads next) (but-unlisted v p answer old es found) rest
settle next v p old es false (Some s) false found is listed rest =
    (installed v ∷ boot ∷ rest.0, unpack v p old es rest.0 (ap is_some found) is ∙ rest.1)
settle next v p old es true (Some s) false found is listed rest = (
  installed v ∷ made_permanent v ∷ installed p ∷ made_permanent p ∷ rest.0,
  raise v p old es (installed p ∷ made_permanent p ∷ rest.0) (ap is_some found) is ∙ raise p v (but p true old) es rest.0 listed (differs_back p v is)
      ∙ ap (λ l. list_from l rest.0) (λ k. given (λ w. but_permanent (bytes_eq v w) (bytes_eq p w) true true (old w) k) es) ∙ rest.1,
)

-- The form of a list at rest

-- which releases are old, as the statuses of a list report it
abbrev reported_by : Releases → (List ℕ → Bool) → List ℕ → Bool
reported_by [] old = old
reported_by (e ∷ es) old = but e.release.vsn (is_old e.status) (reported_by es old)

-- so do all these releases
settle_all : (next : Releases) (p : List ℕ) (old : List ℕ → Bool) (es ns : Releases) → is_some (status_of p es) ≡ true
    → Leads next (resting p (reported_by ns old) es) → Leads next (resting p old es)
settle_all next p old es [] listed rest = rest
settle_all next p old es (n ∷ ns) listed rest =
    settle_all next p old es ns listed (settle next n.release.vsn p (reported_by ns old) es (is_old n.status) _ _ refl refl listed rest)

-- what reports a status at rest
own_status : (s : Status) → booted_status s ≡ s → rest_status (is_permanent s) (is_old s) ≡ s
own_status Unpacked same = refl
own_status Current same = cc
own_status Old same = refl
own_status Permanent same = refl
own_status OneShot same = cc

-- the version of the permanent release, and what the statuses report of the others, give the list
abbrev HasForm : List ℕ → Releases → Type 0
HasForm p es = (old : List ℕ → Bool) → resting p (reported_by es old) es ≡ es

form-cons : (p : List ℕ) (e : Entry) (es : Releases) → HasDistinctVersions (e ∷ es) → booted (e ∷ es) ≡ e ∷ es
    → is_permanent e.status ≡ bytes_eq p e.release.vsn → HasForm p es → HasForm p (e ∷ es)
form-cons p e es distinct same permanent form old =
    let unchanged : record e { status = booted_status e.status } ≡ e = cc same in
    let own : rest_status (bytes_eq p e.release.vsn) (reported_by (e ∷ es) old e.release.vsn) ≡ e.status =
    rw (is_itself e.release.vsn) (rw (sym permanent) (own_status e.status (ap (λ (f : Entry). f.status) unchanged))) in
    let behind = but-unlisted e.release.vsn p (is_old e.status) (reported_by es old) es distinct.0 ∙ form old in
    λ k. record e { status = own k } ∷ behind k

-- where no release is permanent, each version that isn't listed serves
form-none : (p : List ℕ) (es : Releases) → HasDistinctVersions es → booted es ≡ es → permanents es ≡ 0 → status_of p es ≡ None → HasForm p es
form-none p [] distinct same count none = λ old. refl
form-none p (e ∷ es) distinct same count none = elim (cases_Bool (is_permanent e.status)) [
  | inl is ↦ let none_more : length (e ∷ of_status is_permanent es) ≡ 0 = rw is at count in absurd (omega (arith, none_more))
  | inr is ↦ form-cons p e es distinct same (is ∙ sym (first_differs p e es none))
      (form-none p es distinct.1 (cc same) (rw is at count) (none_behind p e es none))
]

-- a version that is listed, and one that isn't
reported_apart : (p v : List ℕ) (es : Releases) → is_some (status_of p es) ≡ true → status_of v es ≡ None → bytes_eq p v ≡ false
reported_apart p v es listed none = elim (cases_Bool (bytes_eq p v)) [
  | inl is ↦ absurd (true≢false (sym listed ∙ ap (λ w. is_some (status_of w es)) (same_version p v is) ∙ ap is_some none))
  | inr is ↦ is
]

-- where one is, its version serves
form-one : (es : Releases) → HasDistinctVersions es → booted es ≡ es → permanents es ≡ 1
    → (p : List ℕ) × (is_some (status_of p es) ≡ true) × HasForm p es
form-one [] distinct same count = absurd (omega (arith, count))
form-one (e ∷ es) distinct same count = elim (cases_Bool (is_permanent e.status)) [
  | inl is ↦ let none_more : length (e ∷ of_status is_permanent es) ≡ 1 = rw is at count in (
    e.release.vsn,
    rw (is_itself e.release.vsn) refl,
    form-cons e.release.vsn e es distinct same (is ∙ sym (is_itself e.release.vsn))
        (form-none e.release.vsn es distinct.1 (cc same) (omega (arith, none_more)) distinct.0),
  )
  | inr is ↦ let r = form-one es distinct.1 (cc same) (rw is at count) in
      let differ : bytes_eq r.0 e.release.vsn ≡ false = reported_apart r.0 e.release.vsn es r.1 distinct.0 in
      (r.0, rw differ r.1, form-cons r.0 e es distinct same (is ∙ sym differ) r.2)
]

-- No version stands twice, a boot changes nothing, and exactly one release is permanent.
record IsAtRest (es : Releases) : Type 0 where
  distinct : HasDistinctVersions es
  as_booted : booted es ≡ es
  one_permanent : permanents es ≡ 1

rest_reached : (es next : Releases) → IsAtRest es → IsAtRest next → bundles_of next ≡ bundles_of es → Leads next es
rest_reached es next here there same =
    let f = form-one es here.distinct here.as_booted here.one_permanent in
    let t = form-one next there.distinct there.as_booted there.one_permanent in
    let old : List ℕ → Bool = reported_by es (λ w. false) in
    let from : resting f.0 old next ≡ es =
    given-bundles _ next ∙ ap (map (λ (p : Bundle). entry p (rest_status (bytes_eq f.0 p.release.vsn) (old p.release.vsn)))) same ∙ sym (given-bundles _ es) ∙ f.2 (λ w. false) in
    let settled : (before : List ℕ → Bool) → Leads next (resting t.0 before next) =
    λ before. settle_all next t.0 before next next t.1 ([], ap (λ (l : Releases). Some l) (t.2 before)) in
    subst (Leads next) from (elim (cases_Bool (bytes_eq f.0 t.0)) [
      | inl is ↦ subst (λ p. Leads next (resting p old next)) (sym (same_version f.0 t.0 is)) (settled old)
      | inr is ↦ let rest = settled (but f.0 true old) in (installed t.0 ∷ made_permanent t.0 ∷ rest.0, raise t.0 f.0 old next rest.0 t.1 is ∙ rest.1)
    ])

-- One-shots

-- two boots bring each list to rest
abbrev calmed : Releases → Releases
calmed es = booted (booted es)

thrice : (s : Status) → booted_status (booted_status (booted_status s)) ≡ booted_status (booted_status s)
thrice Unpacked = refl
thrice Current = refl
thrice Old = refl
thrice Permanent = refl
thrice OneShot = refl

calm-again : (es : Releases) → booted (calmed es) ≡ calmed es
calm-again [] = refl
calm-again (e ∷ es) = λ k. record e { status = thrice e.status k } ∷ calm-again es k

permanents-booted : (es : Releases) → permanents (booted es) ≡ permanents es
permanents-booted es =
    just_as_many (λ vsn s. booted_status s) (λ (e : Entry). is_permanent e.status) (λ (e : Entry). is_permanent e.status) (λ (e : Entry). permanent-booted e.status) es

at_rest : (es : Releases) → HasDistinctVersions es → permanents es ≡ 1 → IsAtRest (calmed es)
at_rest es distinct one = record {
  distinct = distinct-with_statuses (λ w s. booted_status s) _ (distinct-with_statuses (λ w s. booted_status s) es distinct);
  as_booted = calm-again es;
  one_permanent = permanents-booted (booted es) ∙ permanents-booted es ∙ one;
}

status-booted : (v : List ℕ) (es : Releases) → status_of v (booted es) ≡ option_map booted_status (status_of v es)
status-booted v [] = refl
status-booted v (e ∷ es) = elim (cases_Bool (bytes_eq v e.release.vsn)) [
  | inl is ↦ rw is refl
  | inr is ↦ rw is (status-booted v es)
]

-- what is neither current nor a one-shot is as it was after two boots, and when another release is installed then
calm_status : (s : Status) → is_temporary s ≡ false → restarted_status false (booted_status (booted_status s)) ≡ s
calm_status Unpacked none = refl
calm_status Current none = absurd (true≢false none)
calm_status Old none = refl
calm_status Permanent none = refl
calm_status OneShot none = absurd (true≢false none)

-- a status that is written, of a release that is installed until a boot
recorded_one_shot : (s : Status) → recorded_status s ≡ s → is_temporary s ≡ true → s ≡ OneShot
recorded_one_shot Unpacked same is = absurd (true≢false (sym is))
recorded_one_shot Current same is = cc same
recorded_one_shot Old same is = absurd (true≢false (sym is))
recorded_one_shot Permanent same is = absurd (true≢false (sym is))
recorded_one_shot OneShot same is = refl

pub not_temporary : (s : Status) → is_temporary s ≡ false → is_one_shot s ≡ false
not_temporary Unpacked none = refl
not_temporary Current none = refl
not_temporary Old none = refl
not_temporary Permanent none = refl
not_temporary OneShot none = absurd (true≢false none)

-- an installation with a restart leaves the others of a list that was brought to rest
others_stay : (v : List ℕ) (es : Releases) → status_of v es ≡ None → length (of_status is_temporary es) ≡ 0 → list_restarted v (calmed es) ≡ es
others_stay v [] none few = refl
others_stay v (e ∷ es) none few = elim (cases_Bool (is_temporary e.status)) [
  | inl is ↦ let one : length (e ∷ of_status is_temporary es) ≡ 0 = rw is at few in absurd (omega (arith, one))
  | inr is ↦ let own : restarted_status (bytes_eq v e.release.vsn) (booted_status (booted_status e.status)) ≡ e.status = rw (first_differs v e es none) (calm_status e.status is) in
      let behind = others_stay v es (none_behind v e es none) (rw is at few) in
      λ k. record e { status = own k } ∷ behind k
]

-- The list has no one-shot, or it is what an installation with a restart of the one that it has makes of it, once it was brought to
-- rest.
record HasOneShotForm (es : Releases) : Type 0 where
  vsn : List ℕ
  found : status_of vsn es ≡ Some OneShot
  form : list_restarted vsn (calmed es) ≡ es

one_shot_form : (es : Releases) → HasDistinctVersions es → recorded es ≡ es → length (of_status is_temporary es) ≤ 1 → (has_one_shot es ≡ false) ⊎ HasOneShotForm es
one_shot_form [] distinct same few = inl refl
one_shot_form (e ∷ es) distinct same few = elim (cases_Bool (is_temporary e.status)) [
  | inl is ↦ let unchanged : record e { status = recorded_status e.status } ≡ e = cc same in
      let one_shot : e.status ≡ OneShot = recorded_one_shot e.status (ap (λ (f : Entry). f.status) unchanged) is in
      let only : length (e ∷ of_status is_temporary es) ≤ 1 = rw is at few in
      let behind = others_stay e.release.vsn es distinct.0 (omega (arith, only)) in
      let own : restarted_status (bytes_eq e.release.vsn e.release.vsn) (booted_status (booted_status e.status)) ≡ e.status = rw (is_itself e.release.vsn, one_shot) refl in
      inr (record {
        vsn = e.release.vsn;
        found = rw (is_itself e.release.vsn) (ap (λ s. Some s) one_shot);
        form = λ k. record e { status = own k } ∷ behind k;
      })
  | inr is ↦ elim (one_shot_form es distinct.1 (cc same) (rw is at few)) [
    | inl none ↦ inl (rw (not_temporary e.status is) none)
    | inr f ↦ let differ : bytes_eq f.vsn e.release.vsn ≡ false = reported_apart f.vsn e.release.vsn es (ap is_some f.found) distinct.0 in
        let own : restarted_status (bytes_eq f.vsn e.release.vsn) (booted_status (booted_status e.status)) ≡ e.status = rw differ (calm_status e.status is) in
        let behind = f.form in
        inr (record { vsn = f.vsn; found = rw differ f.found; form = λ k. record e { status = own k } ∷ behind k })
  ]
]

-- a one-shot is installed once the list is at rest
restart : (next : Releases) (f : HasOneShotForm next) → list_from (calmed next) (restart_installed f.vsn ∷ []) ≡ Some next
restart next f =
    let unpacked : status_of f.vsn (calmed next) ≡ Some Unpacked =
    status-booted f.vsn (booted next) ∙ ap (option_map booted_status) (status-booted f.vsn next) ∙ ap (λ o. option_map booted_status (option_map booted_status o)) f.found in
    rw (boot_leaves_no_one_shot (booted next), unpacked) (ap (λ (l : Releases). Some l) f.form)

as_it_is : (es : Releases) → recorded es ≡ es → has_one_shot es ≡ false → calmed es ≡ es
as_it_is [] same none = refl
as_it_is (e ∷ es) same none =
    let apart = first_is_none e es none in
    let unchanged : record e { status = recorded_status e.status } ≡ e = cc same in
    let behind = as_it_is es (cc same) apart.1 in
    λ k. record e { status = own e.status (ap (λ (f : Entry). f.status) unchanged) apart.0 k } ∷ behind k
  where
    own : (s : Status) → recorded_status s ≡ s → is_one_shot s ≡ false → booted_status (booted_status s) ≡ s
    own Unpacked same none = refl
    own Current same none = cc same
    own Old same none = refl
    own Permanent same none = refl
    own OneShot same none = absurd (true≢false none)

pub recorded_reached : (es next : Releases) → IsRecorded es → IsRecorded next → bundles_of next ≡ bundles_of es → (events : List Event) × (list_from es events ≡ Some next)
recorded_reached es next here there same =
    let there_at_rest = at_rest next there.distinct there.one_permanent in
    let calm = rest_reached (calmed es) (calmed next) (at_rest es here.distinct here.one_permanent) there_at_rest (bundles-calmed next ∙ same ∙ sym (bundles-calmed es)) in
    elim (one_shot_form next there.distinct there.as_recorded there.one_temporary) [
      | inl none ↦ (boot ∷ boot ∷ calm.0, calm.1 ∙ ap (λ (l : Releases). Some l) (as_it_is next there.as_recorded none))
      | inr f ↦ (
        boot ∷ boot ∷ (calm.0 ++ restart_installed f.vsn ∷ []),
        list_from-append (calmed es) calm.0 (restart_installed f.vsn ∷ []) (calmed next) next calm.1 (restart next f),
      )
    ]
  where
    bundles-calmed : (es : Releases) → bundles_of (calmed es) ≡ bundles_of es
    bundles-calmed [] = refl
    bundles-calmed (e ∷ es) = ap (λ l. bundle_in e ∷ l) (bundles-calmed es)
