-- What is said of releases and follows, one event of a node says.
use Rattle.std.proofs.Common.{◌≡◌, ◌⊎◌, inl, inr, ℕ, ◌≤◌, Bool, true, false, cond, List, [], ◌∷◌, length, filter, find, Option, Some, None, is_some, refl, sym, ap, ◌∙◌, subst, arith, true≢false}
use Rattle.std.specs.Prelude.{◌&&◌, ◌||◌, nat_le}
use Rattle.std.specs.List.{AllByRecursion, zip}
use Rattle.std.specs.Option.{option_map, unwrap_or}
use Rattle.std.specs.Str.{bytes_eq}
use Rattle.std.proofs.lemmas.Bool.{cases_Bool, leb-true, or_cases}
use Rattle.std.proofs.lemmas.List.Sums.{length-filter}
use Rattle.rel_files.proofs.Options.{both}
use Rattle.rel_list.specs.declared.status.Status.{Status}
use Rattle.rel_list.specs.declared.status.Status.TheVariants.{Unpacked, Current, Old, Permanent, OneShot}
use Rattle.rel_list.specs.Event.{Event, booted, booted_status, installed_status, list_installed, list_made_permanent, list_restarted, permanent_status, recorded, recorded_status, replaced_status, restarted_status, status_behind, step, with_statuses}
use Rattle.rel_list.specs.Event.Event.{boot, installed, made_permanent, reboot_old, restart_installed}
use Rattle.rel_list.specs.Laws.{IsRecorded}
use Rattle.rel_list.specs.Releases.{Entry, HasDistinctVersions, Releases, has_current, has_one_shot, of_status, status_of}
use Rattle.rel_list.specs.Status.{is_current, is_one_shot, is_permanent, is_temporary}
use Rattle.rel_list.proofs.Orderly.{first_differs, is_itself, listed-with_statuses, none_behind, same_version, status_or}
use Rattle.rel_list.proofs.OwnRules.{step_of_own}
use Rattle.rel_records.specs.StatusLaws.{IsOfNode, IsSilent, KeepsReleases, SuchStatusesAreOfOneEvent}
use Rattle.rel_records.specs.StatusChanges.{are_installed, each_is, are_of_one_event, how_many_are, is_booted, is_installed, is_left, is_left_or_changed, is_promoted, is_replaced, is_unsaid, said_by, said_in, said_where, statuses_of, with_said}
use Rattle.rel_records.proofs.StatusLemmas.{first_recorded, one_counted, rest_recorded}

-- By the status of a release and what is said of it

-- a release was current that becomes old, or the permanent one
abbrev in_node : Status → Option Status → Status
in_node Unpacked (Some Old) = Current
in_node Unpacked (Some Permanent) = Current
in_node s o = s

as_unpacked : (s : Status) (o : Option Status) → recorded_status s ≡ s → recorded_status (in_node s o) ≡ s
as_unpacked Unpacked None same = refl
as_unpacked Unpacked (Some Unpacked) same = refl
as_unpacked Unpacked (Some Current) same = refl
as_unpacked Unpacked (Some Old) same = refl
as_unpacked Unpacked (Some Permanent) same = refl
as_unpacked Unpacked (Some OneShot) same = refl
as_unpacked Current o same = absurd cc
as_unpacked Old o same = refl
as_unpacked Permanent o same = refl
as_unpacked OneShot o same = refl

-- the release is permanent then
abbrev gets_permanent : Status → Option Status → Bool
gets_permanent s o = is_permanent (unwrap_or o s)

-- an installation leaves it or replaces it, and doesn't install it
abbrev is_left_or_replaced : Status → Option Status → Bool
is_left_or_replaced s o = is_left s o || is_replaced s o

not_installed : (s : Status) (o : Option Status) → is_left_or_changed s o ≡ true → is_installed s o ≡ false → is_left_or_replaced s o ≡ true
not_installed s o may lacks = go (is_left s o) (is_installed s o) (is_replaced s o) may lacks
  where
    go : (a b c : Bool) → (a || b || c) ≡ true → b ≡ false → (a || c) ≡ true
    go true b c may lacks = refl
    go false false c may lacks = may
    go false true c may lacks = absurd (true≢false lacks)

only_left : (s : Status) (o : Option Status) → is_left_or_replaced s o ≡ true → is_replaced s o ≡ false → o ≡ None
only_left Unpacked None may lacks = refl
only_left Old None may lacks = refl
only_left Permanent None may lacks = refl
only_left s o may lacks = cc

replaced_so : (s : Status) (o : Option Status) → is_left_or_replaced s o ≡ true → recorded_status (replaced_status (in_node s o)) ≡ unwrap_or o s
replaced_so Unpacked None may = refl
replaced_so Unpacked (Some Old) may = refl
replaced_so Old None may = refl
replaced_so Permanent None may = refl
replaced_so s o may = cc

replaced_said : (s : Status) (o : Option Status) → is_left_or_replaced s o ≡ true → said_where (replaced_status (in_node s o)) (in_node s o) ≡ o
replaced_said Unpacked None may = refl
replaced_said Unpacked (Some Old) may = refl
replaced_said Old None may = refl
replaced_said Permanent None may = refl
replaced_said s o may = cc

was_current : (s : Status) (o : Option Status) → is_left_or_changed s o ≡ true → is_temporary (in_node s o) ≡ true → is_replaced s o ≡ true
was_current Unpacked (Some Old) may is = refl
was_current s o may is = cc

none_waited : (s : Status) (o : Option Status) → is_left_or_changed s o ≡ true → is_one_shot (in_node s o) ≡ false
none_waited Unpacked None may = refl
none_waited Unpacked (Some Unpacked) may = refl
none_waited Unpacked (Some Current) may = refl
none_waited Unpacked (Some Old) may = refl
none_waited Unpacked (Some Permanent) may = refl
none_waited Unpacked (Some OneShot) may = refl
none_waited Current o may = refl
none_waited Old o may = refl
none_waited Permanent o may = refl
none_waited OneShot None may = cc
none_waited OneShot (Some t) may = cc

demoted_so : (s : Status) (o : Option Status) → is_promoted s o ≡ true → gets_permanent s o ≡ false → recorded_status (permanent_status false (in_node s o)) ≡ unwrap_or o s
demoted_so Unpacked None may lacks = refl
demoted_so Old None may lacks = refl
demoted_so Permanent (Some Old) may lacks = refl
demoted_so Unpacked (Some Permanent) may lacks = cc
demoted_so Old (Some Permanent) may lacks = cc
demoted_so s o may lacks = cc

demoted_said : (s : Status) (o : Option Status) → is_promoted s o ≡ true → gets_permanent s o ≡ false → said_where (permanent_status false (in_node s o)) (in_node s o) ≡ o
demoted_said Unpacked None may lacks = refl
demoted_said Old None may lacks = refl
demoted_said Permanent (Some Old) may lacks = refl
demoted_said Unpacked (Some Permanent) may lacks = cc
demoted_said Old (Some Permanent) may lacks = cc
demoted_said s o may lacks = cc

was_raised : (s : Status) (o : Option Status) → is_promoted s o ≡ true → is_temporary (in_node s o) ≡ true → gets_permanent s o ≡ true
was_raised Unpacked (Some Permanent) may is = refl
was_raised s o may is = cc

none_waited_then : (s : Status) (o : Option Status) → is_promoted s o ≡ true → is_one_shot (in_node s o) ≡ false
none_waited_then Unpacked None may = refl
none_waited_then Unpacked (Some Unpacked) may = refl
none_waited_then Unpacked (Some Current) may = refl
none_waited_then Unpacked (Some Old) may = refl
none_waited_then Unpacked (Some Permanent) may = refl
none_waited_then Unpacked (Some OneShot) may = refl
none_waited_then Current o may = refl
none_waited_then Old o may = refl
none_waited_then Permanent o may = refl
none_waited_then OneShot None may = cc
none_waited_then OneShot (Some t) may = cc

boot_so : (s : Status) (o : Option Status) → is_booted s o ≡ true → recorded_status (booted_status s) ≡ unwrap_or o s
boot_so Unpacked None may = refl
boot_so Old None may = refl
boot_so Permanent None may = refl
boot_so OneShot (Some Unpacked) may = refl
boot_so s o may = cc

boot_said : (s : Status) (o : Option Status) → is_booted s o ≡ true → said_where (booted_status s) s ≡ o
boot_said Unpacked None may = refl
boot_said Old None may = refl
boot_said Permanent None may = refl
boot_said OneShot (Some Unpacked) may = refl
boot_said s o may = cc

unsaid_so : (s : Status) (o : Option Status) → is_unsaid s o ≡ true → o ≡ None
unsaid_so s None is = refl
unsaid_so s (Some t) is = absurd (true≢false (sym is))

unlisted : (o : Option Status) → is_some o ≡ false → o ≡ None
unlisted None is = refl
unlisted (Some s) is = absurd (true≢false is)

distinct_so : (es : Releases) → HasDistinctVersions (recorded es) → HasDistinctVersions es
distinct_so [] distinct = tt
distinct_so (x ∷ es) distinct = (
  unlisted (status_of x.release.vsn es) (sym (listed-with_statuses (λ vsn s. recorded_status s) x.release.vsn es) ∙ ap is_some distinct.0),
  distinct_so es distinct.1,
)

one_more : {A B : Type 0} (b : Bool) (x : A) (xs : List A) (y : B) (ys : List B) → length xs ≡ length ys → length (cond b (x ∷ xs) xs) ≡ length (cond b (y ∷ ys) ys)
one_more true x xs y ys same = omega (arith, same)
one_more false x xs y ys same = same

-- where a release has the status of a current one, the list has one
has_it : (v : List ℕ) (es : Releases) → status_of v es ≡ Some Current → has_current es ≡ true
has_it v [] found = absurd cc
has_it v (x ∷ es) found = go (bytes_eq v x.release.vsn) (has_it v es) found
  where
    ahead : (b : Bool) → has_current es ≡ true → is_some (option_map (λ (f : Entry). f.release) (cond b (Some x) (find (λ (f : Entry). is_current f.status) es))) ≡ true
    ahead true has = refl
    ahead false has = has

    go : (b : Bool) → (status_of v es ≡ Some Current → has_current es ≡ true) → status_or b x (find (λ (f : Entry). bytes_eq v f.release.vsn) es) ≡ Some Current → has_current (x ∷ es) ≡ true
    go true rest found = let own : x.status ≡ Current = cc found in rw own refl
    go false rest found = ahead (is_current x.status) (rest found)

-- the statuses pass a test
abbrev Passes : (Status → Option Status → Bool) → List ℕ → Status → Option Status → Type 0
Passes test w s o = test s o ≡ true

-- they are of a kind, and don't pass a test
abbrev Fails : (Status → Option Status → Bool) → (Status → Option Status → Bool) → List ℕ → Status → Option Status → Type 0
Fails kind test w s o = (kind s o ≡ true) × (test s o ≡ false)

-- the release of this version has this status and this is said of it, and the others don't pass the test
abbrev OneOrOther : (Status → Option Status → Bool) → (Status → Option Status → Bool) → List ℕ → Status → Option Status → List ℕ → Status → Option Status → Type 0
OneOrOther kind test v before said w s o =
    ((bytes_eq v w ≡ true) × (s ≡ before) × (o ≡ said)) ⊎ ((bytes_eq v w ≡ false) × (kind s o ≡ true) × (test s o ≡ false))

-- this holds of the version of each release, of its status, and of what is said of it
abbrev Each : (List ℕ → Option Status) → (List ℕ → Status → Option Status → Type 0) → Releases → Type 0
Each told P es = AllByRecursion (λ (x : Entry). P x.release.vsn x.status (told x.release.vsn)) es

-- All are of a kind, and one release passes a test.
record IsTheOne (told : List ℕ → Option Status) (kind test : Status → Option Status → Bool) (es : Releases) : Type 0 where
  vsn : List ℕ
  before : Status
  said : Option Status
  of_kind : kind before said ≡ true
  passes : test before said ≡ true
  found : status_of vsn es ≡ Some before
  each : Each told (OneOrOther kind test vsn before said) es

module _ (told : List ℕ → Option Status) where
  each_passes : (test : Status → Option Status → Bool) (es : Releases) → each_is test (statuses_of es) (said_by told es) ≡ true → Each told (Passes test) es
  each_passes test [] all = tt
  each_passes test (x ∷ es) all =
      let (own, rest) = both (test x.status (told x.release.vsn)) (each_is test (statuses_of es) (said_by told es)) all in
      (own, each_passes test es rest)

  -- what holds of each, with what follows from it
  each_from : (P Q : List ℕ → Status → Option Status → Type 0) → ((w : List ℕ) (s : Status) (o : Option Status) → P w s o → Q w s o) → (es : Releases) → Each told P es → Each told Q es
  each_from P Q leads [] each = tt
  each_from P Q leads (x ∷ es) each = (leads x.release.vsn x.status (told x.release.vsn) each.0, each_from P Q leads es each.1)

  -- A node that records report as the list
  abbrev node_of : Releases → Releases
  node_of es = with_statuses (λ w s. in_node s (told w)) es

  node_reported : (es : Releases) → recorded es ≡ es → recorded (node_of es) ≡ es
  node_reported [] same = refl
  node_reported (x ∷ es) same =
      let own = as_unpacked x.status (told x.release.vsn) (first_recorded x es same) in
      let rest = node_reported es (rest_recorded x es same) in
      λ k. record x { status = own k } ∷ rest k

  -- what these statuses become in it is what is said
  renewed : (f : List ℕ → Status → Status) (es : Releases) → Each told (λ w s o. recorded_status (f w (in_node s o)) ≡ unwrap_or o s) es → recorded (with_statuses f (node_of es)) ≡ with_said told es
  renewed f [] each = refl
  renewed f (x ∷ es) each = λ k. record x { status = each.0 k } ∷ renewed f es each.1 k

  says : (e : Event) (es : Releases) → Each told (λ w s o. said_where (status_behind e w (in_node s o)) (in_node s o) ≡ o) es → said_in e (node_of es) ≡ said_by told es
  says e [] each = refl
  says e (x ∷ es) each = λ k. each.0 k ∷ says e es each.1 k

  booted_so : (es : Releases) → Each told (λ w s o. recorded_status (booted_status s) ≡ unwrap_or o s) es → recorded (booted es) ≡ with_said told es
  booted_so [] each = refl
  booted_so (x ∷ es) each = λ k. record x { status = each.0 k } ∷ booted_so es each.1 k

  says_boot : (es : Releases) → Each told (λ w s o. said_where (booted_status s) s ≡ o) es → said_in boot es ≡ said_by told es
  says_boot [] each = refl
  says_boot (x ∷ es) each = λ k. each.0 k ∷ says_boot es each.1 k

  -- the statuses that pass a test, each with what is said of it
  abbrev passing : (Status → Option Status → Bool) → Releases → List (Status × Option Status)
  passing test es = filter (λ (p : Status × Option Status). test p.0 p.1) (zip (statuses_of es) (said_by told es))

  abbrev count : (Status → Option Status → Bool) → Releases → ℕ
  count test es = length (passing test es)

  -- at most as many of the node are current or one-shots
  few_temporary : (test : Status → Option Status → Bool) (es : Releases) → Each told (λ w s o. is_temporary (in_node s o) ≡ true → test s o ≡ true) es
      → length (of_status is_temporary (node_of es)) ≤ count test es
  few_temporary test [] each = omega arith
  few_temporary test (x ∷ es) each =
      one_counted (is_temporary (in_node x.status (told x.release.vsn))) (test x.status (told x.release.vsn)) _ (of_status is_temporary (node_of es)) (x.status, told x.release.vsn) (passing test es) each.0 (few_temporary test es each.1)

  permanents : (es : Releases) → count gets_permanent es ≡ length (of_status is_permanent (with_said told es))
  permanents [] = refl
  permanents (x ∷ es) = one_more (is_permanent (unwrap_or (told x.release.vsn) x.status)) (x.status, told x.release.vsn) (passing gets_permanent es) _ (of_status is_permanent (with_said told es)) (permanents es)

  none_in_node : (es : Releases) → Each told (λ w s o. is_one_shot (in_node s o) ≡ false) es → has_one_shot (node_of es) ≡ false
  none_in_node [] each = refl
  none_in_node (x ∷ es) each = rw each.0 (none_in_node es each.1)

  -- none is permanent then: there is one
  none_permanent : (kind : Status → Option Status → Bool) (es : Releases) → Each told (Fails kind gets_permanent) es → length (of_status is_permanent (with_said told es)) ≡ 0
  none_permanent kind [] each = refl
  none_permanent kind (x ∷ es) each =
      ap (λ b. length (cond b (record x { status = unwrap_or (told x.release.vsn) x.status } ∷ of_status is_permanent (with_said told es)) (of_status is_permanent (with_said told es)))) each.0.1
      ∙ none_permanent kind es each.1

  -- The one that passes a test
  module _ (kind test : Status → Option Status → Bool) where
    none_fewer : (b : Bool) (p : Status × Option Status) (ps : List (Status × Option Status)) → length (cond b (p ∷ ps) ps) ≡ 0 → (b ≡ false) × (length ps ≡ 0)
    none_fewer true p ps none = absurd (omega (arith, none))
    none_fewer false p ps none = (refl, none)

    none_passes : (es : Releases) → Each told (Passes kind) es → count test es ≡ 0 → Each told (Fails kind test) es
    none_passes [] each none = tt
    none_passes (x ∷ es) each none =
        let (own, rest) = none_fewer (test x.status (told x.release.vsn)) (x.status, told x.release.vsn) (passing test es) none in
        ((each.0, own), none_passes es each.1 rest)

    -- none of this version
    others : (v : List ℕ) (s : Status) (o : Option Status) (es : Releases) → status_of v es ≡ None → Each told (Fails kind test) es → Each told (OneOrOther kind test v s o) es
    others v s o [] none each = tt
    others v s o (x ∷ es) none each =
        (inr (first_differs v x es none, each.0.0, each.0.1), others v s o es (none_behind v x es none) each.1)

    -- a version that is listed isn't one that is not
    apart : (v w : List ℕ) (s : Status) (es : Releases) → status_of v es ≡ Some s → status_of w es ≡ None → bytes_eq v w ≡ false
    apart v w s es found none = elim (cases_Bool (bytes_eq v w)) [
      | inl is ↦ let lost : Some s ≡ None = sym found ∙ ap (λ u. status_of u es) (same_version v w is) ∙ none in absurd cc
      | inr is ↦ is
    ]

    find_one : (es : Releases) → HasDistinctVersions es → Each told (Passes kind) es → count test es ≤ 1 → Each told (Fails kind test) es ⊎ IsTheOne told kind test es
    find_one [] distinct each few = inl tt
    find_one (x ∷ es) distinct each few = go (test x.status (told x.release.vsn)) refl (find_one es distinct.1 each.1) few
      where
        here : test x.status (told x.release.vsn) ≡ true → count test es ≡ 0 → IsTheOne told kind test (x ∷ es)
        here is none = record {
          vsn = x.release.vsn;
          before = x.status;
          said = told x.release.vsn;
          of_kind = each.0;
          passes = is;
          found = rw (is_itself x.release.vsn) refl;
          each = (inl (is_itself x.release.vsn, refl, refl), others x.release.vsn x.status (told x.release.vsn) es distinct.0 (none_passes es each.1 none));
        }

        later : test x.status (told x.release.vsn) ≡ false → Each told (Fails kind test) es ⊎ IsTheOne told kind test es → Each told (Fails kind test) (x ∷ es) ⊎ IsTheOne told kind test (x ∷ es)
        later is (inl none) = inl ((each.0, is), none)
        later is (inr one) =
            let differ = apart one.vsn x.release.vsn one.before es one.found distinct.0 in
            inr (record {
              vsn = one.vsn;
              before = one.before;
              said = one.said;
              of_kind = one.of_kind;
              passes = one.passes;
              found = rw differ one.found;
              each = (inr (differ, each.0, is), one.each);
            })

        go : (b : Bool) → test x.status (told x.release.vsn) ≡ b → (count test es ≤ 1 → Each told (Fails kind test) es ⊎ IsTheOne told kind test es)
            → length (cond b ((x.status, told x.release.vsn) ∷ passing test es) (passing test es)) ≤ 1 → Each told (Fails kind test) (x ∷ es) ⊎ IsTheOne told kind test (x ∷ es)
        go true is rest few = inr (here is (omega (arith, few)))
        go false is rest few = later is (rest few)

    -- its status in the node
    in_its_node : (v : List ℕ) (s : Status) (o : Option Status) (es : Releases) → Each told (OneOrOther kind test v s o) es → status_of v es ≡ Some s → status_of v (node_of es) ≡ Some (in_node s o)
    in_its_node v s o [] each found = absurd cc
    in_its_node v s o (x ∷ es) each found = by each.0 (in_its_node v s o es each.1)
      where
        by : OneOrOther kind test v s o x.release.vsn x.status (told x.release.vsn) → (status_of v es ≡ Some s → status_of v (node_of es) ≡ Some (in_node s o)) → status_of v (node_of (x ∷ es)) ≡ Some (in_node s o)
        by (inl (is, first, second)) rest = rw (is, first, second) refl
        by (inr (differ, of_kind, fails)) rest = rw differ (rest (rw differ at found))

  module _ (es : Releases) (so : IsRecorded es) (one : length (of_status is_permanent (with_said told es)) ≡ 1) where
    -- one event says it
    abbrev IsSaid : Type 0
    IsSaid = IsOfNode es (with_said told es) (said_by told es)

    -- A node of such a list, in which as few releases are current or one-shots as pass a test
    node_so : (test : Status → Option Status → Bool) → Each told (λ w s o. is_temporary (in_node s o) ≡ true → test s o ≡ true) es → count test es ≤ 1
        → (e : Event) (end : Releases) → KeepsReleases e → step e (node_of es) ≡ Some end → recorded end ≡ with_said told es → said_in e (node_of es) ≡ said_by told es → IsSaid
    node_so test only few e end keeps leads makes said =
        let reported = node_reported es so.as_recorded in
        let fewer = few_temporary test es only in
        record {
          node = node_of es;
          behind = end;
          event = e;
          keeps = keeps;
          orderly = record { distinct = distinct_so (node_of es) (subst HasDistinctVersions (sym reported) so.distinct); one_temporary = omega (arith, few, fewer) };
          reported = reported;
          leads = leads;
          makes = makes;
          says = said;
        }

    -- exactly one release is permanent then
    one_gets_it : count gets_permanent es ≤ 1
    one_gets_it = let same = permanents es in omega (arith, one, same)

    -- Another release becomes the permanent one.
    promotion : Each told (Passes is_promoted) es → IsSaid
    promotion each = by (find_one is_promoted gets_permanent es so.distinct each one_gets_it)
      where
        free : has_one_shot (node_of es) ≡ false
        free = none_in_node es (each_from (Passes is_promoted) (λ w s o. is_one_shot (in_node s o) ≡ false) (λ w s o may. none_waited_then s o may) es each)

        of_event : (e : Event) (v : List ℕ) (s : Status) (o : Option Status) → KeepsReleases e → ((w : List ℕ) (r : Status) → status_behind e w r ≡ permanent_status (bytes_eq v w) r)
            → step e (node_of es) ≡ Some (list_made_permanent v (node_of es)) → recorded_status (permanent_status true (in_node s o)) ≡ unwrap_or o s → said_where (permanent_status true (in_node s o)) (in_node s o) ≡ o
            → Each told (OneOrOther is_promoted gets_permanent v s o) es → IsSaid
        of_event e v s o keeps does leads makes said all =
            node_so gets_permanent (each_from (Passes is_promoted) (λ w s o. is_temporary (in_node s o) ≡ true → gets_permanent s o ≡ true) (λ w s o may. was_raised s o may) es each) one_gets_it
            e (list_made_permanent v (node_of es)) keeps leads
            (renewed (λ w r. permanent_status (bytes_eq v w) r) es (each_from (OneOrOther is_promoted gets_permanent v s o) (λ w r q. recorded_status (permanent_status (bytes_eq v w) (in_node r q)) ≡ unwrap_or q r) own es all))
            (says e es (each_from (OneOrOther is_promoted gets_permanent v s o) (λ w r q. said_where (status_behind e w (in_node r q)) (in_node r q) ≡ q) own_said es all))
          where
            own : (w : List ℕ) (r : Status) (q : Option Status) → OneOrOther is_promoted gets_permanent v s o w r q → recorded_status (permanent_status (bytes_eq v w) (in_node r q)) ≡ unwrap_or q r
            own w r q (inl (itself, first, second)) = rw (itself, first, second) makes
            own w r q (inr (differ, may, lacks)) = rw differ (demoted_so r q may lacks)

            own_said : (w : List ℕ) (r : Status) (q : Option Status) → OneOrOther is_promoted gets_permanent v s o w r q → said_where (status_behind e w (in_node r q)) (in_node r q) ≡ q
            own_said w r q (inl (itself, first, second)) = rw (does w (in_node r q), itself, first, second) said
            own_said w r q (inr (differ, may, lacks)) = rw (does w (in_node r q), differ) (demoted_said r q may lacks)

        by_status : (v : List ℕ) (s : Status) (o : Option Status) → is_promoted s o ≡ true → gets_permanent s o ≡ true → status_of v (node_of es) ≡ Some (in_node s o) → Each told (OneOrOther is_promoted gets_permanent v s o) es → IsSaid
        by_status v Unpacked (Some Permanent) may is found all =
            of_event (made_permanent v) v Unpacked (Some Permanent) tt (λ w r. refl) (step_of_own (made_permanent v) (node_of es) (list_made_permanent v (node_of es)) free (rw found refl)) refl refl all
        by_status v Old (Some Permanent) may is found all =
            of_event (reboot_old v) v Old (Some Permanent) tt (λ w r. refl) (step_of_own (reboot_old v) (node_of es) (list_made_permanent v (node_of es)) free (rw found refl)) refl refl all
        by_status v Permanent None may is found all = absurd cc
        by_status v Permanent (Some Old) may is found all = absurd cc
        by_status v s o may is found all = absurd cc

        by : Each told (Fails is_promoted gets_permanent) es ⊎ IsTheOne told is_promoted gets_permanent es → IsSaid
        by (inl none) = let lost = none_permanent is_promoted es none in absurd (omega (arith, one, lost))
        by (inr it) = by_status it.vsn it.before it.said it.of_kind it.passes (in_its_node is_promoted gets_permanent it.vsn it.before it.said es it.each it.found) it.each

    -- One release is installed, or replaces another.
    module _ (each : Each told (Passes is_left_or_changed) es) (few : count is_replaced es ≤ 1) where
      free : has_one_shot (node_of es) ≡ false
      free = none_in_node es (each_from (Passes is_left_or_changed) (λ w s o. is_one_shot (in_node s o) ≡ false) (λ w s o may. none_waited s o may) es each)

      -- of the release of this version this is said, and the others are left or replaced
      abbrev OneOrLeft : List ℕ → Status → Option Status → List ℕ → Status → Option Status → Type 0
      OneOrLeft v s o w r q = ((bytes_eq v w ≡ true) × (r ≡ s) × (q ≡ o)) ⊎ ((bytes_eq v w ≡ false) × (is_left_or_replaced r q ≡ true))

      -- an event that gives the release of this version such a status, and replaces the others
      of_event : (e : Event) (v : List ℕ) (s : Status) (o : Option Status) (f : Bool → Status → Status) → KeepsReleases e → ((w : List ℕ) (r : Status) → status_behind e w r ≡ f (bytes_eq v w) r) → ((r : Status) → f false r ≡ replaced_status r)
          → step e (node_of es) ≡ Some (with_statuses (λ w r. f (bytes_eq v w) r) (node_of es)) → recorded_status (f true (in_node s o)) ≡ unwrap_or o s → said_where (f true (in_node s o)) (in_node s o) ≡ o
          → Each told (OneOrLeft v s o) es → IsSaid
      of_event e v s o f keeps does of_others leads makes said all =
          node_so is_replaced (each_from (Passes is_left_or_changed) (λ w s o. is_temporary (in_node s o) ≡ true → is_replaced s o ≡ true) (λ w s o may. was_current s o may) es each) few
          e (with_statuses (λ w r. f (bytes_eq v w) r) (node_of es)) keeps leads
          (renewed (λ w r. f (bytes_eq v w) r) es (each_from (OneOrLeft v s o) (λ w r q. recorded_status (f (bytes_eq v w) (in_node r q)) ≡ unwrap_or q r) own es all))
          (says e es (each_from (OneOrLeft v s o) (λ w r q. said_where (status_behind e w (in_node r q)) (in_node r q) ≡ q) own_said es all))
        where
          own : (w : List ℕ) (r : Status) (q : Option Status) → OneOrLeft v s o w r q → recorded_status (f (bytes_eq v w) (in_node r q)) ≡ unwrap_or q r
          own w r q (inl (itself, first, second)) = rw (itself, first, second) makes
          own w r q (inr (differ, may)) = rw (differ, of_others (in_node r q)) (replaced_so r q may)

          own_said : (w : List ℕ) (r : Status) (q : Option Status) → OneOrLeft v s o w r q → said_where (status_behind e w (in_node r q)) (in_node r q) ≡ q
          own_said w r q (inl (itself, first, second)) = rw (does w (in_node r q), itself, first, second) said
          own_said w r q (inr (differ, may)) = rw (does w (in_node r q), differ, of_others (in_node r q)) (replaced_said r q may)

      -- the others
      left : (v : List ℕ) (s : Status) (o : Option Status) (w : List ℕ) (r : Status) (q : Option Status) → OneOrOther is_left_or_changed is_installed v s o w r q → OneOrLeft v s o w r q
      left v s o w r q (inl it) = inl it
      left v s o w r q (inr (differ, may, lacks)) = inr (differ, not_installed r q may lacks)

      by_status : (v : List ℕ) (s : Status) (o : Option Status) → is_installed s o ≡ true → status_of v (node_of es) ≡ Some (in_node s o) → Each told (OneOrLeft v s o) es → IsSaid
      by_status v Unpacked (Some Unpacked) is found all =
          of_event (installed v) v Unpacked (Some Unpacked) installed_status tt (λ w r. refl) (λ r. refl) (step_of_own (installed v) (node_of es) (list_installed v (node_of es)) free (rw found refl)) refl refl all
      by_status v Old (Some Unpacked) is found all =
          of_event (installed v) v Old (Some Unpacked) installed_status tt (λ w r. refl) (λ r. refl) (step_of_own (installed v) (node_of es) (list_installed v (node_of es)) free (rw found refl)) refl refl all
      by_status v Unpacked (Some OneShot) is found all =
          of_event (restart_installed v) v Unpacked (Some OneShot) restarted_status tt (λ w r. refl) (λ r. refl) (step_of_own (restart_installed v) (node_of es) (list_restarted v (node_of es)) free (rw found refl)) refl refl all
      by_status v Old (Some OneShot) is found all =
          of_event (restart_installed v) v Old (Some OneShot) restarted_status tt (λ w r. refl) (λ r. refl) (step_of_own (restart_installed v) (node_of es) (list_restarted v (node_of es)) free (rw found refl)) refl refl all
      by_status v s o is found all = absurd cc

      -- The permanent release is installed in place of the current one.
      replacement : Each told (Passes is_left_or_replaced) es → has_current (node_of es) ≡ true → IsSaid
      replacement all has = by (find_one is_left_or_replaced gets_permanent es so.distinct all one_gets_it)
        where
          other : (v : List ℕ) (s : Status) (o : Option Status) (w : List ℕ) (r : Status) (q : Option Status) → OneOrOther is_left_or_replaced gets_permanent v s o w r q → OneOrLeft v s o w r q
          other v s o w r q (inl it) = inl it
          other v s o w r q (inr (differ, may, lacks)) = inr (differ, may)

          stays : (v : List ℕ) (s : Status) (o : Option Status) → is_left_or_replaced s o ≡ true → gets_permanent s o ≡ true → status_of v (node_of es) ≡ Some (in_node s o)
              → Each told (OneOrLeft v s o) es → IsSaid
          stays v Permanent None may is found all =
              of_event (installed v) v Permanent None installed_status tt (λ w r. refl) (λ r. refl) (step_of_own (installed v) (node_of es) (list_installed v (node_of es)) free (rw (found, has) refl)) refl refl all
          stays v Unpacked None may is found all = absurd cc
          stays v Unpacked (Some Old) may is found all = absurd cc
          stays v Old None may is found all = absurd cc
          stays v s o may is found all = absurd cc

          by : Each told (Fails is_left_or_replaced gets_permanent) es ⊎ IsTheOne told is_left_or_replaced gets_permanent es → IsSaid
          by (inl none) = let lost = none_permanent is_left_or_replaced es none in absurd (omega (arith, one, lost))
          by (inr it) =
              stays it.vsn it.before it.said it.of_kind it.passes (in_its_node is_left_or_replaced gets_permanent it.vsn it.before it.said es it.each it.found)
              (each_from (OneOrOther is_left_or_replaced gets_permanent it.vsn it.before it.said) (OneOrLeft it.vsn it.before it.said) (other it.vsn it.before it.said) es it.each)

      -- No release is installed.
      unless_replaced : Each told (Passes is_left_or_replaced) es → IsSilent told es ⊎ IsSaid
      unless_replaced all = by (find_one is_left_or_replaced is_replaced es so.distinct all few)
        where
          current : (s : Status) (o : Option Status) → is_replaced s o ≡ true → in_node s o ≡ Current
          current Unpacked (Some Old) is = refl
          current s o is = cc

          by : Each told (Fails is_left_or_replaced is_replaced) es ⊎ IsTheOne told is_left_or_replaced is_replaced es → IsSilent told es ⊎ IsSaid
          by (inl none) = inl (each_from (Fails is_left_or_replaced is_replaced) (λ w s o. o ≡ None) (λ w s o fails. only_left s o fails.0 fails.1) es none)
          by (inr it) =
              inr (replacement all (has_it it.vsn (node_of es) (in_its_node is_left_or_replaced is_replaced it.vsn it.before it.said es it.each it.found ∙ ap (λ r. Some r) (current it.before it.said it.passes))))

      installation : count is_installed es ≤ 1 → IsSilent told es ⊎ IsSaid
      installation once = by (find_one is_left_or_changed is_installed es so.distinct each once)
        where
          by : Each told (Fails is_left_or_changed is_installed) es ⊎ IsTheOne told is_left_or_changed is_installed es → IsSilent told es ⊎ IsSaid
          by (inl none) =
              unless_replaced (each_from (Fails is_left_or_changed is_installed) (Passes is_left_or_replaced) (λ w s o fails. not_installed s o fails.0 fails.1) es none)
          by (inr it) =
              inr (by_status it.vsn it.before it.said it.passes (in_its_node is_left_or_changed is_installed it.vsn it.before it.said es it.each it.found)
              (each_from (OneOrOther is_left_or_changed is_installed it.vsn it.before it.said) (OneOrLeft it.vsn it.before it.said) (left it.vsn it.before it.said) es it.each))

    -- A boot takes a one-shot away.
    of_boot : Each told (Passes is_booted) es → IsSaid
    of_boot each = record {
      node = es;
      behind = booted es;
      event = boot;
      keeps = tt;
      orderly = record { distinct = so.distinct; one_temporary = so.one_temporary };
      reported = so.as_recorded;
      leads = refl;
      makes = booted_so es (each_from (Passes is_booted) (λ w s o. recorded_status (booted_status s) ≡ unwrap_or o s) (λ w s o may. boot_so s o may) es each);
      says = says_boot es (each_from (Passes is_booted) (λ w s o. said_where (booted_status s) s ≡ o) (λ w s o may. boot_said s o may) es each);
    }

    of_event_or_silent : are_of_one_event (statuses_of es) (said_by told es) ≡ true → IsSilent told es ⊎ IsSaid
    of_event_or_silent does = by_all (or_cases (each_is is_unsaid ss os || each_is is_booted ss os || are_installed ss os) (each_is is_promoted ss os) does)
      where
        ss : List Status
        ss = statuses_of es

        os : List (Option Status)
        os = said_by told es

        at_most_one : (test : Status → Option Status → Bool) → nat_le (how_many_are test ss os) 1 ≡ true → count test es ≤ 1
        at_most_one test few = subst (λ n. n ≤ 1) (sym (length-filter (λ (p : Status × Option Status). test p.0 p.1) (zip ss os))) (leb-true (how_many_are test ss os) 1 few)

        by_installation : are_installed ss os ≡ true → IsSilent told es ⊎ IsSaid
        by_installation are =
            let (rest, few) = both (each_is is_left_or_changed ss os && nat_le (how_many_are is_installed ss os) 1) (nat_le (how_many_are is_replaced ss os) 1) are in
            let (all, once) = both (each_is is_left_or_changed ss os) (nat_le (how_many_are is_installed ss os) 1) rest in
            installation (each_passes is_left_or_changed es all) (at_most_one is_replaced few) (at_most_one is_installed once)

        by_two : (each_is is_unsaid ss os ≡ true) ⊎ (each_is is_booted ss os ≡ true) → IsSilent told es ⊎ IsSaid
        by_two (inl are) = inl (each_from (Passes is_unsaid) (λ w s o. o ≡ None) (λ w s o is. unsaid_so s o is) es (each_passes is_unsaid es are))
        by_two (inr are) = inr (of_boot (each_passes is_booted es are))

        by_three : ((each_is is_unsaid ss os || each_is is_booted ss os) ≡ true) ⊎ (are_installed ss os ≡ true) → IsSilent told es ⊎ IsSaid
        by_three (inl are) = by_two (or_cases (each_is is_unsaid ss os) (each_is is_booted ss os) are)
        by_three (inr are) = by_installation are

        by_all : ((each_is is_unsaid ss os || each_is is_booted ss os || are_installed ss os) ≡ true) ⊎ (each_is is_promoted ss os ≡ true) → IsSilent told es ⊎ IsSaid
        by_all (inl are) = by_three (or_cases (each_is is_unsaid ss os || each_is is_booted ss os) (are_installed ss os) are)
        by_all (inr are) = inr (promotion (each_passes is_promoted es are))

pub such_statuses_are_of_one_event : SuchStatusesAreOfOneEvent
such_statuses_are_of_one_event es told so one does = of_event_or_silent told es so one does
