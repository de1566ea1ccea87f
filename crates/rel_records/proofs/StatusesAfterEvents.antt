-- What an event says of releases follows the statuses before it, as records report them.
use Rattle.std.proofs.Common.{◌≡◌, ℕ, ◌≤◌, Bool, true, false, cond, List, [], ◌∷◌, length, filter, find, map, Option, Some, None, refl, sym, ap, subst, inl, inr, ◌∙◌, arith, true≢false}
use Rattle.std.specs.Prelude.{◌&&◌, ◌||◌, nat_le}
use Rattle.std.specs.List.{AllByRecursion, zip}
use Rattle.std.specs.Str.{bytes_eq}
use Rattle.std.proofs.lemmas.Bool.{cases_Bool, le-leb}
use Rattle.std.proofs.lemmas.List.Sums.{length-filter}
use Rattle.rel_files.proofs.Options.{both_true, passed}
use Rattle.rel_list.specs.declared.status.Status.{Status}
use Rattle.rel_list.specs.declared.status.Status.TheVariants.{Unpacked, Current, Old, Permanent, OneShot}
use Rattle.rel_list.specs.Event.{Event, booted_status, installed_status, list_made_permanent, may_be_made_permanent, may_be_rebooted, permanent_status, recorded, recorded_status, replaced_status, restarted_status, status_behind}
use Rattle.rel_list.specs.Event.Event.{boot, installed, made, made_permanent, reboot_old, removed, restart_installed, unpacked}
use Rattle.rel_list.specs.Keyed.{IsOrderly}
use Rattle.rel_list.specs.Releases.{Entry, HasDistinctVersions, Releases, has_one_shot, of_status, status_of}
use Rattle.rel_list.specs.Status.{is_current, is_one_shot, is_permanent, is_temporary}
use Rattle.rel_list.proofs.BootLaws.{first_is_none}
use Rattle.rel_list.proofs.Orderly.{at_most_once, first_differs, none_behind, same_version, status_or}
use Rattle.rel_list.proofs.OwnRules.{own_of_step}
use Rattle.rel_list.proofs.RestLaws.{not_temporary}
use Rattle.rel_records.specs.StatusLaws.{EventsSaySuchStatuses}
use Rattle.rel_records.specs.StatusChanges.{are_installed, each_is, are_of_one_event, how_many_are, is_booted, is_installed, is_left_or_changed, is_promoted, is_replaced, is_unsaid, said_in, said_where, statuses_of}
use Rattle.rel_records.proofs.StatusLemmas.{one_counted}

-- By the status of one release

-- What an installation of this release, or of another one, may do.
record MayInstall (itself : Bool) (s before : Status) (said : Option Status) : Type 0 where
  may : is_left_or_changed before said ≡ true
  installs : is_installed before said ≡ true → itself ≡ true
  replaces : is_replaced before said ≡ true → is_temporary s ≡ true

-- it is done by what makes this status of the release's
abbrev DoesInstall : Bool → (Status → Status) → Status → Type 0
DoesInstall itself f s = MayInstall itself s (recorded_status s) (said_where (f s) s)

does_itself : (f : Status → Status) (s : Status) → is_left_or_changed (recorded_status s) (said_where (f s) s) ≡ true → is_replaced (recorded_status s) (said_where (f s) s) ≡ false → DoesInstall true f s
does_itself f s may not_replaced = record { may = may; installs = λ is. refl; replaces = λ is. absurd (true≢false (sym is ∙ not_replaced)) }

leaves : (s : Status) → is_left_or_changed (recorded_status s) (said_where (replaced_status s) s) ≡ true → is_installed (recorded_status s) (said_where (replaced_status s) s) ≡ false
    → is_replaced (recorded_status s) (said_where (replaced_status s) s) ≡ false → DoesInstall false replaced_status s
leaves s may not_installed not_replaced =
    record { may = may; installs = λ is. absurd (true≢false (sym is ∙ not_installed)); replaces = λ is. absurd (true≢false (sym is ∙ not_replaced)) }

to_another : (s : Status) → is_one_shot s ≡ false → DoesInstall false replaced_status s
to_another Unpacked none = leaves Unpacked refl refl refl
to_another Current none = record { may = refl; installs = λ is. absurd (true≢false (sym is)); replaces = λ is. refl }
to_another Old none = leaves Old refl refl refl
to_another Permanent none = leaves Permanent refl refl refl
to_another OneShot none = absurd (true≢false none)

by_installation : (b : Bool) (s : Status) → is_one_shot s ≡ false → DoesInstall b (installed_status b) s
by_installation false s none = to_another s none
by_installation true Unpacked none = does_itself (installed_status true) Unpacked refl refl
by_installation true Current none = does_itself (installed_status true) Current refl refl
by_installation true Old none = does_itself (installed_status true) Old refl refl
by_installation true Permanent none = does_itself (installed_status true) Permanent refl refl
by_installation true OneShot none = absurd (true≢false none)

by_restart : (b : Bool) (s : Status) → is_one_shot s ≡ false → DoesInstall b (restarted_status b) s
by_restart false s none = to_another s none
by_restart true Unpacked none = does_itself (restarted_status true) Unpacked refl refl
by_restart true Current none = does_itself (restarted_status true) Current refl refl
by_restart true Old none = does_itself (restarted_status true) Old refl refl
by_restart true Permanent none = does_itself (restarted_status true) Permanent refl refl
by_restart true OneShot none = absurd (true≢false none)

-- a release that is made permanent wasn't
by_promotion : (b : Bool) (s : Status) → is_one_shot s ≡ false → (b ≡ true → is_permanent s ≡ false) → is_promoted (recorded_status s) (said_where (permanent_status b s) s) ≡ true
by_promotion true Unpacked none other = refl
by_promotion true Current none other = refl
by_promotion true Old none other = refl
by_promotion true Permanent none other = absurd (true≢false (other refl))
by_promotion true OneShot none other = absurd (true≢false none)
by_promotion false Unpacked none other = refl
by_promotion false Current none other = refl
by_promotion false Old none other = refl
by_promotion false Permanent none other = refl
by_promotion false OneShot none other = absurd (true≢false none)

-- A boot takes a one-shot away where no release is current;
by_boot : (s : Status) → is_current s ≡ false → is_booted (recorded_status s) (said_where (booted_status s) s) ≡ true
by_boot Unpacked none = refl
by_boot Current none = absurd (true≢false none)
by_boot Old none = refl
by_boot Permanent none = refl
by_boot OneShot none = refl

-- where none is a one-shot, what it says an installation says.
by_boot_alone : (s : Status) → is_one_shot s ≡ false → MayInstall (is_temporary s) s (recorded_status s) (said_where (booted_status s) s)
by_boot_alone Unpacked none = record { may = refl; installs = λ is. is; replaces = λ is. is }
by_boot_alone Current none = record { may = refl; installs = λ is. refl; replaces = λ is. refl }
by_boot_alone Old none = record { may = refl; installs = λ is. is; replaces = λ is. is }
by_boot_alone Permanent none = record { may = refl; installs = λ is. is; replaces = λ is. is }
by_boot_alone OneShot none = absurd (true≢false none)

-- By those of all

-- no release is a one-shot
abbrev NoneWaits : Releases → Type 0
NoneWaits es = AllByRecursion (λ (x : Entry). is_one_shot x.status ≡ false) es

none_waits : (es : Releases) → has_one_shot es ≡ false → NoneWaits es
none_waits [] none = tt
none_waits (x ∷ es) none = let apart = first_is_none x es none in (apart.0, none_waits es apart.1)

-- the release of this version, if there is one, isn't permanent
abbrev IsNotPermanent : List ℕ → Releases → Type 0
IsNotPermanent v es = AllByRecursion (λ (x : Entry). bytes_eq v x.release.vsn ≡ true → is_permanent x.status ≡ false) es

none_of_version : (v : List ℕ) (es : Releases) → status_of v es ≡ None → IsNotPermanent v es
none_of_version v [] none = tt
none_of_version v (x ∷ es) none = (λ is. absurd (true≢false (sym is ∙ first_differs v x es none)), none_of_version v es (none_behind v x es none))

not_permanent : (v : List ℕ) (s : Status) (es : Releases) → HasDistinctVersions es → is_permanent s ≡ false → status_of v es ≡ Some s → IsNotPermanent v es
not_permanent v s [] distinct not_it found = tt
not_permanent v s (x ∷ es) distinct not_it found = go (bytes_eq v x.release.vsn) refl (not_permanent v s es distinct.1 not_it) found
  where
    go : (b : Bool) → bytes_eq v x.release.vsn ≡ b → (status_of v es ≡ Some s → IsNotPermanent v es) → status_or b x (find (λ (f : Entry). bytes_eq v f.release.vsn) es) ≡ Some s → IsNotPermanent v (x ∷ es)
    go true is rest found =
        let same : x.status ≡ s = cc found in
        (λ own. ap is_permanent same ∙ not_it, none_of_version v es (ap (λ w. status_of w es) (same_version v x.release.vsn is) ∙ distinct.0))
    go false is rest found = (λ own. absurd (true≢false (sym own ∙ is)), rest found)

current_or_not : (v : List ℕ) (es : Releases) → HasDistinctVersions es → may_be_made_permanent (status_of v es) ≡ true → IsNotPermanent v es
current_or_not v es distinct may = go (status_of v es) refl may
  where
    go : (o : Option Status) → status_of v es ≡ o → may_be_made_permanent o ≡ true → IsNotPermanent v es
    go None is may = absurd (true≢false (sym may))
    go (Some Unpacked) is may = absurd (true≢false (sym may))
    go (Some Current) is may = not_permanent v Current es distinct refl is
    go (Some Old) is may = absurd (true≢false (sym may))
    go (Some Permanent) is may = absurd (true≢false (sym may))
    go (Some OneShot) is may = absurd (true≢false (sym may))

old_or_not : (v : List ℕ) (es : Releases) → HasDistinctVersions es → may_be_rebooted (status_of v es) ≡ true → IsNotPermanent v es
old_or_not v es distinct may = go (status_of v es) refl may
  where
    go : (o : Option Status) → status_of v es ≡ o → may_be_rebooted o ≡ true → IsNotPermanent v es
    go None is may = absurd (true≢false (sym may))
    go (Some Unpacked) is may = absurd (true≢false (sym may))
    go (Some Current) is may = absurd (true≢false (sym may))
    go (Some Old) is may = not_permanent v Old es distinct refl is
    go (Some Permanent) is may = absurd (true≢false (sym may))
    go (Some OneShot) is may = absurd (true≢false (sym may))

-- where each release gets such a status
module _ (f : List ℕ → Status → Status) where
  abbrev before : Releases → List Status
  before es = statuses_of (recorded es)

  abbrev said : Releases → List (Option Status)
  said es = map (λ (x : Entry). said_where (f x.release.vsn x.status) x.status) es

  -- by its own status
  abbrev own : (Status → Option Status → Bool) → Entry → Bool
  own test x = test (recorded_status x.status) (said_where (f x.release.vsn x.status) x.status)

  all_are : (test : Status → Option Status → Bool) (es : Releases) → AllByRecursion (λ (x : Entry). own test x ≡ true) es → each_is test (before es) (said es) ≡ true
  all_are test [] all = refl
  all_are test (x ∷ es) all = both_true (own test x) (each_is test (before es) (said es)) all.0 (all_are test es all.1)

  fewer : (test : Status → Option Status → Bool) (q : Entry → Bool) (es : Releases) → AllByRecursion (λ (x : Entry). own test x ≡ true → q x ≡ true) es
      → length (filter (λ (p : Status × Option Status). test p.0 p.1) (zip (before es) (said es))) ≤ length (filter q es)
  fewer test q [] all = omega arith
  fewer test q (x ∷ es) all = one_counted (own test x) (q x) _ _ x (filter q es) all.0 (fewer test q es all.1)

  as_few : (test : Status → Option Status → Bool) (q : Entry → Bool) (es : Releases) → AllByRecursion (λ (x : Entry). own test x ≡ true → q x ≡ true) es
      → how_many_are test (before es) (said es) ≤ length (filter q es)
  as_few test q es all =
      subst (λ n. n ≤ length (filter q es)) (length-filter (λ (p : Status × Option Status). test p.0 p.1) (zip (before es) (said es))) (fewer test q es all)

  -- One release is installed at most: that of which this holds.
  module _ (p : Entry → Bool) where
    abbrev DoInstall : Releases → Type 0
    DoInstall es = AllByRecursion (λ (x : Entry). MayInstall (p x) x.status (recorded_status x.status) (said_where (f x.release.vsn x.status) x.status)) es

    each_may : (es : Releases) → DoInstall es → AllByRecursion (λ (x : Entry). own is_left_or_changed x ≡ true) es
    each_may [] all = tt
    each_may (x ∷ es) all = (all.0.may, each_may es all.1)

    each_installs : (es : Releases) → DoInstall es → AllByRecursion (λ (x : Entry). own is_installed x ≡ true → p x ≡ true) es
    each_installs [] all = tt
    each_installs (x ∷ es) all = (all.0.installs, each_installs es all.1)

    each_replaces : (es : Releases) → DoInstall es → AllByRecursion (λ (x : Entry). own is_replaced x ≡ true → is_temporary x.status ≡ true) es
    each_replaces [] all = tt
    each_replaces (x ∷ es) all = (all.0.replaces, each_replaces es all.1)

    installs_one : (es : Releases) → length (filter p es) ≤ 1 → DoInstall es → nat_le (how_many_are is_installed (before es) (said es)) 1 ≡ true
    installs_one es once all =
        let few = as_few is_installed p es (each_installs es all) in
        le-leb (how_many_are is_installed (before es) (said es)) 1 (omega (arith, once, few))

    replaces_one : (es : Releases) → IsOrderly es → DoInstall es → nat_le (how_many_are is_replaced (before es) (said es)) 1 ≡ true
    replaces_one es orderly all =
        let once : length (of_status is_temporary es) ≤ 1 = orderly.one_temporary in
        let few = as_few is_replaced (λ (x : Entry). is_temporary x.status) es (each_replaces es all) in
        le-leb (how_many_are is_replaced (before es) (said es)) 1 (omega (arith, once, few))

    all_installed : (es : Releases) → IsOrderly es → length (filter p es) ≤ 1 → DoInstall es → are_installed (before es) (said es) ≡ true
    all_installed es orderly once all =
        both_true (each_is is_left_or_changed (before es) (said es) && nat_le (how_many_are is_installed (before es) (said es)) 1) (nat_le (how_many_are is_replaced (before es) (said es)) 1)
        (both_true (each_is is_left_or_changed (before es) (said es)) (nat_le (how_many_are is_installed (before es) (said es)) 1) (all_are is_left_or_changed es (each_may es all)) (installs_one es once all))
        (replaces_one es orderly all)

-- Statuses follow by a boot, an installation, or an event that makes another release permanent.
or_true : (b : Bool) → (b || true) ≡ true
or_true true = refl
or_true false = refl

are_of_one_event-boot : (ss : List Status) (os : List (Option Status)) → each_is is_booted ss os ≡ true → are_of_one_event ss os ≡ true
are_of_one_event-boot ss os are =
    ap (λ b. ((each_is is_unsaid ss os || b) || are_installed ss os) || each_is is_promoted ss os) are
    ∙ ap (λ b. (b || are_installed ss os) || each_is is_promoted ss os) (or_true (each_is is_unsaid ss os))

are_of_one_event-installation : (ss : List Status) (os : List (Option Status)) → are_installed ss os ≡ true → are_of_one_event ss os ≡ true
are_of_one_event-installation ss os are =
    ap (λ b. ((each_is is_unsaid ss os || each_is is_booted ss os) || b) || each_is is_promoted ss os) are
    ∙ ap (λ b. b || each_is is_promoted ss os) (or_true (each_is is_unsaid ss os || each_is is_booted ss os))

are_of_one_event-promotion : (ss : List Status) (os : List (Option Status)) → each_is is_promoted ss os ≡ true → are_of_one_event ss os ≡ true
are_of_one_event-promotion ss os are =
    ap (λ b. ((each_is is_unsaid ss os || each_is is_booted ss os) || are_installed ss os) || b) are
    ∙ or_true ((each_is is_unsaid ss os || each_is is_booted ss os) || are_installed ss os)

-- what the event says follows the statuses before it
abbrev pub IsOfOneEvent : Event → Releases → Type 0
IsOfOneEvent e es = are_of_one_event (statuses_of (recorded es)) (said_in e es) ≡ true

-- Where a release is a one-shot, none is current.
none_temporary : (es : Releases) → length (of_status is_temporary es) ≡ 0 → AllByRecursion (λ (x : Entry). is_temporary x.status ≡ false) es
none_temporary [] few = tt
none_temporary (x ∷ es) few = go (is_temporary x.status) refl (none_temporary es) few
  where
    go : (b : Bool) → is_temporary x.status ≡ b → (length (of_status is_temporary es) ≡ 0 → AllByRecursion (λ (y : Entry). is_temporary y.status ≡ false) es)
        → length (cond b (x ∷ of_status is_temporary es) (of_status is_temporary es)) ≡ 0 → AllByRecursion (λ (y : Entry). is_temporary y.status ≡ false) (x ∷ es)
    go true is rest few = absurd (omega (arith, few))
    go false is rest few = (is, rest few)

not_current : (s : Status) → is_temporary s ≡ false → is_current s ≡ false
not_current Unpacked calm = refl
not_current Current calm = absurd (true≢false calm)
not_current Old calm = refl
not_current Permanent calm = refl
not_current OneShot calm = refl

none_current : (es : Releases) → AllByRecursion (λ (x : Entry). is_temporary x.status ≡ false) es → AllByRecursion (λ (x : Entry). is_current x.status ≡ false) es
none_current [] calm = tt
none_current (x ∷ es) calm = (not_current x.status calm.0, none_current es calm.1)

none_is_one_shot : (es : Releases) → AllByRecursion (λ (x : Entry). is_temporary x.status ≡ false) es → has_one_shot es ≡ false
none_is_one_shot [] calm = refl
none_is_one_shot (x ∷ es) calm = rw (not_temporary x.status calm.0) (none_is_one_shot es calm.1)

none_beside : (es : Releases) → length (of_status is_temporary es) ≤ 1 → has_one_shot es ≡ true → AllByRecursion (λ (x : Entry). is_current x.status ≡ false) es
none_beside [] few has = tt
none_beside (x ∷ es) few has = go x.status refl (none_beside es)
  where
    Others : Type 0
    Others = length (of_status is_temporary es) ≤ 1 → has_one_shot es ≡ true → AllByRecursion (λ (y : Entry). is_current y.status ≡ false) es

    rest : is_temporary x.status ≡ true → AllByRecursion (λ (y : Entry). is_temporary y.status ≡ false) es
    rest is = let only : length (x ∷ of_status is_temporary es) ≤ 1 = rw is at few in none_temporary es (omega (arith, only))

    more : is_temporary x.status ≡ false → Others → AllByRecursion (λ (y : Entry). is_current y.status ≡ false) (x ∷ es)
    more is others =
        let few_there : length (of_status is_temporary es) ≤ 1 = rw is at few in
        let has_there : has_one_shot es ≡ true = rw (not_temporary x.status is) at has in
        (not_current x.status is, others few_there has_there)

    go : (s : Status) → x.status ≡ s → Others → AllByRecursion (λ (y : Entry). is_current y.status ≡ false) (x ∷ es)
    go Unpacked is others = more (ap is_temporary is) others
    go Current is others =
        let lost : has_one_shot es ≡ true = rw is at has in
        absurd (true≢false (sym lost ∙ none_is_one_shot es (rest (ap is_temporary is))))
    go Old is others = more (ap is_temporary is) others
    go Permanent is others = more (ap is_temporary is) others
    go OneShot is others = (ap is_current is, none_current es (rest (ap is_temporary is)))

pub behind_boot : (es : Releases) → IsOrderly es → IsOfOneEvent boot es
behind_boot es orderly = elim (cases_Bool (has_one_shot es)) [
  | inl has ↦ are_of_one_event-boot (before (status_behind boot) es) (said (status_behind boot) es) (all_are (status_behind boot) is_booted es (each_booted es (none_beside es orderly.one_temporary has)))
  | inr none ↦ are_of_one_event-installation (before (status_behind boot) es) (said (status_behind boot) es) (all_installed (status_behind boot) (λ (x : Entry). is_temporary x.status) es orderly orderly.one_temporary (each_alone es (none_waits es none)))
]
  where
    each_booted : (es : Releases) → AllByRecursion (λ (x : Entry). is_current x.status ≡ false) es → AllByRecursion (λ (x : Entry). own (status_behind boot) is_booted x ≡ true) es
    each_booted [] none = tt
    each_booted (x ∷ es) none = (by_boot x.status none.0, each_booted es none.1)

    each_alone : (es : Releases) → NoneWaits es → DoInstall (status_behind boot) (λ (x : Entry). is_temporary x.status) es
    each_alone [] all = tt
    each_alone (x ∷ es) all = (by_boot_alone x.status all.0, each_alone es all.1)

pub behind_installation : (v : List ℕ) (es : Releases) → IsOrderly es → has_one_shot es ≡ false → IsOfOneEvent (installed v) es
behind_installation v es orderly none = are_of_one_event-installation (before (status_behind (installed v)) es) (said (status_behind (installed v)) es) (all_installed (status_behind (installed v)) (λ (x : Entry). bytes_eq v x.release.vsn) es orderly (at_most_once v es orderly.distinct) (each_does es (none_waits es none)))
  where
    each_does : (es : Releases) → NoneWaits es → DoInstall (status_behind (installed v)) (λ (x : Entry). bytes_eq v x.release.vsn) es
    each_does [] all = tt
    each_does (x ∷ es) all = (by_installation (bytes_eq v x.release.vsn) x.status all.0, each_does es all.1)

pub behind_restart : (v : List ℕ) (es : Releases) → IsOrderly es → has_one_shot es ≡ false → IsOfOneEvent (restart_installed v) es
behind_restart v es orderly none = are_of_one_event-installation (before (status_behind (restart_installed v)) es) (said (status_behind (restart_installed v)) es) (all_installed (status_behind (restart_installed v)) (λ (x : Entry). bytes_eq v x.release.vsn) es orderly (at_most_once v es orderly.distinct) (each_does es (none_waits es none)))
  where
    each_does : (es : Releases) → NoneWaits es → DoInstall (status_behind (restart_installed v)) (λ (x : Entry). bytes_eq v x.release.vsn) es
    each_does [] all = tt
    each_does (x ∷ es) all = (by_restart (bytes_eq v x.release.vsn) x.status all.0, each_does es all.1)

promotes : (v : List ℕ) (es : Releases) → has_one_shot es ≡ false → IsNotPermanent v es → IsOfOneEvent (made_permanent v) es
promotes v es none other = are_of_one_event-promotion (before (status_behind (made_permanent v)) es) (said (status_behind (made_permanent v)) es) (all_are (status_behind (made_permanent v)) is_promoted es (each_does es (none_waits es none) other))
  where
    each_does : (es : Releases) → NoneWaits es → IsNotPermanent v es → AllByRecursion (λ (x : Entry). own (status_behind (made_permanent v)) is_promoted x ≡ true) es
    each_does [] all other = tt
    each_does (x ∷ es) all other = (by_promotion (bytes_eq v x.release.vsn) x.status all.0 other.0, each_does es all.1 other.1)

pub behind_promotion : (v : List ℕ) (es : Releases) → HasDistinctVersions es → has_one_shot es ≡ false → may_be_made_permanent (status_of v es) ≡ true → IsOfOneEvent (made_permanent v) es
behind_promotion v es distinct none may = promotes v es none (current_or_not v es distinct may)

pub behind_reboot : (v : List ℕ) (es : Releases) → HasDistinctVersions es → has_one_shot es ≡ false → may_be_rebooted (status_of v es) ≡ true → IsOfOneEvent (reboot_old v) es
behind_reboot v es distinct none may = promotes v es none (old_or_not v es distinct may)

pub an_event_says_its_statuses : EventsSaySuchStatuses
an_event_says_its_statuses (made p) es next keeps orderly is = absurd keeps
an_event_says_its_statuses (unpacked p) es next keeps orderly is = absurd keeps
an_event_says_its_statuses (removed v) es next keeps orderly is = absurd keeps
an_event_says_its_statuses boot es next keeps orderly is =
    behind_boot es orderly
an_event_says_its_statuses (installed v) es next keeps orderly is =
    let own = own_of_step (installed v) es next is in
    behind_installation v es orderly own.0
an_event_says_its_statuses (restart_installed v) es next keeps orderly is =
    let own = own_of_step (restart_installed v) es next is in
    behind_restart v es orderly own.0
an_event_says_its_statuses (made_permanent v) es next keeps orderly is =
    let own = own_of_step (made_permanent v) es next is in
    let (may, there) = passed (may_be_made_permanent (status_of v es)) (Some (list_made_permanent v es)) next own.1 in
    behind_promotion v es orderly.distinct own.0 may
an_event_says_its_statuses (reboot_old v) es next keeps orderly is =
    let own = own_of_step (reboot_old v) es next is in
    let (may, there) = passed (may_be_rebooted (status_of v es)) (Some (list_made_permanent v es)) next own.1 in
    behind_reboot v es orderly.distinct own.0 may
