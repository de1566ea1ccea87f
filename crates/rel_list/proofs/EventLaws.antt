-- What events make of a list, over any events.
use Rattle.std.proofs.Common.{◌≡◌, ℕ, ◌≤◌, Bool, true, false, cond, not, ◌&&◌, ◌||◌, List, [], ◌∷◌, ◌++◌, length, filter, Option, Some, None, is_some, refl, sym, ap, subst, ◌∙◌, true≢false, find, arith, if◌then◌else◌}
use Rattle.std.specs.Option.{option_map, option_and_then}
use Rattle.std.specs.Str.{bytes_eq}
use Rattle.rel_list.specs.declared.status.Status.{Status}
use Rattle.rel_list.specs.declared.status.Status.TheVariants.{Unpacked, Current, Old, Permanent, OneShot}
use Rattle.rel_list.specs.Status.{is_permanent, is_temporary}
use Rattle.rel_list.specs.Releases.{Bundle, Releases, Entry, entry, first_different, status_of, of_status, has_current, HasDistinctVersions}
use Rattle.rel_list.specs.Event.{Event, may_be_installed, may_be_made_permanent, may_be_removed, may_be_rebooted, installed_status, restarted_status, permanent_status, booted_status, recorded_status, assigned_status, list_installed, list_restarted, list_made_permanent, list_assigned, without, booted, is_barred, own_step, step, list_from, list_after}
use Rattle.rel_list.specs.Event.Event.{made, unpacked, installed, restart_installed, made_permanent, removed, reboot_old, boot}
use Rattle.rel_list.specs.Change.{has_other_temporary, may_be_given}
use Rattle.rel_list.specs.Keyed.{IsOrderly}
use Rattle.rel_list.proofs.Orderly.{of_version, differs_back, first_differs, none_behind, none_at_all, at_most_once, exactly_once, distinct-with_statuses, one_more, as_many, no_more, just_as_many}
use Rattle.rel_list.proofs.OwnRules.{never_made_again, own_of_step}

abbrev temporaries : Releases → ℕ
temporaries es = length (of_status is_temporary es)

abbrev pub permanents : Releases → ℕ
permanents es = length (of_status is_permanent es)

-- Installation

temporary-installed : (b : Bool) (s : Status) → is_temporary (installed_status b s) ≡ true → b ≡ true
temporary-installed true s is = refl
temporary-installed false Unpacked is = absurd (true≢false (sym is))
temporary-installed false Current is = absurd (true≢false (sym is))
temporary-installed false Old is = absurd (true≢false (sym is))
temporary-installed false Permanent is = absurd (true≢false (sym is))
temporary-installed false OneShot is = absurd (true≢false (sym is))

temporary-restarted : (b : Bool) (s : Status) → is_temporary (restarted_status b s) ≡ true → b ≡ true
temporary-restarted true s is = refl
temporary-restarted false Unpacked is = absurd (true≢false (sym is))
temporary-restarted false Current is = absurd (true≢false (sym is))
temporary-restarted false Old is = absurd (true≢false (sym is))
temporary-restarted false Permanent is = absurd (true≢false (sym is))
temporary-restarted false OneShot is = absurd (true≢false (sym is))

pub permanent-installed : (b : Bool) (s : Status) → is_permanent (installed_status b s) ≡ is_permanent s
permanent-installed true Unpacked = refl
permanent-installed true Current = refl
permanent-installed true Old = refl
permanent-installed true Permanent = refl
permanent-installed true OneShot = refl
permanent-installed false Unpacked = refl
permanent-installed false Current = refl
permanent-installed false Old = refl
permanent-installed false Permanent = refl
permanent-installed false OneShot = refl

pub permanent-restarted : (b : Bool) (s : Status) → is_permanent (restarted_status b s) ≡ is_permanent s
permanent-restarted true Unpacked = refl
permanent-restarted true Current = refl
permanent-restarted true Old = refl
permanent-restarted true Permanent = refl
permanent-restarted true OneShot = refl
permanent-restarted false Unpacked = refl
permanent-restarted false Current = refl
permanent-restarted false Old = refl
permanent-restarted false Permanent = refl
permanent-restarted false OneShot = refl

-- The permanent release

temporary-permanent : (b : Bool) (s : Status) → is_temporary (permanent_status b s) ≡ true → is_temporary s ≡ true
temporary-permanent true s is = absurd (true≢false (sym is))
temporary-permanent false Unpacked is = is
temporary-permanent false Current is = is
temporary-permanent false Old is = is
temporary-permanent false Permanent is = absurd (true≢false (sym is))
temporary-permanent false OneShot is = is

permanent-permanent : (b : Bool) (s : Status) → is_permanent (permanent_status b s) ≡ b
permanent-permanent true s = refl
permanent-permanent false Unpacked = refl
permanent-permanent false Current = refl
permanent-permanent false Old = refl
permanent-permanent false Permanent = refl
permanent-permanent false OneShot = refl

-- Boot

temporary-booted : (s : Status) → is_temporary (booted_status s) ≡ true → is_temporary s ≡ true
temporary-booted Unpacked is = is
temporary-booted Current is = refl
temporary-booted Old is = is
temporary-booted Permanent is = is
temporary-booted OneShot is = refl

pub permanent-booted : (s : Status) → is_permanent (booted_status s) ≡ is_permanent s
permanent-booted Unpacked = refl
permanent-booted Current = refl
permanent-booted Old = refl
permanent-booted Permanent = refl
permanent-booted OneShot = refl

pub permanent-recorded : (s : Status) → is_permanent (recorded_status s) ≡ is_permanent s
permanent-recorded Unpacked = refl
permanent-recorded Current = refl
permanent-recorded Old = refl
permanent-recorded Permanent = refl
permanent-recorded OneShot = refl

pub orderly-installed : (v : List ℕ) (es : Releases) → IsOrderly es → IsOrderly (list_installed v es)
orderly-installed v es o =
    let few : temporaries (list_installed v es) ≤ length (of_version v es) =
    no_more (λ vsn s. installed_status (bytes_eq v vsn) s) (λ (e : Entry). is_temporary e.status) (λ (e : Entry). bytes_eq v e.release.vsn)
    (λ (e : Entry). temporary-installed (bytes_eq v e.release.vsn) e.status) es in
    record { distinct = distinct-with_statuses _ es o.distinct; one_temporary = omega (arith, few, at_most_once v es o.distinct) }

pub orderly-restarted : (v : List ℕ) (es : Releases) → IsOrderly es → IsOrderly (list_restarted v es)
orderly-restarted v es o =
    let few : temporaries (list_restarted v es) ≤ length (of_version v es) =
    no_more (λ vsn s. restarted_status (bytes_eq v vsn) s) (λ (e : Entry). is_temporary e.status) (λ (e : Entry). bytes_eq v e.release.vsn)
    (λ (e : Entry). temporary-restarted (bytes_eq v e.release.vsn) e.status) es in
    record { distinct = distinct-with_statuses _ es o.distinct; one_temporary = omega (arith, few, at_most_once v es o.distinct) }

pub orderly-made_permanent : (v : List ℕ) (es : Releases) → IsOrderly es → IsOrderly (list_made_permanent v es)
orderly-made_permanent v es o =
    let few : temporaries (list_made_permanent v es) ≤ temporaries es =
    no_more (λ vsn s. permanent_status (bytes_eq v vsn) s) (λ (e : Entry). is_temporary e.status) (λ (e : Entry). is_temporary e.status)
    (λ (e : Entry). temporary-permanent (bytes_eq v e.release.vsn) e.status) es in
    record { distinct = distinct-with_statuses _ es o.distinct; one_temporary = omega (arith, few, o.one_temporary) }

pub orderly-booted : (es : Releases) → IsOrderly es → IsOrderly (booted es)
orderly-booted es o =
    let few : temporaries (booted es) ≤ temporaries es =
    no_more (λ vsn s. booted_status s) (λ (e : Entry). is_temporary e.status) (λ (e : Entry). is_temporary e.status) (λ (e : Entry). temporary-booted e.status) es in
    record { distinct = distinct-with_statuses (λ vsn s. booted_status s) es o.distinct; one_temporary = omega (arith, few, o.one_temporary) }

-- An assignment

-- Where no other release is current or a one-shot, only the one of this version is, whatever it gets.
few-alone : (v : List ℕ) (t : Status) (es : Releases) → has_other_temporary v es ≡ false → temporaries (list_assigned v t es) ≤ length (of_version v es)
few-alone v t [] alone = omega arith
few-alone v t (e ∷ es) alone = go (bytes_eq v e.release.vsn) alone (few-alone v t es)
  where
    assigned : Releases
    assigned = list_assigned v t es

    -- at most one more on the left, and one more on the right
    of_it : (b : Bool) (x : Entry) → temporaries assigned ≤ length (of_version v es) → length (cond b (x ∷ of_status is_temporary assigned) (of_status is_temporary assigned)) ≤ length (e ∷ of_version v es)
    of_it true x few = omega (arith, few)
    of_it false x few = omega (arith, few)

    of_another : (b : Bool) (x : Entry) → (b || has_other_temporary v es) ≡ false → (has_other_temporary v es ≡ false → temporaries assigned ≤ length (of_version v es))
        → length (cond b (x ∷ of_status is_temporary assigned) (of_status is_temporary assigned)) ≤ length (of_version v es)
    of_another true x alone rest = absurd (true≢false alone)
    of_another false x alone rest = rest alone

    go : (b : Bool) → ((not b && is_temporary e.status) || has_other_temporary v es) ≡ false → (has_other_temporary v es ≡ false → temporaries assigned ≤ length (of_version v es))
        → length (cond (is_temporary (assigned_status t b e.status)) (record e { status = assigned_status t b e.status } ∷ of_status is_temporary assigned) (of_status is_temporary assigned))
        ≤ length (cond b (e ∷ of_version v es) (of_version v es))
    go true alone rest = of_it (is_temporary t) (record e { status = t }) (rest alone)
    go false alone rest = of_another (is_temporary e.status) e alone rest

temporary-assigned : (t : Status) → is_temporary t ≡ false → (b : Bool) (s : Status) → is_temporary (assigned_status t b s) ≡ true → is_temporary s ≡ true
temporary-assigned t none true s is = absurd (true≢false (sym is ∙ none))
temporary-assigned t none false s is = is

orderly-at_rest : (v : List ℕ) (t : Status) (es : Releases) → is_temporary t ≡ false → IsOrderly es → IsOrderly (list_assigned v t es)
orderly-at_rest v t es none o =
    let few : temporaries (list_assigned v t es) ≤ temporaries es =
    no_more (λ vsn s. assigned_status t (bytes_eq v vsn) s) (λ (e : Entry). is_temporary e.status) (λ (e : Entry). is_temporary e.status)
    (λ (e : Entry). temporary-assigned t none (bytes_eq v e.release.vsn) e.status) es in
    record { distinct = distinct-with_statuses _ es o.distinct; one_temporary = omega (arith, few, o.one_temporary) }

no_other : (listed other : Bool) → (listed && not other) ≡ true → other ≡ false
no_other listed false may = refl
no_other true true may = absurd (true≢false (sym may))
no_other false true may = absurd (true≢false (sym may))

pub orderly-assigned : (v : List ℕ) (t : Status) (es : Releases) → may_be_given t v es ≡ true → IsOrderly es → IsOrderly (list_assigned v t es)
orderly-assigned v Unpacked es may o = orderly-at_rest v Unpacked es refl o
orderly-assigned v Current es may o = absurd (true≢false (sym may))
orderly-assigned v Old es may o = orderly-at_rest v Old es refl o
orderly-assigned v Permanent es may o = orderly-at_rest v Permanent es refl o
orderly-assigned v OneShot es may o =
    let few = few-alone v OneShot es (no_other (is_some (status_of v es)) (has_other_temporary v es) may) in
    record { distinct = distinct-with_statuses _ es o.distinct; one_temporary = omega (arith, few, at_most_once v es o.distinct) }

-- A release that leaves

unlisted-without : (v w : List ℕ) (es : Releases) → status_of w es ≡ None → status_of w (without v es) ≡ None
unlisted-without v w [] none = refl
unlisted-without v w (e ∷ es) none = go (bytes_eq v e.release.vsn) (unlisted-without v w es (none_behind w e es none))
  where
    go : (b : Bool) → status_of w (without v es) ≡ None → status_of w (cond b es (e ∷ without v es)) ≡ None
    go true rest = none_behind w e es none
    go false rest = none_at_all w e (without v es) (first_differs w e es none) rest

distinct-without : (v : List ℕ) (es : Releases) → HasDistinctVersions es → HasDistinctVersions (without v es)
distinct-without v [] distinct = tt
distinct-without v (e ∷ es) distinct = go (bytes_eq v e.release.vsn) (distinct-without v es distinct.1)
  where
    go : (b : Bool) → HasDistinctVersions (without v es) → HasDistinctVersions (cond b es (e ∷ without v es))
    go true rest = distinct.1
    go false rest = (unlisted-without v e.release.vsn es distinct.0, rest)

fewer : (test : Entry → Bool) (v : List ℕ) (es : Releases) → length (filter test (without v es)) ≤ length (filter test es)
fewer test v [] = omega arith
fewer test v (e ∷ es) = go (bytes_eq v e.release.vsn) (fewer test v es)
  where
    -- the list is no shorter than without its first
    behind : (p : Bool) → length (filter test es) ≤ length (cond p (e ∷ filter test es) (filter test es))
    behind true = omega arith
    behind false = omega arith

    go : (b : Bool) → length (filter test (without v es)) ≤ length (filter test es)
        → length (filter test (cond b es (e ∷ without v es))) ≤ length (filter test (e ∷ es))
    go true rest = behind (test e)
    go false rest = one_more (test e) (test e) e (filter test (without v es)) e (filter test es) (λ is. is) rest

pub orderly-without : (v : List ℕ) (es : Releases) → IsOrderly es → IsOrderly (without v es)
orderly-without v es o =
    record { distinct = distinct-without v es o.distinct; one_temporary = omega (arith, fewer (λ (e : Entry). is_temporary e.status) v es, o.one_temporary) }

pub kept_permanent : (s : Status) → may_be_removed (Some s) ≡ true → is_permanent s ≡ false
kept_permanent Unpacked is = refl
kept_permanent Current is = refl
kept_permanent Old is = refl
kept_permanent Permanent is = sym is
kept_permanent OneShot is = refl

permanents-without : (v : List ℕ) (es : Releases) → may_be_removed (status_of v es) ≡ true → permanents (without v es) ≡ permanents es
permanents-without v [] may = refl
permanents-without v (e ∷ es) may = go (bytes_eq v e.release.vsn) (permanents-without v es) may
  where
    go : (b : Bool) → (may_be_removed (status_of v es) ≡ true → permanents (without v es) ≡ permanents es)
        → may_be_removed (option_map (λ (f : Entry). f.status) (cond b (Some e) (find (λ (f : Entry). bytes_eq v f.release.vsn) es))) ≡ true
        → permanents (cond b es (e ∷ without v es)) ≡ permanents (e ∷ es)
    go true rest may = ap (λ b. length (cond b (e ∷ of_status is_permanent es) (of_status is_permanent es))) (sym (kept_permanent e.status may))
    go false rest may = as_many (is_permanent e.status) (is_permanent e.status) e _ e _ refl (rest may)

-- A release that comes in

unlisted-push : (w : List ℕ) (es : Releases) (n : Entry) → bytes_eq w n.release.vsn ≡ false → status_of w es ≡ None → status_of w (es ++ n ∷ []) ≡ None
unlisted-push w [] n differs none = none_at_all w n [] differs refl
unlisted-push w (e ∷ es) n differs none =
    none_at_all w e (es ++ n ∷ []) (first_differs w e es none) (unlisted-push w es n differs (none_behind w e es none))

distinct-push : (es : Releases) (n : Entry) → status_of n.release.vsn es ≡ None → HasDistinctVersions es → HasDistinctVersions (es ++ n ∷ [])
distinct-push [] n none distinct = (refl, tt)
distinct-push (e ∷ es) n none distinct = (
  unlisted-push e.release.vsn es n (differs_back n.release.vsn e.release.vsn (first_differs n.release.vsn e es none)) distinct.0,
  distinct-push es n (none_behind n.release.vsn e es none) distinct.1,
)

no_more-push : (test : Entry → Bool) (es : Releases) (n : Entry) → test n ≡ false → filter test (es ++ n ∷ []) ≡ filter test es
no_more-push test [] n not_it = ap (λ b. cond b (n ∷ []) []) not_it
no_more-push test (e ∷ es) n not_it = ap (λ l. cond (test e) (e ∷ l) l) (no_more-push test es n not_it)

pub orderly-push : (es : Releases) (n : Entry) → is_temporary n.status ≡ false → status_of n.release.vsn es ≡ None → IsOrderly es → IsOrderly (es ++ n ∷ [])
orderly-push es n not_temporary none o = record {
  distinct = distinct-push es n none o.distinct;
  one_temporary = subst (λ l. length l ≤ 1) (sym (no_more-push (λ (e : Entry). is_temporary e.status) es n not_temporary)) o.one_temporary;
}

-- Any event

pub allowed : (b : Bool) (es next : Releases) → (if b then Some es else None) ≡ Some next → (b ≡ true) × (es ≡ next)
allowed true es next is = (refl, cc is)
allowed false es next is = cc

pub allowed_else : (b : Bool) (es next : Releases) → (if b then None else Some es) ≡ Some next → (b ≡ false) × (es ≡ next)
allowed_else false es next is = (refl, cc is)
allowed_else true es next is = cc

unlisted : (o : Option Status) → is_some o ≡ false → o ≡ None
unlisted None is = refl
unlisted (Some s) is = absurd (true≢false is)

-- what fits into a list has a version that isn't there
fits : (p : Bundle) (es : Releases) → is_barred p es ≡ false → status_of p.release.vsn es ≡ None
fits p es is = unlisted (status_of p.release.vsn es) (neither (is_some (status_of p.release.vsn es)) (is_some (first_different es p.libraries)) is)
  where
    neither : (a b : Bool) → (a || b) ≡ false → a ≡ false
    neither true b is = absurd (true≢false is)
    neither false b is = refl

orderly-own : (e : Event) (es next : Releases) → IsOrderly es → own_step e es ≡ Some next → IsOrderly next
orderly-own (made p) [] next o is =
    let single : entry p Permanent ∷ [] ≡ next = cc is in
    subst IsOrderly single (record { distinct = (refl, tt); one_temporary = omega arith })
orderly-own (made p) (e ∷ es) next o is = cc
orderly-own (unpacked p) es next o is =
    let a = allowed_else (is_barred p es) (es ++ entry p Unpacked ∷ []) next is in
    subst IsOrderly a.1 (orderly-push es (entry p Unpacked) refl (fits p es a.0) o)
orderly-own (installed v) es next o is =
    subst IsOrderly (allowed (may_be_installed (has_current es) (status_of v es)) (list_installed v es) next is).1 (orderly-installed v es o)
orderly-own (restart_installed v) es next o is =
    subst IsOrderly (allowed (may_be_installed (has_current es) (status_of v es)) (list_restarted v es) next is).1 (orderly-restarted v es o)
orderly-own (made_permanent v) es next o is =
    subst IsOrderly (allowed (may_be_made_permanent (status_of v es)) (list_made_permanent v es) next is).1 (orderly-made_permanent v es o)
orderly-own (removed v) es next o is =
    subst IsOrderly (allowed (may_be_removed (status_of v es)) (without v es) next is).1 (orderly-without v es o)
orderly-own (reboot_old v) es next o is =
    subst IsOrderly (allowed (may_be_rebooted (status_of v es)) (list_made_permanent v es) next is).1 (orderly-made_permanent v es o)
orderly-own boot es next o is =
    let is_booted : booted es ≡ next = cc is in
    subst IsOrderly is_booted (orderly-booted es o)

pub orderly-step : (e : Event) (es next : Releases) → IsOrderly es → step e es ≡ Some next → IsOrderly next
orderly-step e es next o is = orderly-own e es next o (own_of_step e es next is).1

-- exactly one release stays permanent
listed_current : (o : Option Status) → may_be_made_permanent o ≡ true → is_some o ≡ true
listed_current None is = is
listed_current (Some s) is = refl

listed_old : (o : Option Status) → may_be_rebooted o ≡ true → is_some o ≡ true
listed_old None is = is
listed_old (Some s) is = refl

permanents-made_permanent : (v : List ℕ) (es : Releases) → HasDistinctVersions es → is_some (status_of v es) ≡ true → permanents (list_made_permanent v es) ≡ 1
permanents-made_permanent v es distinct listed =
    just_as_many (λ vsn s. permanent_status (bytes_eq v vsn) s) (λ (e : Entry). is_permanent e.status) (λ (e : Entry). bytes_eq v e.release.vsn)
    (λ (e : Entry). permanent-permanent (bytes_eq v e.release.vsn) e.status) es
    ∙ exactly_once v es distinct listed

one_permanent-own : (e : Event) (es next : Releases) → HasDistinctVersions es → permanents es ≡ 1 → own_step e es ≡ Some next → permanents next ≡ 1
one_permanent-own (made p) [] next distinct one is = omega (arith, one)
one_permanent-own (made p) (e ∷ es) next distinct one is = cc
one_permanent-own (unpacked p) es next distinct one is =
    let a = allowed_else (is_barred p es) (es ++ entry p Unpacked ∷ []) next is in
    subst (λ l. permanents l ≡ 1) a.1 (ap length (no_more-push (λ (e : Entry). is_permanent e.status) es (entry p Unpacked) refl) ∙ one)
one_permanent-own (installed v) es next distinct one is =
    subst (λ l. permanents l ≡ 1) (allowed (may_be_installed (has_current es) (status_of v es)) (list_installed v es) next is).1
    (just_as_many (λ vsn s. installed_status (bytes_eq v vsn) s) (λ (e : Entry). is_permanent e.status) (λ (e : Entry). is_permanent e.status)
    (λ (e : Entry). permanent-installed (bytes_eq v e.release.vsn) e.status) es
    ∙ one)
one_permanent-own (restart_installed v) es next distinct one is =
    subst (λ l. permanents l ≡ 1) (allowed (may_be_installed (has_current es) (status_of v es)) (list_restarted v es) next is).1
    (just_as_many (λ vsn s. restarted_status (bytes_eq v vsn) s) (λ (e : Entry). is_permanent e.status) (λ (e : Entry). is_permanent e.status)
    (λ (e : Entry). permanent-restarted (bytes_eq v e.release.vsn) e.status) es
    ∙ one)
one_permanent-own (made_permanent v) es next distinct one is =
    let a = allowed (may_be_made_permanent (status_of v es)) (list_made_permanent v es) next is in
    subst (λ l. permanents l ≡ 1) a.1 (permanents-made_permanent v es distinct (listed_current (status_of v es) a.0))
one_permanent-own (removed v) es next distinct one is =
    let a = allowed (may_be_removed (status_of v es)) (without v es) next is in
    subst (λ l. permanents l ≡ 1) a.1 (permanents-without v es a.0 ∙ one)
one_permanent-own (reboot_old v) es next distinct one is =
    let a = allowed (may_be_rebooted (status_of v es)) (list_made_permanent v es) next is in
    subst (λ l. permanents l ≡ 1) a.1 (permanents-made_permanent v es distinct (listed_old (status_of v es) a.0))
one_permanent-own boot es next distinct one is =
    let is_booted : booted es ≡ next = cc is in
    subst (λ l. permanents l ≡ 1) is_booted
    (just_as_many (λ vsn s. booted_status s) (λ (e : Entry). is_permanent e.status) (λ (e : Entry). is_permanent e.status)
    (λ (e : Entry). permanent-booted e.status) es
    ∙ one)

pub one_permanent-step : (e : Event) (es next : Releases) → HasDistinctVersions es → permanents es ≡ 1 → step e es ≡ Some next → permanents next ≡ 1
one_permanent-step e es next distinct one is = one_permanent-own e es next distinct one (own_of_step e es next is).1

-- Events in a row

-- the list after the first event
first_step : (e : Event) (events : List Event) (es end : Releases) → list_from es (e ∷ events) ≡ Some end
    → (next : Releases) × (step e es ≡ Some next) × (list_from next events ≡ Some end)
first_step e events es end is = go (step e es) refl is
  where
    go : (o : Option Releases) → step e es ≡ o → option_and_then (λ next. list_from next events) o ≡ Some end
        → (next : Releases) × (step e es ≡ Some next) × (list_from next events ≡ Some end)
    go None made_of is = cc
    go (Some next) made_of is = (next, made_of, is)

-- the list after further events
pub list_from-append : (es : Releases) (events more : List Event) (mid end : Releases) → list_from es events ≡ Some mid → list_from mid more ≡ Some end → list_from es (events ++ more) ≡ Some end
list_from-append es [] more mid end first second =
    let same : es ≡ mid = cc first in
    subst (λ l. list_from l more ≡ Some end) (sym same) second
list_from-append es (e ∷ events) more mid end first second =
    go (step e es) (λ l. list_from-append l events more mid end) first
  where
    go : (o : Option Releases) → ((l : Releases) → list_from l events ≡ Some mid → list_from mid more ≡ Some end → list_from l (events ++ more) ≡ Some end)
        → option_and_then (λ l. list_from l events) o ≡ Some mid → option_and_then (λ l. list_from l (events ++ more)) o ≡ Some end
    go None rest first = cc
    go (Some l) rest first = rest l first second

orderly-from : (events : List Event) (es end : Releases) → IsOrderly es → list_from es events ≡ Some end → IsOrderly end
orderly-from [] es end o is =
    let same : es ≡ end = cc is in
    subst IsOrderly same o
orderly-from (e ∷ events) es end o is =
    let s = first_step e events es end is in
    orderly-from events s.0 end (orderly-step e es s.0 o s.1) s.2

one_permanent-from : (events : List Event) (es end : Releases) → IsOrderly es → permanents es ≡ 1 → list_from es events ≡ Some end → permanents end ≡ 1
one_permanent-from [] es end o one is =
    let same : es ≡ end = cc is in
    subst (λ l. permanents l ≡ 1) same one
one_permanent-from (e ∷ events) es end o one is =
    let s = first_step e events es end is in
    one_permanent-from events s.0 end (orderly-step e es s.0 o s.1) (one_permanent-step e es s.0 o.distinct one s.1) s.2

one_permanent-behind : (before after : List Event) (p : Bundle) (es end : Releases) → IsOrderly es → list_from es (before ++ made p ∷ after) ≡ Some end → permanents end ≡ 1
one_permanent-behind [] after p [] end o is =
    one_permanent-from after (entry p Permanent ∷ []) end (orderly-step (made p) [] (entry p Permanent ∷ []) o refl) refl is
one_permanent-behind [] after p (e ∷ es) end o is =
    let s = first_step (made p) after (e ∷ es) end is in absurd (never_made_again p e es s.0 s.1)
one_permanent-behind (e ∷ before) after p es end o is =
    let s = first_step e (before ++ made p ∷ after) es end is in
    one_permanent-behind before after p s.0 end (orderly-step e es s.0 o s.1) s.2

pub orderly-empty : IsOrderly []
orderly-empty = record { distinct = tt; one_temporary = omega arith }

pub orderly-after : (events : List Event) (es : Releases) → list_after events ≡ Some es → IsOrderly es
orderly-after events es is = orderly-from events [] es orderly-empty is

pub one_permanent-after : (before after : List Event) (p : Bundle) (es : Releases) → list_after (before ++ made p ∷ after) ≡ Some es → permanents es ≡ 1
one_permanent-after before after p es is = one_permanent-behind before after p [] es orderly-empty is
