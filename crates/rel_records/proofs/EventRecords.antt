-- The record of an event makes of a list what the event makes of it, each as records report it.
use Rattle.std.proofs.Common.{◌≡◌, ◌⊎◌, ℕ, ◌<◌, Bool, true, false, cond, List, [], ◌∷◌, ◌++◌, length, map, filter, Option, Some, None, is_some, suc, inl, inr, refl, sym, ap, subst, ◌∙◌, find, true≢false, arith, if◌then◌else◌}
use Rattle.std.specs.Prelude.{◌&&◌, ◌||◌, not, nat_lt, ◌==◌}
use Rattle.std.specs.List.{AllByRecursion}
use Rattle.std.specs.Option.{option_map, option_and_then, option_or}
use Rattle.std.specs.Str.{bytes_eq}
use Rattle.std.proofs.lemmas.Bool.{cases_Bool, eqb-true}
use Rattle.std.proofs.lemmas.Bool.Decides.{nat_tests}
use Rattle.erl_term.specs.Value.{Value}
use Rattle.rel_files.proofs.Options.{both, passed}
use Rattle.library.specs.Library.{Library}
use Rattle.rel_list.specs.declared.status.Status.{Status}
use Rattle.rel_list.specs.declared.status.Status.TheVariants.{Unpacked, Current, Old, Permanent, OneShot}
use Rattle.rel_list.specs.Status.{is_current, is_one_shot, is_permanent, is_temporary}
use Rattle.rel_list.specs.Change.{has_other_temporary, may_be_given}
use Rattle.rel_list.specs.Releases.{Bundle, Releases, Entry, entry, first_different, status_of, of_status, HasDistinctVersions, has_current, has_one_shot}
use Rattle.rel_list.specs.Event.{Event, is_barred, may_be_installed, may_be_made_permanent, may_be_removed, may_be_rebooted, restarted_status, permanent_status, recorded_status, status_behind, assigned_status, with_statuses, list_installed, list_restarted, list_made_permanent, list_assigned, without, booted, recorded, step}
use Rattle.rel_list.specs.Event.Event.{made, unpacked, installed, restart_installed, made_permanent, removed, reboot_old, boot}
use Rattle.rel_list.specs.Keyed.{IsOrderly}
use Rattle.rel_list.proofs.EventLaws.{one_permanent-step, permanent-recorded}
use Rattle.rel_list.proofs.BootLaws.{first_is_none, no_one_shot-booted}
use Rattle.rel_list.proofs.OneShotLaws.{none-installed, none_recorded, one_shot-recorded}
use Rattle.rel_list.proofs.OwnRules.{never_made_again, own_of_step, step_of_own}
use Rattle.rel_list.proofs.Orderly.{status_or, same_version, is_itself, differs_back, first_differs, none_behind, listed-with_statuses, unlisted-with_statuses, just_as_many}
use Rattle.rel_records.specs.Given.{NamesEachOnce, are_in_order, leads, others, said, status_given}
use Rattle.rel_records.specs.Limits.{has_one_permanent, is_small, most_releases}
use Rattle.rel_records.specs.Record.{Assignment, Record, makes, adds, assigns, removes, images}
use Rattle.rel_records.specs.Lists.{may_be_assigned, assign_all, completed, if_faultless, brought_by, taken_by, with_one_permanent, assigned, HaveLibraries}
use Rattle.rel_records.specs.StatusLaws.{IsOfNode, IsSilent, KeepsReleases}
use Rattle.rel_records.specs.StatusChanges.{are_of_one_event, is_same, said_in, said_of, statuses_of, with_said}
use Rattle.rel_records.specs.Writing.{is_changed, assignment_of, changes, new_libraries, record_of, IsComplete, IsWithinLimits, IsOfListed, Reports}
use Rattle.rel_records.specs.Laws.{IsOfEvent, IsOfOneRelease, IsOfStatuses, RecordsAreOfEvents, RecordsDetermineEvents, StatusesAreOfEvents}
use Rattle.rel_records.specs.Reading.{Says}
use Rattle.library.proofs.TermCases.{are_libraries}
use Rattle.rel_list.proofs.RestLaws.{not_temporary}
use Rattle.rel_records.proofs.CompletionLemmas.{all_new, are_completed, brought_complete, completed_first, completed_new, first_different-recorded}
use Rattle.rel_records.proofs.StatusLemmas.{same_so}
use Rattle.rel_records.proofs.StatusesAfterEvents.{IsOfOneEvent, behind_boot, behind_installation, behind_promotion, behind_reboot, behind_restart}
use Rattle.rel_records.proofs.EventsOfStatuses.{such_statuses_are_of_one_event}
use Rattle.rel_records.proofs.StatusRecords.{assigned_as_said, or_none, other_said, others_none, set_so, set_where, silent_empty, unmentioned}
use Rattle.rel_records.proofs.RecordPlaces.{assigned_so, event_of_record, kept, recorded-push, recorded-without, pushed_last}

pub one-recorded : (es : Releases) → has_one_permanent (recorded es) ≡ has_one_permanent es
one-recorded es =
    ap (λ n. n == 1)
    (just_as_many (λ vsn s. recorded_status s) (λ (e : Entry). is_permanent e.status) (λ (e : Entry). is_permanent e.status) (λ (e : Entry). permanent-recorded e.status) es)

-- a status is reported once as it is reported twice
recorded_status-twice : (s : Status) → recorded_status (recorded_status s) ≡ recorded_status s
recorded_status-twice Unpacked = refl
recorded_status-twice Current = refl
recorded_status-twice Old = refl
recorded_status-twice Permanent = refl
recorded_status-twice OneShot = refl

pub recorded-twice : (es : Releases) → recorded (recorded es) ≡ recorded es
recorded-twice [] = refl
recorded-twice (e ∷ es) = λ k. record e { status = recorded_status-twice e.status k } ∷ recorded-twice es k

pub length-recorded : (es : Releases) → length (recorded es) ≡ length es
length-recorded [] = refl
length-recorded (e ∷ es) = ap suc (length-recorded es)

-- the status of a release as records report it
pub status_of-recorded : (v : List ℕ) (es : Releases) → status_of v (recorded es) ≡ option_map recorded_status (status_of v es)
status_of-recorded v [] = refl
status_of-recorded v (e ∷ es) = go (bytes_eq v e.release.vsn) (status_of-recorded v es)
  where
    go : (b : Bool) → status_of v (recorded es) ≡ option_map recorded_status (status_of v es)
        → status_or b (record e { status = recorded_status e.status }) (find (λ (f : Entry). bytes_eq v f.release.vsn) (recorded es))
        ≡ option_map recorded_status (status_or b e (find (λ (f : Entry). bytes_eq v f.release.vsn) es))
    go true rest = refl
    go false rest = rest

-- an assignment to another release leaves the first one
abbrev pub AreOfOthers : List ℕ → List Assignment → Type 0
AreOfOthers v given = AllByRecursion (λ (a : Assignment). bytes_eq a.vsn v ≡ false) given

-- none of these assignments makes a release a one-shot beside this one, which is current or a one-shot
abbrev pub AreApartFrom : Status → List Assignment → Type 0
AreApartFrom s given = AllByRecursion (λ (a : Assignment). (is_one_shot a.status && is_temporary s) ≡ false) given

-- what may be assigned after a release may be beside it
beside_first : (t s : Status) → (is_one_shot t && is_temporary s) ≡ false
    → (v : List ℕ) (x : Entry) (es : Releases) → x.status ≡ s → bytes_eq v x.release.vsn ≡ false → may_be_given t v es ≡ true → may_be_given t v (x ∷ es) ≡ true
beside_first Unpacked s apart v x es own differ may = rw differ may
beside_first Current s apart v x es own differ may = absurd cc
beside_first Old s apart v x es own differ may = rw differ may
beside_first Permanent s apart v x es own differ may = rw differ may
beside_first OneShot s apart v x es own differ may = rw (differ, own, apart) may

pub behind_first : (x : Entry) (given : List Assignment) (es end : Releases) → AreOfOthers x.release.vsn given → AreApartFrom x.status given
    → assign_all given es ≡ Some end → assign_all given (x ∷ es) ≡ Some (x ∷ end)
behind_first x [] es end others apart is = let same : es ≡ end = cc is in ap (λ l. Some (x ∷ l)) same
behind_first x (a ∷ given) es end others apart is =
    let (may, rest) = passed (may_be_assigned a es) (assign_all given (list_assigned a.vsn a.status es)) end is in
    let listed : may_be_assigned a (x ∷ es) ≡ true = beside_first a.status x.status apart.0 a.vsn x es refl others.0 may in
    let still : list_assigned a.vsn a.status (x ∷ es) ≡ x ∷ list_assigned a.vsn a.status es = ap (λ b. record x { status = assigned_status a.status b x.status } ∷ list_assigned a.vsn a.status es) others.0 in
    ap (λ b. if b then assign_all given (list_assigned a.vsn a.status (x ∷ es)) else None) listed
    ∙ ap (assign_all given) still
    ∙ behind_first x given (list_assigned a.vsn a.status es) end others.1 apart.1 rest

-- where no release has the version, an assignment to it changes nothing
pub unassigned : (v : List ℕ) (t : Status) (es : Releases) → status_of v es ≡ None → list_assigned v t es ≡ es
unassigned v t [] none = refl
unassigned v t (x ∷ es) none =
    ap (λ b. record x { status = assigned_status t b x.status } ∷ list_assigned v t es) (first_differs v x es none) ∙ ap (λ l. x ∷ l) (unassigned v t es (none_behind v x es none))

-- records never report that a release is current
pub never_current : (s : Status) → not (is_current (recorded_status s)) ≡ true
never_current Unpacked = refl
never_current Current = refl
never_current Old = refl
never_current Permanent = refl
never_current OneShot = refl

-- a status that records report may be assigned, where it is no one-shot
given-recorded : (s : Status) (v : List ℕ) (es : Releases) → is_one_shot s ≡ false → may_be_given (recorded_status s) v es ≡ is_some (status_of v es)
given-recorded Unpacked v es none = refl
given-recorded Current v es none = refl
given-recorded Old v es none = refl
given-recorded Permanent v es none = refl
given-recorded OneShot v es none = absurd cc

is_the_one_shot : (s : Status) → is_one_shot s ≡ true → s ≡ OneShot
is_the_one_shot Unpacked is = absurd cc
is_the_one_shot Current is = absurd cc
is_the_one_shot Old is = absurd cc
is_the_one_shot Permanent is = absurd cc
is_the_one_shot OneShot is = refl

pub and_false : (b : Bool) → (b && false) ≡ false
and_false true = refl
and_false false = refl

-- none is assigned so beside what is neither current nor a one-shot
pub beside_none : (s : Status) (given : List Assignment) → is_temporary s ≡ false → AreApartFrom s given
beside_none s [] none = tt
beside_none s (a ∷ given) none = (rw (none, and_false (is_one_shot a.status)) refl, beside_none s given none)

-- nor where none is a one-shot
pub none_given : (s : Status) (given : List Assignment) → AllByRecursion (λ (a : Assignment). is_one_shot a.status ≡ false) given → AreApartFrom s given
none_given s [] all = tt
none_given s (a ∷ given) all = (rw all.0 refl, none_given s given all.1)

module _ (e : Event) where
  abbrev behind : Releases → Releases
  behind es = with_statuses (status_behind e) es

  -- the status of a release then
  abbrev after : Entry → Status
  after x = status_behind e x.release.vsn x.status

  -- what changes after a release is of other versions
  changes_others : (v : List ℕ) (es : Releases) → status_of v es ≡ None → AreOfOthers v (changes e es)
  changes_others v [] none = tt
  changes_others v (x ∷ es) none = go (is_changed e x) (changes_others v es (none_behind v x es none))
    where
      go : (b : Bool) → AreOfOthers v (changes e es) → AreOfOthers v (map (assignment_of e) (cond b (x ∷ filter (is_changed e) es) (filter (is_changed e) es)))
      go true rest = (differs_back v x.release.vsn (first_differs v x es none), rest)
      go false rest = rest

  -- A release that changes becomes a one-shot only where no other is current or a one-shot, and none after it does beside it.
  abbrev AreApart : Releases → Type 0
  AreApart [] = Unit {0}
  AreApart (x ∷ es) =
      (is_changed e x ≡ true → is_one_shot (after x) ≡ true → has_other_temporary x.release.vsn (recorded es) ≡ false)
      × AreApartFrom (recorded_status (after x)) (changes e es) × AreApart es

  -- the changed statuses, assigned to the list as records report it
  changes_so : (es : Releases) → HasDistinctVersions es → AreApart es → assign_all (changes e es) (recorded es) ≡ Some (recorded (behind es))
  changes_so [] distinct apart = refl
  changes_so (x ∷ es) distinct apart = go (changes_so es distinct.1 apart.2) (is_changed e x) refl
    where
      others : AreOfOthers x.release.vsn (changes e es)
      others = changes_others x.release.vsn es distinct.0

      there : is_changed e x ≡ true → may_be_assigned (assignment_of e x) (recorded (x ∷ es)) ≡ true
      there changed = elim (cases_Bool (is_one_shot (after x))) [
        | inl is ↦ rw (is_the_one_shot (after x) is, is_itself x.release.vsn, apart.0 changed is) refl
        | inr is ↦ given-recorded (after x) x.release.vsn (recorded (x ∷ es)) is ∙ rw (is_itself x.release.vsn) refl
      ]

      set : list_assigned x.release.vsn (recorded_status (after x)) (recorded (x ∷ es)) ≡ record x { status = recorded_status (after x) } ∷ recorded es
      set =
          ap (λ b. record x { status = assigned_status (recorded_status (after x)) b (recorded_status x.status) } ∷ list_assigned x.release.vsn (recorded_status (after x)) (recorded es)) (is_itself x.release.vsn)
          ∙ ap (λ l. record x { status = recorded_status (after x) } ∷ l) (unassigned x.release.vsn (recorded_status (after x)) (recorded es) (unlisted-with_statuses (λ vsn s. recorded_status s) x.release.vsn es distinct.0))

      go : assign_all (changes e es) (recorded es) ≡ Some (recorded (behind es)) → (b : Bool) → is_changed e x ≡ b
          → assign_all (map (assignment_of e) (cond b (x ∷ filter (is_changed e) es) (filter (is_changed e) es))) (recorded (x ∷ es)) ≡ Some (recorded (behind (x ∷ es)))
      go rest true is =
          ap (λ b. if b then assign_all (changes e es) (list_assigned x.release.vsn (recorded_status (after x)) (recorded (x ∷ es))) else None) (there is)
          ∙ ap (assign_all (changes e es)) set
          ∙ behind_first (record x { status = recorded_status (after x) }) (changes e es) (recorded es) (recorded (behind es)) others apart.1 rest
      go rest false is =
          let same : after x ≡ x.status = same_so (after x) x.status (unchanged (is_same (after x) x.status) is) in
          behind_first (record x { status = recorded_status x.status }) (changes e es) (recorded es) (recorded (behind es)) others
          (subst (λ s. AreApartFrom (recorded_status s) (changes e es)) same apart.1) rest
          ∙ ap (λ s. Some (record x { status = recorded_status s } ∷ recorded (behind es))) (sym same)
        where
          unchanged : (b : Bool) → not b ≡ false → b ≡ true
          unchanged true e = refl
          unchanged false e = absurd cc

  -- the event says nothing of a release that it doesn't change
  unchanged_so : (x : Entry) → said_of e x ≡ None → is_changed e x ≡ false
  unchanged_so x none = go (is_same (after x) x.status) none
    where
      go : (b : Bool) → (if b then None else Some (recorded_status (after x))) ≡ None → not b ≡ false
      go true none = refl
      go false none = absurd cc

  changed_so : (x : Entry) (t : Status) → said_of e x ≡ Some t → (is_changed e x ≡ true) × (recorded_status (after x) ≡ t)
  changed_so x t says = go (is_same (after x) x.status) says
    where
      go : (b : Bool) → (if b then None else Some (recorded_status (after x))) ≡ Some t → (not b ≡ true) × (recorded_status (after x) ≡ t)
      go true says = absurd cc
      go false says = (refl, cc says)

  said_unchanged : (x : Entry) → is_changed e x ≡ false → said_of e x ≡ None
  said_unchanged x is = go (is_same (after x) x.status) is
    where
      go : (b : Bool) → not b ≡ false → (if b then None else Some (recorded_status (after x))) ≡ None
      go true is = refl
      go false is = absurd cc

  said_changed : (x : Entry) → is_changed e x ≡ true → said_of e x ≡ Some (recorded_status (after x))
  said_changed x is = go (is_same (after x) x.status) is
    where
      go : (b : Bool) → not b ≡ true → (if b then None else Some (recorded_status (after x))) ≡ Some (recorded_status (after x))
      go true is = absurd cc
      go false is = refl

  -- its record gives nothing to a version that isn't listed
  never_given : (v : List ℕ) (given : List Assignment) → AreOfOthers v given → status_given v given ≡ None
  never_given v [] others = refl
  never_given v (a ∷ given) others =
      ap (λ b. option_or (status_given v given) (if b then Some a.status else None)) others.0 ∙ or_none (status_given v given) ∙ never_given v given others.1

  never_leads : (v : List ℕ) (given : List Assignment) → AreOfOthers v given → leads v given ≡ false
  never_leads v [] others = refl
  never_leads v (a ∷ given) others = others.0

  -- The record of an event names releases in the order of the list.
  in_order_written : (es : Releases) → HasDistinctVersions es → are_in_order (recorded es) (changes e es) ≡ true
  in_order_written [] distinct = refl
  in_order_written (x ∷ es) distinct = go (is_changed e x) (in_order_written es distinct.1)
    where
      apart : AreOfOthers x.release.vsn (changes e es)
      apart = changes_others x.release.vsn es distinct.0

      go : (b : Bool) → are_in_order (recorded es) (changes e es) ≡ true
          → are_in_order (recorded (x ∷ es)) (map (assignment_of e) (cond b (x ∷ filter (is_changed e) es) (filter (is_changed e) es))) ≡ true
      go true rest =
          ap (λ b. are_in_order (recorded es) (if b then cond (not b) (assignment_of e x ∷ others x.release.vsn (changes e es)) (others x.release.vsn (changes e es)) else assignment_of e x ∷ changes e es)) (is_itself x.release.vsn)
          ∙ ap (are_in_order (recorded es)) (others_none x.release.vsn (changes e es) (never_given x.release.vsn (changes e es) apart))
          ∙ rest
      go false rest =
          ap (λ b. are_in_order (recorded es) (if b then others x.release.vsn (changes e es) else changes e es)) (never_leads x.release.vsn (changes e es) apart) ∙ rest

  -- The record of an event says of each release what the event does.
  said_written : (es : Releases) → HasDistinctVersions es → said (changes e es) (recorded es) ≡ said_in e es
  said_written [] distinct = refl
  said_written (x ∷ es) distinct = go (is_changed e x) refl (said_written es distinct.1)
    where
      none : status_given x.release.vsn (changes e es) ≡ None
      none = never_given x.release.vsn (changes e es) (changes_others x.release.vsn es distinct.0)

      first : is_changed e x ≡ true → status_given x.release.vsn (assignment_of e x ∷ changes e es) ≡ said_of e x
      first is =
          ap (λ b. option_or (status_given x.release.vsn (changes e es)) (if b then Some (recorded_status (after x)) else None)) (is_itself x.release.vsn)
          ∙ ap (λ o. option_or o (Some (recorded_status (after x)))) none
          ∙ sym (said_changed x is)

      go : (b : Bool) → is_changed e x ≡ b → said (changes e es) (recorded es) ≡ said_in e es
          → said (map (assignment_of e) (cond b (x ∷ filter (is_changed e) es) (filter (is_changed e) es))) (recorded (x ∷ es)) ≡ said_in e (x ∷ es)
      go true is rest =
          let tail = other_said (assignment_of e x) (changes e es) (recorded es) (unlisted-with_statuses (λ vsn s. recorded_status s) x.release.vsn es distinct.0) ∙ rest in
          λ k. first is k ∷ tail k
      go false is rest = λ k. (none ∙ sym (said_unchanged x is)) k ∷ rest k

  -- A record that names no release twice, and says so of a list in its order, is that of the event.
  own_so : (es : Releases) (given : List Assignment) → HasDistinctVersions es → NamesEachOnce given → are_in_order (recorded es) given ≡ true → said_in e es ≡ said given (recorded es) → changes e es ≡ given
  own_so [] [] distinct once order says = refl
  own_so [] (a ∷ given) distinct once order says = absurd (true≢false (sym order))
  own_so (x ∷ es) given distinct once order says = go given once order first rest (λ left. own_so es left distinct.1)
    where
      -- so it is of the releases after this one
      Others : List Assignment → Type 0
      Others left = NamesEachOnce left → are_in_order (recorded es) left ≡ true → said_in e es ≡ said left (recorded es) → changes e es ≡ left

      first : said_of e x ≡ status_given x.release.vsn given
      first = cc says

      rest : said_in e es ≡ said given (recorded es)
      rest = cc says

      unlisted : status_of x.release.vsn (recorded es) ≡ None
      unlisted = unlisted-with_statuses (λ vsn s. recorded_status s) x.release.vsn es distinct.0

      -- this one isn't named
      unnamed : (given : List Assignment) → NamesEachOnce given → are_in_order (recorded es) given ≡ true → said_of e x ≡ status_given x.release.vsn given → said_in e es ≡ said given (recorded es) → Others given → changes e (x ∷ es) ≡ given
      unnamed given once order first rest others_so =
          ap (λ b. map (assignment_of e) (cond b (x ∷ filter (is_changed e) es) (filter (is_changed e) es))) (unchanged_so x (first ∙ unmentioned x.release.vsn (recorded es) given unlisted order))
          ∙ others_so once order rest

      -- it is named first, and once
      named : (a : Assignment) (given : List Assignment) → bytes_eq a.vsn x.release.vsn ≡ true → NamesEachOnce (a ∷ given) → are_in_order (recorded es) (others x.release.vsn (a ∷ given)) ≡ true
          → said_of e x ≡ status_given x.release.vsn (a ∷ given) → said_in e es ≡ said (a ∷ given) (recorded es) → Others given → changes e (x ∷ es) ≡ a ∷ given
      named a given is once order first rest others_so =
          let same = same_version a.vsn x.release.vsn is in
          let none : status_given x.release.vsn given ≡ None = ap (λ v. status_given v given) (sym same) ∙ once.0 in
          let says : said_of e x ≡ Some a.status =
          first ∙ ap (λ b. option_or (status_given x.release.vsn given) (if b then Some a.status else None)) is ∙ ap (λ o. option_or o (Some a.status)) none in
          let (changed, status) = changed_so x a.status says in
          let left : others x.release.vsn (a ∷ given) ≡ given =
          ap (λ b. cond (not b) (a ∷ others x.release.vsn given) (others x.release.vsn given)) is ∙ others_none x.release.vsn given none in
          let elsewhere : status_of a.vsn (recorded es) ≡ None = ap (λ v. status_of v (recorded es)) same ∙ unlisted in
          let tail = others_so once.1 (ap (are_in_order (recorded es)) (sym left) ∙ order) (rest ∙ other_said a given (recorded es) elsewhere) in
          ap (λ b. map (assignment_of e) (cond b (x ∷ filter (is_changed e) es) (filter (is_changed e) es))) changed
          ∙ (λ k. record { vsn = sym same k; status = status k } ∷ tail k)

      go : (given : List Assignment) → NamesEachOnce given → are_in_order (recorded (x ∷ es)) given ≡ true → said_of e x ≡ status_given x.release.vsn given → said_in e es ≡ said given (recorded es)
          → ((left : List Assignment) → Others left) → changes e (x ∷ es) ≡ given
      go [] once order first rest others_so = unnamed [] once order first rest (others_so [])
      go (a ∷ given) once order first rest others_so = by (bytes_eq a.vsn x.release.vsn) refl order
        where
          by : (b : Bool) → bytes_eq a.vsn x.release.vsn ≡ b → are_in_order (recorded es) (if b then others x.release.vsn (a ∷ given) else a ∷ given) ≡ true → changes e (x ∷ es) ≡ a ∷ given
          by true is order = named a given is once order first rest (others_so given)
          by false is order = unnamed (a ∷ given) once order first rest (others_so (a ∷ given))

  assigned_behind : (es : Releases) → HasDistinctVersions es → AreApart es → IsOfOneEvent e es → has_one_permanent (behind es) ≡ true → assigned (assigns (changes e es)) (recorded es) ≡ Some (recorded (behind es))
  assigned_behind es distinct apart does one =
      ap with_one_permanent (set_where (changes e es) (recorded es) (recorded (behind es)) (changes_so es distinct apart) (ap (are_of_one_event (statuses_of (recorded es))) (said_written es distinct) ∙ does) (in_order_written es distinct)) ∙ kept (recorded (behind es)) (one-recorded (behind es) ∙ one)

  -- Where no release that changes becomes a one-shot, they are apart.
  module _ (never : (x : Entry) → is_changed e x ≡ true → is_one_shot (after x) ≡ false) where
    none_assigned : (s : Status) (es : Releases) → AreApartFrom s (changes e es)
    none_assigned s [] = tt
    none_assigned s (x ∷ es) = go (is_changed e x) refl (none_assigned s es)
      where
        go : (b : Bool) → is_changed e x ≡ b → AreApartFrom s (changes e es) → AreApartFrom s (map (assignment_of e) (cond b (x ∷ filter (is_changed e) es) (filter (is_changed e) es)))
        go true is rest = (rw (one_shot-recorded (after x), never x is) refl, rest)
        go false is rest = rest

    none_becomes_one : (es : Releases) → AreApart es
    none_becomes_one [] = tt
    none_becomes_one (x ∷ es) = (λ changed is. absurd (true≢false (sym is ∙ never x changed)), none_assigned (recorded_status (after x)) es, none_becomes_one es)

-- a release that changes is no one-shot after one that was made permanent
never-permanent : (b : Bool) (s : Status) → not (is_same (permanent_status b s) s) ≡ true → is_one_shot (permanent_status b s) ≡ false
never-permanent true s changed = refl
never-permanent false Unpacked changed = refl
never-permanent false Current changed = refl
never-permanent false Old changed = refl
never-permanent false Permanent changed = refl
never-permanent false OneShot changed = absurd cc

-- After a restart of a list without a one-shot
module _ (v : List ℕ) where
  -- nothing is current or a one-shot as records report it
  none_temporary : (w : List ℕ) (es : Releases) → has_one_shot es ≡ false → has_other_temporary w (recorded es) ≡ false
  none_temporary w [] none = refl
  none_temporary w (x ∷ es) none =
      let apart = first_is_none x es none in
      rw (calm x.status apart.0, and_false (not (bytes_eq w x.release.vsn))) (none_temporary w es apart.1)
    where
      calm : (s : Status) → is_one_shot s ≡ false → is_temporary (recorded_status s) ≡ false
      calm Unpacked none = refl
      calm Current none = refl
      calm Old none = refl
      calm Permanent none = refl
      calm OneShot none = absurd cc

  -- another release becomes none
  replaced_so : (s : Status) → is_temporary (recorded_status (restarted_status false s)) ≡ false
  replaced_so Unpacked = refl
  replaced_so Current = refl
  replaced_so Old = refl
  replaced_so Permanent = refl
  replaced_so OneShot = refl

  -- after the release of this version none becomes one
  behind_its_own : (s : Status) (es : Releases) → status_of v es ≡ None → AreApartFrom s (changes (restart_installed v) es)
  behind_its_own s [] none = tt
  behind_its_own s (x ∷ es) none = go (is_changed (restart_installed v) x) (behind_its_own s es (none_behind v x es none))
    where
      never : is_one_shot (recorded_status (after (restart_installed v) x)) ≡ false
      never = rw (first_differs v x es none) (not_temporary _ (replaced_so x.status))

      go : (b : Bool) → AreApartFrom s (changes (restart_installed v) es)
          → AreApartFrom s (map (assignment_of (restart_installed v)) (cond b (x ∷ filter (is_changed (restart_installed v)) es) (filter (is_changed (restart_installed v)) es)))
      go true rest = (rw never refl, rest)
      go false rest = rest

  restarts_apart : (es : Releases) → HasDistinctVersions es → has_one_shot es ≡ false → AreApart (restart_installed v) es
  restarts_apart [] distinct none = tt
  restarts_apart (x ∷ es) distinct none =
      let apart = first_is_none x es none in
      (λ changed is. none_temporary x.release.vsn es apart.1, rest (bytes_eq v x.release.vsn) refl, restarts_apart es distinct.1 apart.1)
    where
      rest : (b : Bool) → bytes_eq v x.release.vsn ≡ b → AreApartFrom (recorded_status (after (restart_installed v) x)) (changes (restart_installed v) es)
      rest true is = behind_its_own (recorded_status (after (restart_installed v) x)) es (ap (λ w. status_of w es) (same_version v x.release.vsn is) ∙ distinct.0)
      rest false is = beside_none _ (changes (restart_installed v) es) (rw is (replaced_so x.status))

-- Releases that come in

-- a record brings the release with the libraries that its new ones complete
pub brought_whole : (es : Releases) (p : Bundle) (ls : List Library) → completed es p.release.apps ls ≡ Some p.libraries → IsComplete p → brought_by es p.release ls p.relup ≡ Some p
brought_whole es p ls found complete =
    ap (option_and_then (λ (ks : List Library). if_faultless (record p { libraries = ks }))) found
    ∙ (λ j. if is_some (complete.faultless j) || is_some (complete.matching j) then None else Some p)

-- nothing bars a release that came in
pub unbarred : (p : Bundle) (es next : Releases) → step (unpacked p) es ≡ Some next → (is_some (status_of p.release.vsn es) ≡ false) × (first_different es p.libraries ≡ None)
unbarred p es next is = by (is_some (status_of p.release.vsn es)) (first_different es p.libraries) refl refl (own_of_step (unpacked p) es next is).1
  where
    by : (listed : Bool) (o : Option Library) → is_some (status_of p.release.vsn es) ≡ listed → first_different es p.libraries ≡ o
        → (if listed || is_some o then None else Some (es ++ entry p Unpacked ∷ [])) ≡ Some next → (is_some (status_of p.release.vsn es) ≡ false) × (first_different es p.libraries ≡ None)
    by false None fresh agree e = (fresh, agree)
    by false (Some l) fresh agree e = absurd cc
    by true o fresh agree e = absurd cc

pub comes_in : (p : Bundle) (es next : Releases) → HaveLibraries es → IsWithinLimits (unpacked p) es → step (unpacked p) es ≡ Some next
    → taken_by (adds p.release (new_libraries es p.libraries) p.relup) (recorded es) ≡ Some (recorded next)
comes_in p es next have fits is =
    let (fresh, agree) = unbarred p es next is in
    let complete = fits.2 in
    let brought : brought_by (recorded es) p.release (new_libraries es p.libraries) p.relup ≡ Some p =
    brought_whole (recorded es) p (new_libraries es p.libraries) (completed_new es have p.release.apps p.libraries complete.libraries agree) complete in
    let enters : is_barred p (recorded es) ≡ false =
    (λ k. (listed-with_statuses (λ vsn s. recorded_status s) p.release.vsn es ∙ fresh) k || is_some ((first_different-recorded es p.libraries ∙ agree) k)) in
    ap (λ b. if b && nat_lt (length (recorded es)) most_releases then arrives (brought_by (recorded es) p.release (new_libraries es p.libraries) p.relup) else None) fits.0
    ∙ ap (λ b. if b then arrives (brought_by (recorded es) p.release (new_libraries es p.libraries) p.relup) else None) short
    ∙ ap arrives brought
    ∙ ap (λ b. if b then None else (if is_barred p (recorded es) then None else Some (recorded es ++ entry p Unpacked ∷ []))) (none_recorded es (own_of_step (unpacked p) es next is).0)
    ∙ ap (λ b. if b then None else Some (recorded es ++ entry p Unpacked ∷ [])) enters
    ∙ ap (λ l. Some l) (sym (recorded-push es (entry p Unpacked)) ∙ ap recorded (pushed_last p es next is))
  where
    arrives : Option Bundle → Option Releases
    arrives o = option_and_then (λ (q : Bundle). step (unpacked q) (recorded es)) o

    short : nat_lt (length (recorded es)) most_releases ≡ true
    short = let few = fits.1 in grind (arith, nat_tests, length-recorded es)

-- a node's first release
comes_first : (p : Bundle) (next : Releases) → IsWithinLimits (made p) [] → step (made p) [] ≡ Some next → assigned (makes p.release p.libraries p.relup) [] ≡ Some (recorded next)
comes_first p next fits is =
    let same : entry p Permanent ∷ [] ≡ next = cc is in
    let complete = fits.1 in
    let brought : brought_by [] p.release p.libraries p.relup ≡ Some p = brought_whole [] p p.libraries (completed_first p.release.apps p.libraries complete.libraries) complete in
    ap (λ b. with_one_permanent (if b then arrives (brought_by [] p.release p.libraries p.relup) else None)) fits.0
    ∙ ap (λ o. with_one_permanent (arrives o)) brought
    ∙ ap (λ l. Some (recorded l)) same
  where
    arrives : Option Bundle → Option Releases
    arrives o = option_and_then (λ (q : Bundle). step (made q) []) o

-- a release that leaves
leaves : (v : List ℕ) (es next : Releases) → step (removed v) es ≡ Some next → step (removed v) (recorded es) ≡ Some (recorded next)
leaves v es next is =
    let own = own_of_step (removed v) es next is in
    let (may, left) = passed (may_be_removed (status_of v es)) (Some (without v es)) next own.1 in
    let same : without v es ≡ next = cc left in
    step_of_own (removed v) (recorded es) (recorded next) (none_recorded es own.0)
    (ap (λ b. if b then Some (without v (recorded es)) else None) (ap may_be_removed (status_of-recorded v es) ∙ still (status_of v es) may)
    ∙ ap (λ l. Some l) (sym (recorded-without v es) ∙ ap recorded same))
  where
    still : (o : Option Status) → may_be_removed o ≡ true → may_be_removed (option_map recorded_status o) ≡ true
    still None e = e
    still (Some Unpacked) e = e
    still (Some Current) e = refl
    still (Some Old) e = e
    still (Some Permanent) e = e
    still (Some OneShot) e = e

-- what changes the statuses of listed releases, or takes one out
change_reports : (e : Event) (es next : Releases) → IsOfListed e → IsOrderly es → step e es ≡ Some next → has_one_permanent next ≡ true → assigned (record_of e es) (recorded es) ≡ Some (recorded next)
change_reports (made p) es next listed orderly is one = absurd listed
change_reports (unpacked p) es next listed orderly is one = absurd listed
change_reports (removed v) es next listed orderly is one = ap with_one_permanent (leaves v es next is) ∙ kept (recorded next) (one-recorded next ∙ one)
change_reports boot es next listed orderly is one =
    let same : booted es ≡ next = cc is in
    subst (λ l. assigned (assigns (changes boot es)) (recorded es) ≡ Some (recorded l)) same
    (assigned_behind boot es orderly.distinct (none_becomes_one boot (λ x changed. no_one_shot-booted x.status) es) (behind_boot es orderly) (ap has_one_permanent same ∙ one))
change_reports (installed v) es next listed orderly is one =
    let own = own_of_step (installed v) es next is in
    let (may, there) = passed (may_be_installed (has_current es) (status_of v es)) (Some (list_installed v es)) next own.1 in
    let same : list_installed v es ≡ next = cc there in
    subst (λ l. assigned (assigns (changes (installed v) es)) (recorded es) ≡ Some (recorded l)) same
    (assigned_behind (installed v) es orderly.distinct (none_becomes_one (installed v) (λ x changed. none-installed (bytes_eq v x.release.vsn) x.status) es) (behind_installation v es orderly own.0) (ap has_one_permanent same ∙ one))
change_reports (restart_installed v) es next listed orderly is one =
    let own = own_of_step (restart_installed v) es next is in
    let (may, there) = passed (may_be_installed (has_current es) (status_of v es)) (Some (list_restarted v es)) next own.1 in
    let same : list_restarted v es ≡ next = cc there in
    subst (λ l. assigned (assigns (changes (restart_installed v) es)) (recorded es) ≡ Some (recorded l)) same
    (assigned_behind (restart_installed v) es orderly.distinct (restarts_apart v es orderly.distinct own.0) (behind_restart v es orderly own.0) (ap has_one_permanent same ∙ one))
change_reports (made_permanent v) es next listed orderly is one =
    let own = own_of_step (made_permanent v) es next is in
    let (may, there) = passed (may_be_made_permanent (status_of v es)) (Some (list_made_permanent v es)) next own.1 in
    let same : list_made_permanent v es ≡ next = cc there in
    subst (λ l. assigned (assigns (changes (made_permanent v) es)) (recorded es) ≡ Some (recorded l)) same
    (assigned_behind (made_permanent v) es orderly.distinct (none_becomes_one (made_permanent v) (λ x changed. never-permanent (bytes_eq v x.release.vsn) x.status changed) es) (behind_promotion v es orderly.distinct own.0 may) (ap has_one_permanent same ∙ one))
change_reports (reboot_old v) es next listed orderly is one =
    let own = own_of_step (reboot_old v) es next is in
    let (may, there) = passed (may_be_rebooted (status_of v es)) (Some (list_made_permanent v es)) next own.1 in
    let same : list_made_permanent v es ≡ next = cc there in
    subst (λ l. assigned (assigns (changes (reboot_old v) es)) (recorded es) ≡ Some (recorded l)) same
    (assigned_behind (reboot_old v) es orderly.distinct (none_becomes_one (reboot_old v) (λ x changed. never-permanent (bytes_eq v x.release.vsn) x.status changed) es) (behind_reboot v es orderly.distinct own.0 may) (ap has_one_permanent same ∙ one))

pub reports : RecordsDetermineEvents
reports (made p) [] next orderly have is fits one = comes_first p next fits is
reports (made p) (x ∷ es) next orderly have is fits one = absurd (never_made_again p x es next is)
reports (unpacked p) es next orderly have is fits one = ap with_one_permanent (comes_in p es next have fits is) ∙ kept (recorded next) (one-recorded next ∙ one)
reports (installed v) es next orderly have is fits one = change_reports (installed v) es next tt orderly is one
reports (restart_installed v) es next orderly have is fits one = change_reports (restart_installed v) es next tt orderly is one
reports (made_permanent v) es next orderly have is fits one = change_reports (made_permanent v) es next tt orderly is one
reports (removed v) es next orderly have is fits one = change_reports (removed v) es next tt orderly is one
reports (reboot_old v) es next orderly have is fits one = change_reports (reboot_old v) es next tt orderly is one
reports boot es next orderly have is fits one = change_reports boot es next tt orderly is one

-- a list keeps its one permanent release
one_behind_step : (e : Event) (es next : Releases) → HasDistinctVersions es → step e es ≡ Some next → has_one_permanent es ≡ true → has_one_permanent next ≡ true
one_behind_step e es next distinct is one = ap (λ n. n == 1) (one_permanent-step e es next distinct (is_one (length (of_status is_permanent es)) one) is)
  where
    is_one : (n : ℕ) → (n == 1) ≡ true → n ≡ 1
    is_one n e = grind (arith, nat_tests)

pub reported_by_record : (e : Event) (es : Releases) → IsOrderly es → IsOfListed e → Reports e es
reported_by_record e es orderly listed next is one = change_reports e es next listed orderly is (one_behind_step e es next orderly.distinct is one)

-- a further release that isn't permanent leaves one permanent
pub one-push : (es : Releases) (x : Entry) → is_permanent x.status ≡ false → of_status is_permanent (es ++ x ∷ []) ≡ of_status is_permanent es
one-push [] x not_it = ap (λ b. cond b (x ∷ []) []) not_it
one-push (e ∷ es) x not_it = ap (λ l. cond (is_permanent e.status) (e ∷ l) l) (one-push es x not_it)

pub unpacked_reports : (p : Bundle) (es : Releases) → HaveLibraries es → IsWithinLimits (unpacked p) es → Reports (unpacked p) es
unpacked_reports p es have fits next is one = ap with_one_permanent (comes_in p es next have fits is) ∙ kept (recorded next) (one-recorded next ∙ behind)
  where
    behind : has_one_permanent next ≡ true
    behind = ap has_one_permanent (sym (pushed_last p es next is)) ∙ ap (λ l. length l == 1) (one-push es (entry p Unpacked) refl) ∙ one

pub below : (n : ℕ) → nat_lt n most_releases ≡ true → n < most_releases
below n e = grind (arith, nat_tests)

-- a node's first release brings all its libraries
all_brought : (p : Bundle) (es next : Releases) → step (made p) es ≡ Some next → new_libraries es p.libraries ≡ p.libraries
all_brought p [] next is = all_new p.libraries
all_brought p (f ∷ fs) next is = absurd (never_made_again p f fs next is)

-- A record of a release that comes in or leaves is that of an event.
of_event : (v : Value) (r : Record) (es next : Releases) → HaveLibraries es → Says v r → IsOfOneRelease r → taken_by r es ≡ Some next → IsOfEvent es next r
of_event v (makes r ls o) es next have says one taken =
    let (p, of, is) = event_of_record made (is_small r) r ls o es next taken in
    let done = are_completed es have r.apps ls p.libraries (are_libraries says.libs ls says.libraries) of.libraries in
    record {
      event = made p;
      leads = is;
      fits = (ap is_small (sym of.release) ∙ (passed (is_small r) (option_and_then (λ (q : Bundle). step (made q) es) (brought_by es r ls o)) next taken).0, brought_complete es r ls o p of done);
      own = λ k. makes (sym of.release k) ((sym (all_brought p es next is) ∙ done.new) k) (sym of.relup k);
    }
of_event v (adds r ls o) es next have says one taken =
    let (p, of, is) = event_of_record unpacked (is_small r && nat_lt (length es) most_releases) r ls o es next taken in
    let done = are_completed es have r.apps ls p.libraries (are_libraries says.libs ls says.libraries) of.libraries in
    let (small, few) = both (is_small r) (nat_lt (length es) most_releases)
    (passed (is_small r && nat_lt (length es) most_releases) (option_and_then (λ (q : Bundle). step (unpacked q) es) (brought_by es r ls o)) next taken).0 in
    record {
      event = unpacked p;
      leads = is;
      fits = (ap is_small (sym of.release) ∙ small, below (length es) few, brought_complete es r ls o p of done);
      own = λ k. adds (sym of.release k) (done.new k) (sym of.relup k);
    }
of_event v (removes w) es next have says one taken = record { event = removed w; leads = taken; fits = tt; own = refl }
of_event v (assigns given) es next have says one taken = absurd one
of_event v (images xs ls) es next have says one taken = absurd one

pub are_of_events : RecordsAreOfEvents
are_of_events body r es next have spelled one taken = of_event spelled.term r es next have spelled.says one (assigned_so r es next taken).0

-- the record of an event that brings no release, and takes none out
record_kept : (e : Event) (es : Releases) → KeepsReleases e → record_of e es ≡ assigns (changes e es)
record_kept (made p) es keeps = absurd keeps
record_kept (unpacked p) es keeps = absurd keeps
record_kept (removed v) es keeps = absurd keeps
record_kept (installed v) es keeps = refl
record_kept (restart_installed v) es keeps = refl
record_kept (made_permanent v) es keeps = refl
record_kept (reboot_old v) es keeps = refl
record_kept boot es keeps = refl

-- What a record of statuses says of a list one event says of a node.
pub statuses_are_of_events : StatusesAreOfEvents
statuses_are_of_events given es next so taken =
    let (set, one) = assigned_so (assigns given) es next taken in
    let (assigned, does, order) = set_so given es next set in
    let same = assigned_as_said given es next assigned in
    by assigned order same (such_statuses_are_of_one_event es (λ v. status_given v given) so (ap (λ l. length (of_status is_permanent l)) same ∙ eqb-true (length (of_status is_permanent next)) 1 one) does)
  where
    by : assign_all given es ≡ Some next → are_in_order es given ≡ true → with_said (λ v. status_given v given) es ≡ next
        → IsSilent (λ v. status_given v given) es ⊎ IsOfNode es (with_said (λ v. status_given v given) es) (said given es) → ((given ≡ []) × (next ≡ es)) ⊎ IsOfStatuses es next given
    by assigned order same (inl silent) =
        let none = silent_empty es given order silent in
        let kept : Some es ≡ Some next = ap (λ l. assign_all l es) (sym none) ∙ assigned in
        inl (none, cc kept)
    by assigned order same (inr of) =
        inr (subst (λ l. IsOfStatuses es l given) same (record {
          of = of;
          own = λ once.
              record_kept of.event of.node of.keeps
              ∙ ap assigns (own_so of.event of.node given of.orderly.distinct once (ap (λ l. are_in_order l given) of.reported ∙ order) (of.says ∙ ap (said given) (sym of.reported)));
        }))
