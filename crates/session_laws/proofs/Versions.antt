-- The versions that a session reports are those of files that were read, so that no answer has a newline within.
use Rattle.std.proofs.Common.{◌≡◌, inl, inr, ℕ, Bool, true, false, List, [], ◌∷◌, ◌++◌, codes, find, Option, Some, None, Result, Ok, Err, refl, sym, ap, ◌∙◌, subst}
use Rattle.std.specs.Prelude.{if◌then◌else◌, bytes_eq}
use Rattle.std.specs.Option.{option_and_then, option_map, option_or}
use Rattle.erl_term.proofs.Lines.{append_line}
use Rattle.erl_term.specs.Lines.{is_one_line}
use Rattle.rel_unpack.proofs.LineOutcomes.{version_line}
use Rattle.rel_files.specs.Release.{Release}
use Rattle.rel_list.specs.Releases.{Bundle, bundle_in, libraries_at}
use Rattle.rel_list.specs.Releases.{Releases, Entry, status_of, has_current, permanent, current, running as running_release}
use Rattle.rel_list.specs.Status.{is_current, is_permanent}
use Rattle.rel_list.specs.Event.{Event, is_barred, may_be_installed, may_be_made_permanent, may_be_removed, may_be_rebooted, booted_status, with_statuses, list_installed, list_restarted, list_made_permanent, without, own_step, step, list_after, booted, recorded, entry}
use Rattle.rel_list.specs.declared.status.Status.{Status}
use Rattle.rel_list.specs.declared.status.Status.TheVariants.{Unpacked, Permanent}
use Rattle.rel_list.specs.Event.Event.{made, unpacked, installed, restart_installed, made_permanent, removed, reboot_old, boot as booting}
use Rattle.rel_list.proofs.OwnRules.{own_of_step}
use Rattle.rel_records.specs.Lists.{HaveVersions}
use Rattle.rel_records.specs.Startable.{AreStartable}
use Rattle.rel_records.proofs.CompletionLemmas.{of_applications}
use Rattle.rel_records.proofs.StartableLemmas.{make_startable, startable-of_recorded}
use Rattle.node_command.specs.Files.{bundle_brought, made_size}
use Rattle.node_command.specs.Place.{own_refusal}
use Rattle.node_command.proofs.CommandLemmas.{IsListRefusal, IsListAnswer, of_command}
use Rattle.rel_store.specs.Layout.{format_of}
use Rattle.node_store.proofs.Commits.{have_versions}
use Rattle.rel_handler.proofs.RepairLemmas.{permanent_versions}
use Rattle.node_command.specs.declared.error.HandlerError.{HandlerError}
use Rattle.node_command.specs.declared.error.HandlerError.TheVariants as handler_error
use Rattle.node_store.specs.Events.{Events, StoreState, MayHoldEvents, store_without_doubt, store_with_doubt, store_with_boot_in_doubt}
use Rattle.node_store.specs.Image.{Extent, extent_after, first_extent, holds_a_store, IsImageOf}
use Rattle.node_processes.specs.Processes.{Processes}
use Rattle.node_command.specs.Taking.{commanded}
use Rattle.session_input.specs.Commands.{Command}
use Rattle.rel_unpack.specs.Refusal.{Refusal}
use Rattle.rel_unpack.specs.Unpacking.{Brought}
use Rattle.rel_unpack.specs.Source.{Source}
use Rattle.rel_session.specs.Node.{DiskState, Reply, no_outcome, refusal_reply, failure_reply, releases_after, list_or_none}
use Rattle.rel_session.specs.Node.DiskState.{unknown_bytes, not_booted, running, dead}
use Rattle.node_answer.specs.Refusals.{refusal_of, refusal_for, refusal_line}
use Rattle.node_answer.specs.Refusals.NodeRefusal.{device, bad_status, script_refused, must_reboot, dead as no_node}
use Rattle.rel_handler.specs.declared.error.BootError.TheVariants as boot_error
use Rattle.rel_session.specs.Booting.{lack_error}
use Rattle.rel_session.specs.Run.{events_of}
use Rattle.session_laws.specs.AnswerLaws.{HasLinePath, IsFromFiles, AreFromFiles, HasVersionsAt, HasModuleVersionsAt, have_restart}
use Rattle.session_laws.proofs.MemoryLines.{report_whole}
use Rattle.rel_session.specs.Transition
use Rattle.rel_session.specs.Transition.Action.{answers, makes_node, changes_node, installs, reboots_node, boots_node, reports_start, calls}
use Rattle.session_laws.proofs.ActionLemmas.{OfEvent, ReportsFilesLine, IsGoodAction, good_action}
use Rattle.rel_session.proofs.ListLemmas.{list_after-more, list_after-push}
use Rattle.session_laws.proofs.ProcessLines.{calls_whole}
use Rattle.session_laws.proofs.Transitions.{may_have}
use Rattle.session_laws.proofs.AnswerLines.{IsWhole, ok_whole, done_whole, installed_whole, listed_whole, refusal_whole, boot_line_whole}
use Rattle.node_processes.specs.Scripts.{behind_run}
use Rattle.node_upgrade.specs.Stale.{stale_modules}
use Rattle.relup_file.specs.Search.{FoundForm}
use Rattle.rel_handler.specs.Installing.{install_size, installation_event}
use Rattle.node_answer.specs.Lines.{installed_line}
use Rattle.rel_session.specs.Installation.{store_after_restart, restarted_reply}
use Rattle.session_laws.proofs.InstallLines.{InstallLines, restart_first}
use Rattle.session_laws.proofs.InstallLines.InstallLines.{one_line, two_lines, doubt_line}
use Rattle.session_laws.proofs.InstallationLemmas.{each_reply}

more_versions : (es : Releases) (e : Entry) → AreFromFiles es → IsFromFiles (bundle_in e) → AreFromFiles (es ++ e ∷ [])
more_versions [] e all one = (one, tt)
more_versions (f ∷ es) e all one = (all.0, more_versions es e all.1 one)

restated_versions : (f : List ℕ → Status → Status) (es : Releases) → AreFromFiles es → AreFromFiles (with_statuses f es)
restated_versions f [] all = tt
restated_versions f (e ∷ es) all = (all.0, restated_versions f es all.1)

booted_versions : (es : Releases) → AreFromFiles es → AreFromFiles (booted es)
booted_versions es all = restated_versions (λ vsn s. booted_status s) es all

fewer_versions : (v : List ℕ) (es : Releases) → AreFromFiles es → AreFromFiles (without v es)
fewer_versions v [] all = tt
fewer_versions v (e ∷ es) all = go (bytes_eq v e.release.vsn) (fewer_versions v es all.1)
  where
    go : (b : Bool) → AreFromFiles (without v es) → AreFromFiles (if b then es else e ∷ without v es)
    go true rest = all.1
    go false rest = (all.0, rest)

-- the list that an event makes, where it is allowed
where_allowed : (b : Bool) (next end : Releases) → AreFromFiles next → (if b then Some next else None) ≡ Some end → AreFromFiles end
where_allowed true next end all is = let same : next ≡ end = cc in subst AreFromFiles same all
where_allowed false next end all is = absurd cc

own_versions : (e : Event) (es end : Releases) → OfEvent e → AreFromFiles es → own_step e es ≡ Some end → AreFromFiles end
own_versions (made p) [] end of all is = let same : entry p Permanent ∷ [] ≡ end = cc in subst AreFromFiles same (of, tt)
own_versions (made p) (f ∷ es) end of all is = absurd cc
own_versions (unpacked p) es end of all is = go (is_barred p es) is
  where
    go : (b : Bool) → (if b then None else Some (es ++ entry p Unpacked ∷ [])) ≡ Some end → AreFromFiles end
    go true is = absurd cc
    go false is = let same : es ++ entry p Unpacked ∷ [] ≡ end = cc in subst AreFromFiles same (more_versions es (entry p Unpacked) all of)
own_versions (installed v) es end of all is =
    where_allowed (may_be_installed (has_current es) (status_of v es)) (list_installed v es) end (restated_versions _ es all) is
own_versions (restart_installed v) es end of all is =
    where_allowed (may_be_installed (has_current es) (status_of v es)) (list_restarted v es) end (restated_versions _ es all) is
own_versions (made_permanent v) es end of all is =
    where_allowed (may_be_made_permanent (status_of v es)) (list_made_permanent v es) end (restated_versions _ es all) is
own_versions (removed v) es end of all is = where_allowed (may_be_removed (status_of v es)) (without v es) end (fewer_versions v es all) is
own_versions (reboot_old v) es end of all is =
    where_allowed (may_be_rebooted (status_of v es)) (list_made_permanent v es) end (restated_versions _ es all) is
own_versions booting es end of all is = let same : booted es ≡ end = cc in subst AreFromFiles same (booted_versions es all)

step_versions : (e : Event) (es end : Releases) → OfEvent e → AreFromFiles es → step e es ≡ Some end → AreFromFiles end
step_versions e es end of all is = own_versions e es end of all (own_of_step e es end is).1

-- The releases of the list of these events are from files.
abbrev pub OfList : Events → Type 0
OfList events = (list : Releases) → list_after events ≡ Some list → AreFromFiles list

pub list_versions : (events : Events) (e : Event) → OfEvent e → OfList events → OfList (events ++ e ∷ [])
list_versions events e of all list is = go (list_after events) refl (sym (list_after-more events e) ∙ is)
  where
    go : (o : Option Releases) → list_after events ≡ o → option_and_then (step e) o ≡ Some list → AreFromFiles list
    go None after is = absurd cc
    go (Some es) after is = step_versions e es list of (all es after) is

-- The releases of the list of events that a store holds are from files, where those of each list that it may have are.
pub stored_versions : (s : StoreState) → HasVersionsAt (not_booted s) → (events : Events) (extent : Extent) → MayHoldEvents s events extent → OfList events
stored_versions s all events extent has list is = all events list (may_have s events extent has) is

-- the version of the release that runs
found_version : (t : Entry → Bool) (es : Releases) → AreFromFiles es → is_one_line (Transition.version_of (option_map (λ (e : Entry). e.release) (find t es))) ≡ true
found_version t [] all = refl
found_version t (e ∷ es) all = go (t e) (found_version t es all.1)
  where
    go : (b : Bool) → is_one_line (Transition.version_of (option_map (λ (e : Entry). e.release) (find t es))) ≡ true
        → is_one_line (Transition.version_of (option_map (λ (e : Entry). e.release) (if b then Some e else find t es))) ≡ true
    go true rest = version_line e.release.vsn all.0.0.own
    go false rest = rest

running_version : (es : Releases) → AreFromFiles es → is_one_line (Transition.version_of (running_release es)) ≡ true
running_version es all = go (current es) (permanent es) (found_version (λ e. is_current e.status) es all) (found_version (λ e. is_permanent e.status) es all)
  where
    go : (a b : Option Release) → is_one_line (Transition.version_of a) ≡ true → is_one_line (Transition.version_of b) ≡ true → is_one_line (Transition.version_of (option_or a b)) ≡ true
    go None b p q = q
    go (Some r) b p q = p

-- A reply is whole, and the versions at its place are those of files.
abbrev pub IsGood : Reply → Type 0
IsGood a = IsWhole a.answer × HasVersionsAt a.after

good_as : (a b : Reply) → a ≡ b → IsGood b → IsGood a
good_as a b is good = subst IsGood (sym is) good

handler_line : (e : HandlerError) → IsListRefusal e → IsWhole (refusal_line (refusal_of e))
handler_line handler_error.NoSuchRelease of behind = refl
handler_line handler_error.ExistingRelease of behind = refl
handler_line handler_error.AlreadyInstalled of behind = refl
handler_line (handler_error.BadStatus s) of behind = refusal_whole (bad_status s) tt behind
handler_line handler_error.Permanent of behind = refl
handler_line handler_error.Running of behind = refl
handler_line handler_error.TooMany of behind = refl
handler_line handler_error.NoMemory of behind = refl
handler_line (handler_error.LibDiffers app) of behind = absurd of
handler_line (handler_error.NoTable app) of behind = absurd of
handler_line (handler_error.BadFile path trouble) of behind = absurd of
handler_line (handler_error.MissingFile path) of behind = absurd of
handler_line (handler_error.VsnMismatch path) of behind = absurd of
handler_line handler_error.NoMatchingRelup of behind = absurd of
handler_line handler_error.Device of behind = absurd of
handler_line handler_error.Full of behind = absurd of
handler_line handler_error.Dead of behind = absurd of
handler_line handler_error.Exists of behind = absurd of

device_line : IsWhole (refusal_line device)
device_line behind = refl

-- with this event or without
uncertain_versions : (events : Events) (extent : Extent) (e : Event) (size : ℕ) → OfEvent e → OfList events → HasVersionsAt (dead (store_with_doubt events extent e size))
uncertain_versions events extent e size of all es l (inl same) after = all l (ap list_after (sym same) ∙ after)
uncertain_versions events extent e size of all es l (inr same) after = list_versions events e of all l (ap list_after (sym same) ∙ after)

commits : (events : Events) (extent : Extent) (ps : Processes) (e : Event) (size : ℕ) (o : Result Releases HandlerError) (P : Extent → Reply → Type 0) → IsListAnswer o → ((next : Releases) (x : Extent) (a : Reply) → o ≡ Ok next → P x a → IsGood a)
    → ((next : Releases) → o ≡ Ok next → OfEvent e) → OfList events → (a : Reply) → Transition.IsCommit events extent ps e size o P a → IsGood a
commits events extent ps e size (Err why) P plain done of all a is = good_as a _ is (handler_line why plain, all)
commits events extent ps e size (Ok next) P plain done of all a (inl (fits, inl (x, reach, is))) = done next x a refl is
commits events extent ps e size (Ok next) P plain done of all a (inl (fits, inr is)) = good_as a _ is (device_line, uncertain_versions events extent e size (of next refl) all)
commits events extent ps e size (Ok next) P plain done of all a (inr (over_it, is)) = good_as a _ is ((λ behind. refl), all)

changes : (events : Events) (extent : Extent) (ps : Processes) (c : Transition.ListChange) (list : Releases) (f : Option Refusal) (o : Result Releases HandlerError) → IsListAnswer o → ((next : Releases) → f ≡ None → o ≡ Ok next → OfEvent c.event) → ReportsFilesLine f
    → is_one_line (c.details list) ≡ true → OfList events → (a : Reply) → Transition.RepliesToChange events extent ps c list f o a → IsGood a
changes events extent ps c list (Some why) o plain of reported line all a is = good_as a _ is (refusal_whole (refusal_for why) reported, all)
changes events extent ps c list None o plain of reported line all a is =
    commits events extent ps c.event (c.size list) o _ plain (λ next x a taken is. good_as a _ is (done_whole (c.details list) line, list_versions events c.event (of next refl taken) all))
    (λ next taken. of next refl taken) all a is

-- a store with nothing in doubt
pub certain_versions : (events : Events) (extent : Extent) → OfList events → HasVersionsAt (not_booted (store_without_doubt events extent))
certain_versions events extent all es l (inl same) after = all l (ap list_after (sym same) ∙ after)
certain_versions events extent all es l (inr same) after = all l (ap list_after (sym same) ∙ after)

-- the list of a node that was made and booted
made_versions : (p : Bundle) → IsFromFiles p → OfList (made p ∷ booting ∷ [])
made_versions p of = list_versions (made p ∷ []) booting tt (list_versions [] (made p) of (λ l e. let same : [] ≡ l = cc in subst AreFromFiles same tt))

makes_with : (x : List ℕ) (p : Bundle) (size : ℕ) (why : Option Refusal) → (why ≡ None → IsFromFiles p) → ReportsFilesLine why → (a : Reply) → Transition.MakesWith x p size why a → IsGood a
makes_with x p size (Some why) of reported a is = good_as a _ is (refusal_whole (refusal_for why) reported, tt)
makes_with x p size None of reported a (inl (fits, inl is)) = good_as a _ is (ok_whole p.release.vsn (version_line p.release.vsn (of refl).0.own), made_versions p (of refl))
makes_with x p size None of reported a (inl (fits, inr is)) =
    good_as a _ is (boot_line_whole boot_error.NoMemory, certain_versions (made p ∷ booting ∷ []) (extent_after first_extent size) (made_versions p (of refl)))
makes_with x p size None of reported a (inr (over_it, is)) = good_as a _ is ((λ behind. refl), tt)

makes_on : (x : List ℕ) (b : Brought) (there : Bool) → IsGoodAction (makes_node b) → (a : Reply) → Transition.MakesOn x b there a → IsGood a
makes_on x b true good a is = good_as a _ is ((λ behind. refl), tt)
makes_on x b false good a is = makes_with x (bundle_brought b) (made_size b) (own_refusal b) good.0 good.1 a is

makes_fails : (x : List ℕ) (p : Bundle) (why : Option Refusal) (a : Reply) → Transition.FailsToMake x p why a → IsGood a
makes_fails x p (Some why) a is = good_as a _ is ((λ behind. refl), tt)
makes_fails x p None a (torn, kept, is) = good_as a _ is ((λ behind. refl), tt)

makes : (p : DiskState) (found : Brought) → IsGoodAction (makes_node found) → HasVersionsAt p → (a : Reply) → Transition.MakesNode p found a → IsGood a
makes (unknown_bytes x) found good all a (inl is) = makes_on x found (holds_a_store x) good a is
makes (unknown_bytes x) found good all a (inr is) = makes_fails x (bundle_brought found) (own_refusal found) a is
makes (not_booted s) found good all a (inl is) = good_as a _ is ((λ behind. refl), all)
makes (not_booted s) found good all a (inr is) = good_as a _ is ((λ behind. refl), all)
makes (running events extent ps) found good all a is = good_as a _ is ((λ behind. refl), all)
makes (dead s) found good all a is = good_as a _ is ((λ behind. refl), all)

boots_to : (events : Events) (extent : Extent) → OfList events → (a : Reply) → Transition.AnswersBoot events extent a → IsGood a
boots_to events extent all a (list, after, is) =
    let behind = list_versions events booting tt all in
    let grown = list_after-push events booting list (booted list) after refl in
    good_as a _ is (ok_whole (Transition.version_of (running_release (booted list))) (running_version (booted list) (behind (booted list) grown)), behind)

-- a store whose boot is in doubt
uncertain_boot_versions : (ran events : Events) (extent : Extent) → OfList events → HasVersionsAt (not_booted (store_with_boot_in_doubt ran events extent))
uncertain_boot_versions ran events extent all es l (inl same) after = all l (ap list_after (sym same) ∙ after)
uncertain_boot_versions ran events extent all es l (inr same) after = list_versions events booting tt all l (ap list_after (sym same) ∙ after)

boots_store : (s : StoreState) → HasVersionsAt (not_booted s) → (a : Reply) → Transition.BootsStore s a → IsGood a
boots_store s all a (inl (events, extent, has, is)) = boots_to events extent (stored_versions s all events extent has) a is
boots_store s all a (inr (lack, inl is)) = good_as a _ is (boot_line_whole (lack_error lack), all)
boots_store s all a (inr (lack, inr (events, extent, has, is))) = good_as a _ is (boot_line_whole (lack_error lack), uncertain_boot_versions s.known.ran events extent (stored_versions s all events extent has))

reboots : (events : Events) (extent : Extent) (ps : Processes) (vsn : List ℕ) (list : Releases) (o : Result Releases HandlerError) → IsListAnswer o → OfList events → (a : Reply) → Transition.Reboots events extent ps vsn list o a → IsGood a
reboots events extent ps vsn list o plain all =
    let e = reboot_old vsn in
    commits events extent ps e _ o _ plain (λ next x a taken (b, boot, is).
    good_as a _ is (boots_store (Transition.store_after_reboot events x vsn) (certain_versions (events ++ e ∷ []) x (list_versions events e tt all)) b boot)) (λ next taken. tt) all

-- the list of an image
pub of_image : (image : List ℕ) (es : Releases) → IsImageOf image es → AreFromFiles es
of_image image es of = both es (have_versions (format_of image) of.bodies es of.list) (startable-of_recorded es (make_startable (format_of image) of.bodies (recorded es) of.list.makes))
  where
    both : (es : Releases) → HaveVersions es → AreStartable es → AreFromFiles es
    both [] versions start = tt
    both (e ∷ es) versions start = ((versions.0, of_applications e.release.apps e.libraries start.0.complete.libraries), both es versions.1 start.1)

boots : (p : DiskState) → HasVersionsAt p → (a : Reply) → Transition.Boots p a → IsGood a
boots (unknown_bytes x) all a (inl (events, list, extent, after, image, is)) =
    let versions = of_image x list image.image_of in
    boots_to events extent (λ l e. let same : list ≡ l = cc in subst AreFromFiles same versions) a is
boots (unknown_bytes x) all a (inr (inl (why, refusal, is))) = good_as a _ is (boot_line_whole why, tt)
boots (unknown_bytes x) all a (inr (inr (lack, torn, left, is))) = good_as a _ is (boot_line_whole (lack_error lack), tt)
boots (not_booted s) all a is = boots_store s all a is
boots (running events extent ps) all a is = boots_store (store_without_doubt events extent) (certain_versions events extent all) a is
boots (dead s) all a is = boots_store s all a is

versions_of : (es : Releases) → AreFromFiles es → HaveVersions es
versions_of [] all = tt
versions_of (e ∷ es) all = (all.0.0, versions_of es all.1)

-- the versions of the permanent release
start_plain : (es : Releases) → AreFromFiles es → is_one_line (Transition.start_versions (permanent es)) ≡ true
start_plain es all = go (permanent es) refl
  where
    go : (o : Option Release) → permanent es ≡ o → is_one_line (Transition.start_versions o) ≡ true
    go None e = refl
    go (Some r) e =
        let of = permanent_versions es r (versions_of es all) e in
        append_line r.erts (codes " " ++ r.vsn) (version_line r.erts of.erts) (append_line (codes " ") r.vsn refl (version_line r.vsn of.own))

-- each list of these events has versions
pub listed_versions : (events : Events) → OfList events → AreFromFiles (releases_after events)
listed_versions events all = go (list_after events) all
  where
    go : (o : Option Releases) → ((l : Releases) → o ≡ Some l → AreFromFiles l) → AreFromFiles (list_or_none o)
    go None each = tt
    go (Some l) each = each l refl

-- what an answer to an action is: an installation's may have two lines
abbrev pub LinesOf : Transition.Action → Reply → Type 0
LinesOf (installs vsn) a = InstallLines a
LinesOf does a = IsWhole a.answer

-- a reply to an installation
abbrev IsGoodInstall : Reply → Type 0
IsGoodInstall a = InstallLines a × HasVersionsAt a.after

not_installed : (p : DiskState) → HasVersionsAt p → (a : Reply) → a ≡ refusal_reply no_node p → IsGoodInstall a
not_installed p all a is = subst IsGoodInstall (sym is) (one_line (λ behind. refl) refl, all)

-- one whose event is in doubt
install_in_doubt : (events : Events) (extent : Extent) (vsn : List ℕ) (size : ℕ) (restarts : Bool) → OfList events
    → IsGoodInstall (failure_reply (Some (installation_event restarts vsn)) (dead (store_with_doubt events extent (installation_event restarts vsn) size)))
install_in_doubt events extent vsn size false all = (one_line device_line refl, uncertain_versions events extent (installed vsn) size tt all)
install_in_doubt events extent vsn size true all = (doubt_line refl refl, uncertain_versions events extent (restart_installed vsn) size tt all)

-- one with a restart
install_restarts : (events : Events) (extent : Extent) (vsn : List ℕ) (list : Releases) (f : FoundForm) (ps : Processes) (b : Reply) → OfList events → Transition.BootsStore (store_after_restart events extent vsn) b
    → IsGoodInstall (restarted_reply vsn list f ps b)
install_restarts events extent vsn list f ps b all boot =
    let e = restart_installed vsn in
    let stale = stale_modules ps.modules (libraries_at vsn list) in
    let (whole, versions) = boots_store (store_after_restart events extent vsn) (certain_versions (events ++ e ∷ []) extent (list_versions events e tt all)) b boot in
    (two_lines (installed_line f stale) b.answer (installed_whole f.other f.descr stale) whole (λ behind. refl) refl (restart_first vsn b.outcome.acknowledged b.outcome.in_doubt), versions)

acts : (p : DiskState) (does : Transition.Action) → IsGoodAction does → HasVersionsAt p → (a : Reply) → Transition.NodeReplies p does a → LinesOf does a × HasVersionsAt a.after
acts p (answers text) good all a is = good_as a _ is (good, all)
acts p (makes_node found) good all a is = makes p found good all a is
acts (running events extent ps) (changes_node c) good all a is = changes events extent ps c (releases_after events) (c.files (releases_after events)) (commanded c.event (releases_after events)) (of_command c.event (releases_after events)) (good.0 (releases_after events)) (good.1 (releases_after events)) (good.2 (releases_after events)) all a is
acts (unknown_bytes x) (changes_node c) good all a is = good_as a _ is ((λ behind. refl), all)
acts (not_booted s) (changes_node c) good all a is = good_as a _ is ((λ behind. refl), all)
acts (dead s) (changes_node c) good all a is = good_as a _ is ((λ behind. refl), all)
acts (running events extent ps) (installs vsn) good all a is =
    let e = installed vsn in
    each_reply IsGoodInstall events extent ps vsn (releases_after events) (record {
      listed = λ why. (one_line (listed_whole why) refl, all);
      unmatched = (one_line (λ behind. refl) refl, all);
      not_run = λ f. (one_line (refusal_whole (script_refused f) tt) refl, all);
      over_full = (one_line (λ behind. refl) refl, all);
      broken = λ f. (one_line (refusal_whole (must_reboot f) tt) refl, certain_versions events extent all);
      done_so = λ f r reach found comes.
          (one_line (installed_whole f.other f.descr (stale_modules (behind_run r).modules (libraries_at vsn (releases_after events)))) refl, list_versions events e tt all);
      restarted_so = λ f r reach b found comes boot. install_restarts events reach vsn (releases_after events) f (behind_run r) b all boot;
      doubted_so = λ f restarts found. install_in_doubt events extent vsn (install_size vsn (releases_after events)) restarts all;
    }) a is
acts (unknown_bytes x) (installs vsn) good all a is = not_installed (unknown_bytes x) all a is
acts (not_booted s) (installs vsn) good all a is = not_installed (not_booted s) all a is
acts (dead s) (installs vsn) good all a is = not_installed (dead s) all a is
acts (running events extent ps) (reboots_node vsn) good all a is = reboots events extent ps vsn (releases_after events) (commanded (reboot_old vsn) (releases_after events)) (of_command (reboot_old vsn) (releases_after events)) all a is
acts (unknown_bytes x) (reboots_node vsn) good all a is = good_as a _ is ((λ behind. refl), all)
acts (not_booted s) (reboots_node vsn) good all a is = good_as a _ is ((λ behind. refl), all)
acts (dead s) (reboots_node vsn) good all a is = good_as a _ is ((λ behind. refl), all)
acts p boots_node good all a is = boots p all a is
acts (running events extent ps) reports_start good all a (inl is) = good_as a _ is (ok_whole _ (start_plain (releases_after events) (listed_versions events all)), all)
acts (running events extent ps) reports_start good all a (inr is) = good_as a _ is (device_line, certain_versions events extent all)
acts (unknown_bytes x) reports_start good all a is = good_as a _ is ((λ behind. refl), all)
acts (not_booted s) reports_start good all a is = good_as a _ is ((λ behind. refl), all)
acts (dead s) reports_start good all a is = good_as a _ is ((λ behind. refl), all)
acts (running events extent ps) (calls c) good all a is = good_as a _ is (calls_whole c ps, all)
acts (unknown_bytes x) (calls c) good all a is = good_as a _ is ((λ behind. refl), all)
acts (not_booted s) (calls c) good all a is = good_as a _ is ((λ behind. refl), all)
acts (dead s) (calls c) good all a is = good_as a _ is ((λ behind. refl), all)

-- Each reply to what a command comes to consists of lines, and has only versions of files after it.
pub each_good : (source : Source) (p : DiskState) (c : Command) (does : Transition.Action) → HasLinePath c → HasVersionsAt p → HasModuleVersionsAt p → Transition.ComesToOrLacks source p c does → (a : Reply)
    → Transition.NodeReplies p does a → LinesOf does a × HasVersionsAt a.after
each_good source p c does line all reports (inl comes) a is = acts p does (good_action source p c does line reports comes) all a is
each_good source p c does line all reports (inr (text, told, answered)) a is = acts p does (subst IsGoodAction (sym answered) (report_whole p c text told)) all a is

-- A reply that does nothing is so for every action, where its answer is whole.
pub lines_of_idle : (does : Transition.Action) (a : Reply) → IsWhole a.answer → a.outcome ≡ no_outcome → LinesOf does a
lines_of_idle (answers text) a whole none = whole
lines_of_idle (makes_node found) a whole none = whole
lines_of_idle (changes_node c) a whole none = whole
lines_of_idle (installs vsn) a whole none = one_line whole (ap (λ o. have_restart (events_of o)) none)
lines_of_idle (reboots_node vsn) a whole none = whole
lines_of_idle boots_node a whole none = whole
lines_of_idle reports_start a whole none = whole
lines_of_idle (calls c) a whole none = whole
