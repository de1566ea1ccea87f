-- Each input has an answer in which neither the device fails nor memory is refused to a compaction.
use Rattle.std.proofs.Common.{◌≡◌, ◌⊎◌, inl, inr, ℕ, Bool, true, false, List, [], ◌∷◌, ◌++◌, Option, None, Some, Result, Ok, Err, refl, sym, ap, ◌∙◌, subst}
use Rattle.rel_list.specs.Releases.{Bundle}
use Rattle.rel_list.specs.Releases.{Releases, has_current, has_one_shot}
use Rattle.rel_list.specs.Event.{Event, list_after, booted, recorded}
use Rattle.rel_list.specs.Event.Event.{made, unpacked, installed, restart_installed, made_permanent, removed, reboot_old as rebooting, boot as booting}
use Rattle.rel_list.specs.Event.{entry}
use Rattle.rel_list.specs.declared.status.Status.TheVariants.{Permanent}
use Rattle.rel_handler.specs.declared.error.BootError.{BootError}
use Rattle.node_command.specs.declared.error.HandlerError.{HandlerError}
use Rattle.node_store.specs.Events.{Events, BeginWith, at_rest_since, store_without_doubt}
use Rattle.node_store.specs.Compaction.{compacted_extent}
use Rattle.node_store.specs.Image.{Extent, booted_extent, extent_after, extent_of, first_extent, HasSpace, holds_a_store, IsImageOf}
use Rattle.rel_handler.proofs.BootLists.{extent_of_none, fits_or_not}
use Rattle.node_command.specs.Files.{bundle_brought, made_size}
use Rattle.node_command.specs.Place.{own_refusal}
use Rattle.rel_handler.specs.Refusals.{IsBootRefusal}
use Rattle.node_command.specs.Taking.{change_size, commanded}
use Rattle.session_input.specs.Commands.{Command}
use Rattle.session_input.specs.Commands.Command.{quit}
use Rattle.session_input.specs.Feed.{Feed}
use Rattle.session_input.specs.Feed.Feed.{over, cut, next}
use Rattle.rel_unpack.specs.Refusal.{Refusal}
use Rattle.rel_unpack.specs.Unpacking.{Brought}
use Rattle.rel_unpack.specs.Source.{Source, GivesEach}
use Rattle.rel_session.specs.Files.{Files, files_behind, source_of}
use Rattle.session_laws.specs.LawsBelow.{BootLaws}
use Rattle.node_processes.specs.Calls.{Calls, left_by}
use Rattle.node_processes.specs.Fresh.{fresh_processes}
use Rattle.node_processes.specs.Processes.{Processes}
use Rattle.rel_session.specs.Node.{DiskState, Reply, reply, no_outcome, releases_after, list_or_none, after_commit}
use Rattle.rel_session.specs.Node.DiskState.{unknown_bytes, not_booted, running, dead}
use Rattle.rel_session.specs.Booting.{BootsStore, boot_line}
use Rattle.rel_session.specs.Run.Ending.{ended, cut_off}
use Rattle.session_laws.specs.AnswerLaws.{EachHasAnAnswer, HasAnswer, HasList, IsCertain, IsCompact, LeavesCompactStore, RunsOneShot}
use Rattle.rel_session.specs.Transition
use Rattle.rel_session.specs.Transition.Action.{answers, makes_node, changes_node, installs, reboots_node, boots_node, reports_start, calls}
use Rattle.node_command.proofs.CommandLemmas.{commanded_step}
use Rattle.node_command.specs.Installing.{installation}
use Rattle.node_upgrade.specs.Failure.{Failure}
use Rattle.node_upgrade.specs.Upgrade.{script_failure}
use Rattle.relup_exec.specs.Alone as script
use Rattle.relup_file.specs.Search.{FoundForm}
use Rattle.rel_session.specs.Installation.{RunsUnless, Installs, IsInstallationReply, RepliesTo, restarted_reply, upgrade_outcome}
use Rattle.node_processes.specs.Scripts.{behind_run}
use Rattle.script_progress.specs.Script.{Run}
use Rattle.rel_handler.specs.Installing.{install_room, install_size, installation_event, needs_restart}
use Rattle.rel_handler.proofs.InstallLemmas.{installation_is_commanded}
use Rattle.session_laws.proofs.SourceLemmas.{gives_each}
use Rattle.node_store.proofs.Beginnings.{with_themselves}
use Rattle.session_laws.proofs.ActionLemmas.{some_action}
use Rattle.rel_session.proofs.Histories.{events_of_image}
use Rattle.rel_session.proofs.ListLemmas.{current-booted, list_after-push}
use Rattle.rel_session.proofs.ExtentLemmas.{booted_reach, compacted_twice, none_rebooted, releases-booted}
use Rattle.rel_session.proofs.LoopLemmas.{replies_next}

-- Where the device does not fail, the place after a reply is one of these again.
pub data IsFair : DiskState → Type 0 where
  of_raw : (x : List ℕ) → IsFair (unknown_bytes x)
  rests : (ran events : Events) (extent : Extent) (list : Releases) → BeginWith ran events → list_after events ≡ Some list → IsFair (not_booted (at_rest_since ran events extent))
  runs : (events : Events) (extent : Extent) (ps : Processes) (list : Releases) → list_after events ≡ Some list → IsFair (running events extent ps)
  died : (ran events : Events) (extent : Extent) (list : Releases) → BeginWith ran events → list_after events ≡ Some list → IsFair (dead (at_rest_since ran events extent))

-- A reply that is had there, in which neither the device fails nor memory is refused to a compaction.
pub record Has (P : Reply → Type 0) : Type 0 where
  pub given : Reply
  pub is : P given
  pub works : given.outcome.failed ≡ false
  pub fair : IsFair given.after
  pub compact : LeavesCompactStore given.outcome.acknowledged given.after

-- A command has left a compact store where the store is compact, whatever its events.
leaves_compact : (events : Events) (p : DiskState) → IsCompact p → LeavesCompactStore events p
leaves_compact [] p compact = λ r. compact
leaves_compact (made b ∷ events) p compact = λ r. compact
leaves_compact (unpacked b ∷ events) p compact = λ r. compact
leaves_compact (installed v ∷ events) p compact = λ r. compact
leaves_compact (restart_installed v ∷ events) p compact = inr compact
leaves_compact (made_permanent v ∷ events) p compact = λ r. compact
leaves_compact (removed v ∷ events) p compact = λ r. compact
leaves_compact (rebooting v ∷ events) p compact = λ r. compact
leaves_compact (booting ∷ events) p compact = λ r. compact

fair_reply : (P : Reply → Type 0) (a : Reply) → P a → a.outcome.failed ≡ false → IsFair a.after → LeavesCompactStore a.outcome.acknowledged a.after → Has P
fair_reply P a is works fair compact = record { given = a; is = is; works = works; fair = fair; compact = compact }

-- an answer alone
reported_reply : (P : Reply → Type 0) (text : List ℕ) (p : DiskState) → P (reply text no_outcome p) → IsFair p → Has P
reported_reply P text p is fair = fair_reply P (reply text no_outcome p) is refl fair (λ r. absurd r)

mapped : (P Q : Reply → Type 0) → ((a : Reply) → P a → Q a) → Has P → Has Q
mapped P Q f has = record { given = has.given; is = f has.given has.is; works = has.works; fair = has.fair; compact = has.compact }

-- how far the store reaches after a commit, once it was compacted
abbrev reach : Events → Extent → Event → ℕ → Extent
reach events extent e size = compacted_extent (extent_after extent size) (releases_after (events ++ e ∷ []))

-- a commit has one where what is committed has one
commits : (events : Events) (extent : Extent) (ps : Processes) (list : Releases) (c : Event) (size : ℕ) (P : Extent → Reply → Type 0) → list_after events ≡ Some list
    → ((grown : Releases) → list_after (events ++ c ∷ []) ≡ Some grown → Has (P (reach events extent c size)))
    → Has (Transition.IsCommit events extent ps c size (commanded c (releases_after events)) P)
commits events extent ps list c size P after done = by_list (commanded c (releases_after events)) refl
  where
    by_room : (grown : Releases) → commanded c (releases_after events) ≡ Ok grown → HasSpace extent size ⊎ (HasSpace extent size → ⊥) → Has (Transition.IsCommit events extent ps c size (Ok grown) P)
    by_room grown e (inl fits) =
        let allowed : commanded c list ≡ Ok grown = ap (λ o. commanded c (list_or_none o)) (sym after) ∙ e in
        mapped (P (reach events extent c size)) (Transition.IsCommit events extent ps c size (Ok grown) P) (λ a is. inl (fits, inl (reach events extent c size, inl refl, is)))
        (done grown (list_after-push events c list grown after (commanded_step c list grown allowed)))
    by_room grown e (inr over_it) = reported_reply _ _ _ (inr (over_it, refl)) (runs events extent ps list after)

    by_list : (o : Result Releases HandlerError) → commanded c (releases_after events) ≡ o → Has (Transition.IsCommit events extent ps c size o P)
    by_list (Err why) e = reported_reply _ _ _ refl (runs events extent ps list after)
    by_list (Ok grown) e = by_room grown e (fits_or_not extent size)

-- After a commit a store that reaches as far as a compaction leaves it is compact.
stays_compact : (events : Events) (extent : Extent) (e : Event) (size : ℕ) → reach events extent e size ≡ compacted_extent (reach events extent e size) (releases_after (events ++ e ∷ []))
stays_compact events extent e size = compacted_twice (extent_after extent size) (releases_after (events ++ e ∷ []))

changes : (events : Events) (extent : Extent) (ps : Processes) (list : Releases) (c : Transition.ListChange) (f : Option Refusal) → list_after events ≡ Some list → Has (Transition.RepliesToChange events extent ps c (releases_after events) f (commanded c.event (releases_after events)))
changes events extent ps list c (Some why) after = reported_reply _ _ _ refl (runs events extent ps list after)
changes events extent ps list c None after =
    let size = c.size (releases_after events) in
    commits events extent ps list c.event size (λ x a. a ≡ Transition.reply_to_change events x ps c (releases_after events)) after (λ grown then.
    fair_reply _ (Transition.reply_to_change events (reach events extent c.event size) ps c (releases_after events)) refl refl (runs (events ++ c.event ∷ []) (reach events extent c.event size) ps grown then)
    (leaves_compact (c.event ∷ []) (running (events ++ c.event ∷ []) (reach events extent c.event size) ps) (stays_compact events extent c.event size)))

makes_with : (x : List ℕ) (p : Bundle) (size : ℕ) (why : Option Refusal) → Has (Transition.MakesWith x p size why)
makes_with x p size (Some why) = reported_reply _ _ _ refl (of_raw x)
makes_with x p size None = go (fits_or_not first_extent size)
  where
    go : HasSpace first_extent size ⊎ (HasSpace first_extent size → ⊥) → Has (Transition.MakesWith x p size None)
    go (inl fits) = fair_reply _ _ (inl (fits, inl refl)) refl (runs (made p ∷ booting ∷ []) (extent_after first_extent size) (fresh_processes (entry p Permanent ∷ [])) (entry p Permanent ∷ []) refl) (λ r. refl)
    go (inr over_it) = reported_reply _ _ _ (inr (over_it, refl)) (of_raw x)

makes_on : (x : List ℕ) (b : Brought) (there : Bool) → Has (Transition.MakesOn x b there)
makes_on x b true = reported_reply _ _ _ refl (of_raw x)
makes_on x b false = makes_with x (bundle_brought b) (made_size b) (own_refusal b)

makes : (p : DiskState) (found : Brought) → IsFair p → Has (Transition.MakesNode p found)
makes p found (of_raw x) =
    mapped (Transition.MakesOn x found (holds_a_store x)) (Transition.MakesNode (unknown_bytes x) found) (λ a is. inl is) (makes_on x found (holds_a_store x))
makes p found (rests ran events extent list since after) = reported_reply _ _ _ (inl refl) (rests ran events extent list since after)
makes p found (runs events extent ps list after) = reported_reply _ _ _ refl (runs events extent ps list after)
makes p found (died ran events extent list since after) = reported_reply _ _ _ refl (died ran events extent list since after)

booted_there : (events : Events) (extent : Extent) (list : Releases) → list_after events ≡ Some list → Has (Transition.AnswersBoot events extent)
booted_there events extent list after =
    let then = list_after-push events booting list (booted list) after refl in
    fair_reply _ _ (list, after, refl) refl (runs (events ++ booting ∷ []) (booted_extent extent list) (fresh_processes (releases_after (events ++ booting ∷ []))) (booted list) then) (λ r. absurd r)

boots_bytes : BootLaws → (x : List ℕ) → Has (Transition.BootsBytes x)
boots_bytes laws x = go (laws.either x)
  where
    go : ((es : Releases) × IsImageOf x es × (recorded es ≡ es)) ⊎ ((why : BootError) × IsBootRefusal x why) → Has (Transition.BootsBytes x)
    go (inl (es, image, still)) =
        let (events, before) = events_of_image x es image still in
        let extent = extent_of x in
        mapped (Transition.AnswersBoot events extent) (Transition.BootsBytes x) (λ a is. inl (events, es, extent, before, record { image_of = image; reaches = refl }, is)) (booted_there events extent es before)
    go (inr (why, is)) = reported_reply _ (boot_line why) (unknown_bytes x) (inr (inl (why, is, refl))) (of_raw x)

boots : BootLaws → (p : DiskState) → IsFair p → Has (Transition.Boots p)
boots laws p (of_raw x) = boots_bytes laws x
boots laws p (rests ran events extent list since after) = mapped (Transition.AnswersBoot events extent) (Transition.BootsStore (at_rest_since ran events extent)) (λ a is. inl (events, extent, (since, inl (refl, refl)), is)) (booted_there events extent list after)
boots laws p (died ran events extent list since after) = mapped (Transition.AnswersBoot events extent) (Transition.BootsStore (at_rest_since ran events extent)) (λ a is. inl (events, extent, (since, inl (refl, refl)), is)) (booted_there events extent list after)
boots laws p (runs events extent ps list after) = mapped (Transition.AnswersBoot events extent) (Transition.BootsStore (store_without_doubt events extent)) (λ a is. inl (events, extent, (with_themselves events, inl (refl, refl)), is)) (booted_there events extent list after)

-- A boot of a list without a one-shot writes no record, so the store stays as short.
booted_compact : (events : Events) (x : Extent) (list : Releases) → has_one_shot (releases_after events) ≡ false → list_after events ≡ Some list → x ≡ compacted_extent x (releases_after events)
    → IsCompact (running (events ++ booting ∷ []) (booted_extent x list) (fresh_processes (releases_after (events ++ booting ∷ []))))
booted_compact events x list none after compact =
    let free : has_one_shot list ≡ false = ap (λ o. has_one_shot (list_or_none o)) (sym after) ∙ none in
    subst (λ y. y ≡ compacted_extent y (releases_after (events ++ booting ∷ []))) (sym (extent_of_none x list free)) (compact ∙ sym (booted_reach x events none))

reboots : (events : Events) (extent : Extent) (ps : Processes) (list : Releases) (vsn : List ℕ) → list_after events ≡ Some list
    → Has (Transition.Reboots events extent ps vsn (releases_after events) (commanded (rebooting vsn) (releases_after events)))
reboots events extent ps list vsn after =
    let e = rebooting vsn in
    let size = change_size e (releases_after events) in
    let x = reach events extent e size in
    commits events extent ps list e size _ after (λ grown then.
    let booted = booted_there (events ++ e ∷ []) x grown then in
    fair_reply _ (after_commit e booted.given) (booted.given, inl (events ++ e ∷ [], x, (with_themselves (events ++ e ∷ []), inl (refl, refl)), booted.is), refl) booted.works booted.fair
    (λ r. subst (λ (t : Reply). IsCompact t.after) (sym booted.is.2)
    (booted_compact (events ++ e ∷ []) x booted.is.0 (none_rebooted events vsn) booted.is.1 (stays_compact events extent e size))))

rebooted : (p : DiskState) (vsn : List ℕ) → IsFair p → Has (Transition.NodeReplies p (reboots_node vsn))
rebooted p vsn (of_raw x) = reported_reply _ _ _ refl (of_raw x)
rebooted p vsn (rests ran events extent list since after) = reported_reply _ _ _ refl (rests ran events extent list since after)
rebooted p vsn (died ran events extent list since after) = reported_reply _ _ _ refl (died ran events extent list since after)
rebooted p vsn (runs events extent ps list after) = reboots events extent ps list vsn after

changed : (p : DiskState) (c : Transition.ListChange) → IsFair p → Has (Transition.NodeReplies p (changes_node c))
changed p c (of_raw x) = reported_reply _ _ _ refl (of_raw x)
changed p c (rests ran events extent list since after) = reported_reply _ _ _ refl (rests ran events extent list since after)
changed p c (died ran events extent list since after) = reported_reply _ _ _ refl (died ran events extent list since after)
changed p c (runs events extent ps list after) = changes events extent ps list c (c.files (releases_after events)) after

-- After an installation with a restart the node boots: it starts a one-shot, or the store is as short as it was.
restart_compact : (events : Events) (x : Extent) → x ≡ compacted_extent x (releases_after events) → (b : Reply) → Transition.AnswersBoot events x b → RunsOneShot b.after ⊎ IsCompact b.after
restart_compact events x compact b (list, after, is) = by_one_shot (has_one_shot (releases_after events)) refl
  where
    by_one_shot : (c : Bool) → has_one_shot (releases_after events) ≡ c → RunsOneShot b.after ⊎ IsCompact b.after
    by_one_shot true one = inl (subst (λ (t : Reply). RunsOneShot t.after) (sym is) (ap has_current (releases-booted events) ∙ current-booted (releases_after events) ∙ one))
    by_one_shot false none = inr (subst (λ (t : Reply). IsCompact t.after) (sym is) (booted_compact events x list none after compact))

-- an installation
installs_there : (events : Events) (extent : Extent) (ps : Processes) (list : Releases) (vsn : List ℕ) → list_after events ≡ Some list
    → Has (Installs events extent ps vsn (releases_after events) (installation vsn (releases_after events)))
installs_there events extent ps list vsn after = by_found (installation vsn (releases_after events)) refl
  where
    by_restart : (f : FoundForm) (r : Run) → installation vsn (releases_after events) ≡ Ok f → (size : ℕ) (restarts : Bool)
        → Has (IsInstallationReply restarts events (reach events extent (installation_event restarts vsn) size) vsn (releases_after events) f (behind_run r))
    by_restart f r found size restarts = go restarts (list_after-push events (installation_event restarts vsn) list allowed.0 after (commanded_step (installation_event restarts vsn) list allowed.0 allowed.1))
      where
        allowed : (next : Releases) × (commanded (installation_event restarts vsn) list ≡ Ok next)
        allowed = installation_is_commanded restarts vsn list f (subst (λ l. installation vsn l ≡ Ok f) (ap list_or_none after) found)

        go : (b : Bool) → list_after (events ++ installation_event b vsn ∷ []) ≡ Some allowed.0
            → Has (IsInstallationReply b events (reach events extent (installation_event b vsn) size) vsn (releases_after events) f (behind_run r))
        go false then = fair_reply _ _ refl refl (runs (events ++ installed vsn ∷ []) _ _ allowed.0 then) (λ r. stays_compact events extent (installed vsn) size)
        go true then =
            let e = restart_installed vsn in
            let x = reach events extent e size in
            let booted = booted_there (events ++ e ∷ []) x allowed.0 then in
            fair_reply _ (restarted_reply vsn (releases_after events) f (behind_run r) booted.given) (booted.given, inl (events ++ e ∷ [], x, (with_themselves (events ++ e ∷ []), inl (refl, refl)), booted.is), refl) booted.works booted.fair
            (restart_compact (events ++ e ∷ []) x (stays_compact events extent e size) booted.given booted.is)

    by_outcome : (f : FoundForm) → installation vsn (releases_after events) ≡ Ok f → (o : script.Outcome) → Has (RepliesTo events extent ps vsn (releases_after events) f o)
    by_outcome f found (script.Outcome.refuses n c) = reported_reply _ _ _ refl (runs events extent ps list after)
    by_outcome f found (script.Outcome.breaks n c) = reported_reply _ _ _ refl (died events events extent list (with_themselves events) after)
    by_outcome f found (script.Outcome.ends r) =
        let size = install_size vsn (releases_after events) in
        let x = reach events extent (installation_event (needs_restart vsn (releases_after events)) vsn) size in
        mapped _ (RepliesTo events extent ps vsn (releases_after events) f (script.Outcome.ends r)) (λ a is. inl (x, inl refl, is)) (by_restart f r found size (needs_restart vsn (releases_after events)))

    by_room : (f : FoundForm) → installation vsn (releases_after events) ≡ Ok f → HasSpace extent (install_room vsn (releases_after events)) ⊎ (HasSpace extent (install_room vsn (releases_after events)) → ⊥) → Has (RunsUnless events extent ps vsn (releases_after events) f None)
    by_room f found (inl fits) = mapped _ (RunsUnless events extent ps vsn (releases_after events) f None) (λ a is. inl (fits, inl is)) (by_outcome f found (upgrade_outcome vsn (releases_after events) f ps))
    by_room f found (inr over_it) = reported_reply _ _ _ (inr (over_it, refl)) (runs events extent ps list after)

    by_failure : (f : FoundForm) → installation vsn (releases_after events) ≡ Ok f → (o : Option Failure) → Has (RunsUnless events extent ps vsn (releases_after events) f o)
    by_failure f found (Some why) = reported_reply _ _ _ refl (runs events extent ps list after)
    by_failure f found None = by_room f found (fits_or_not extent (install_room vsn (releases_after events)))

    by_found : (o : Result FoundForm HandlerError) → installation vsn (releases_after events) ≡ o → Has (Installs events extent ps vsn (releases_after events) o)
    by_found (Err why) found = reported_reply _ _ _ refl (runs events extent ps list after)
    by_found (Ok f) found = by_failure f found (script_failure vsn (releases_after events) f)

installed_there : (p : DiskState) (vsn : List ℕ) → IsFair p → Has (Transition.NodeReplies p (installs vsn))
installed_there p vsn (of_raw x) = reported_reply _ _ _ refl (of_raw x)
installed_there p vsn (rests ran events extent list since after) = reported_reply _ _ _ refl (rests ran events extent list since after)
installed_there p vsn (died ran events extent list since after) = reported_reply _ _ _ refl (died ran events extent list since after)
installed_there p vsn (runs events extent ps list after) = installs_there events extent ps list vsn after

reported : (p : DiskState) → IsFair p → Has (Transition.NodeReplies p reports_start)
reported p (of_raw x) = reported_reply _ _ _ refl (of_raw x)
reported p (rests ran events extent list since after) = reported_reply _ _ _ refl (rests ran events extent list since after)
reported p (died ran events extent list since after) = reported_reply _ _ _ refl (died ran events extent list since after)
reported p (runs events extent ps list after) = reported_reply _ _ _ (inl refl) (runs events extent ps list after)

called_there : (p : DiskState) (c : Calls) → IsFair p → Has (Transition.NodeReplies p (calls c))
called_there p c (of_raw x) = reported_reply _ _ _ refl (of_raw x)
called_there p c (rests ran events extent list since after) = reported_reply _ _ _ refl (rests ran events extent list since after)
called_there p c (died ran events extent list since after) = reported_reply _ _ _ refl (died ran events extent list since after)
called_there p c (runs events extent ps list after) = reported_reply _ _ _ refl (runs events extent (left_by c ps) list after)

acts : BootLaws → (p : DiskState) (does : Transition.Action) → IsFair p → Has (Transition.NodeReplies p does)
acts laws p (answers text) fair = reported_reply _ text p refl fair
acts laws p (makes_node found) fair = makes p found fair
acts laws p (changes_node c) fair = changed p c fair
acts laws p (installs vsn) fair = installed_there p vsn fair
acts laws p (reboots_node vsn) fair = rebooted p vsn fair
acts laws p boots_node fair = boots laws p fair
acts laws p reports_start fair = reported p fair
acts laws p (calls c) fair = called_there p c fair

-- A reply to the first command, and what follows it.
one_more : (base : Source) (files : Files) (p : DiskState) (c : Command) (rest : Feed Command) (a : Reply) → Transition.Transition (source_of base files) p c a → a.outcome.failed ≡ false → LeavesCompactStore a.outcome.acknowledged a.after → HasAnswer base (files_behind files c) a.after rest → HasAnswer base files p (next c rest)
one_more base files p c rest a is works compact behind = record {
  ending = behind.ending;
  whole = behind.whole;
  replies = a ∷ behind.replies;
  works = (works, behind.works);
  compact = (compact, behind.compact);
  right = replies_next base files p c rest behind.ending a behind.replies is behind.right;
}

each : BootLaws → (base : Source) → GivesEach base → (files : Files) (p : DiskState) (commands : Feed Command) → IsFair p → HasAnswer base files p commands
each laws base some files p over fair = record { ending = ended; whole = tt; replies = []; works = tt; compact = tt; right = refl }
each laws base some files p cut fair = record { ending = cut_off; whole = tt; replies = []; works = tt; compact = tt; right = refl }
each laws base some files p (next c rest) fair = by_action (some_action (source_of base files) (gives_each base files some) p c) (λ next_files q there. each laws base some next_files q rest there)
  where
    by_action : (c ≡ quit) ⊎ ((does : Transition.Action) × Transition.MeansAction (source_of base files) p c does) → ((next_files : Files) (q : DiskState) → IsFair q → HasAnswer base next_files q rest) → HasAnswer base files p (next c rest)
    by_action (inl is) behind = record { ending = ended; whole = tt; replies = []; works = tt; compact = tt; right = (is, refl) }
    by_action (inr (does, comes)) behind =
        let has = acts laws p does fair in
        one_more base files p c rest has.given (does, inl comes, has.is) has.works has.compact (behind (files_behind files c) has.given.after has.fair)

fair_place : (p : DiskState) → IsCertain p → HasList p → IsFair p
fair_place (unknown_bytes x) sure has = of_raw x
fair_place (not_booted s) sure (list, after) = subst (λ t. IsFair (not_booted t)) (sym sure.0) (rests s.known.ran s.known.acknowledged s.extent list sure.1 after)
fair_place (running events extent ps) sure (list, after) = runs events extent ps list after
fair_place (dead s) sure (list, after) = subst (λ t. IsFair (dead t)) (sym sure.0) (died s.known.ran s.known.acknowledged s.extent list sure.1 after)

pub each_has_an_answer : BootLaws → (base : Source) → EachHasAnAnswer base
each_has_an_answer laws base some files p commands sure has = each laws base some files p commands (fair_place p sure has)
