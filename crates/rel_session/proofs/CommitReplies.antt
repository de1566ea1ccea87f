-- What a command with an event replies on a node that runs: the event is committed, or refused.
use Rattle.std.proofs.Common.{◌≡◌, inl, inr, ℕ, true, false, [], ◌∷◌, ◌++◌, Option, None, Some, Result, Ok, Err, refl, sym, ap, ◌∙◌, subst}
use Rattle.std.specs.Prelude.{IfOk, MatchResult, String, string_bytes}
use Rattle.std.specs.declared.alloc.AllocError.{AllocError}
use Rattle.std.specs.declared.alloc.Global.{Global}
use Rattle.rel_list.specs.Releases.{Releases}
use Rattle.rel_list.specs.Event.{Event, list_after}
use Rattle.node_command.specs.declared.error.HandlerError.{HandlerError}
use Rattle.node_command.specs.declared.error.HandlerError.TheVariants as handler_error
use Rattle.node_processes.specs.InMemory.{processes_in}
use Rattle.node_processes.specs.Processes.{Processes}
use Rattle.rel_session.specs.declared.booted_node.BootedNode.{BootedNode}
use Rattle.node_store.specs.Commits.{Commits, IsDone}
use Rattle.node_store.specs.Events.{Events, store_with_doubt, IsCrashImageOf, log_without_doubt}
use Rattle.node_store.specs.Image.{Extent, HasSpace}
use Rattle.node_store.specs.Refusals.{CommandRefused}
use Rattle.node_store.specs.State.{disk_in, list_in, is_dead, extent_in, IsSame}
use Rattle.node_command.specs.Taking.{commanded}
use Rattle.rel_session.specs.declared.place.Place.TheVariants as memory
use Rattle.rel_session.specs.declared.unanswered.Unanswered.{Unanswered}
use Rattle.rel_session.specs.declared.unanswered.Unanswered.TheVariants as unanswered
use Rattle.rel_session.specs.Device.{Device, LeavesOnly, HasFailed}
use Rattle.rel_session.specs.InMemory.{IsAt, Replied, Answers}
use Rattle.rel_session.specs.Node.{DiskState, Reply, refusal_reply, failure_reply, releases_after, list_or_none}
use Rattle.rel_session.specs.Node.DiskState.{unknown_bytes, not_booted, running, dead}
use Rattle.rel_unpack.specs.Refusal.{Refusal as FilesRefusal}
use Rattle.node_answer.specs.Refusals.{NodeRefusal, refusal_of, refusal_for, refusal_line}
use Rattle.node_answer.specs.Refusals.NodeRefusal.{full, device, no_memory}
use Rattle.rel_session.specs.Run.{StandsForPrefix, DiskIsIn}
use Rattle.rel_session.specs.Transition
use Rattle.rel_session.specs.Transition.Action.{changes_node}
use Rattle.node_command.proofs.CommandLemmas.{commanded_step}
use Rattle.rel_session.proofs.Contradiction.{never}
use Rattle.rel_session.proofs.ExtentLemmas.{reach_at}
use Rattle.rel_session.proofs.DeviceLemmas.{IsDevice, weakened}
use Rattle.rel_session.proofs.ListLemmas.{list_after-push}
use Rattle.rel_session.proofs.Prefixes.{reached_with}
use Rattle.rel_session.proofs.Replies.{stays, same_at, runs_at, reports, answers_line, refuses_running}

module _ {D : Type 0} (v : Device D) (laws : IsDevice v) (P : DiskState → Reply → Type 0) (n : BootedNode D) (alive : is_dead n.handler ≡ false) where
  -- An event comes to the node. Done says what is replied where it was committed.
  module _ (e : Event) (size : Releases → ℕ) (Done : Events → Processes → Releases → Extent → Reply → Type 0)
      (right : (events : Events) (extent : Extent) (ps : Processes) (a : Reply) → list_after events ≡ Some (list_in n.handler) → Transition.IsCommit events extent ps e (size (releases_after events)) (commanded e (releases_after events)) (Done events ps (releases_after events)) a → P (running events extent ps) a)
      (new : BootedNode D) (kept_on : processes_in new.processes ≡ processes_in n.processes) (commits : Commits v e (size (list_in n.handler)) n.handler new.handler) where
    abbrev body_size : ℕ
    body_size = size (list_in n.handler)

    -- what the list allows, said of the events
    pub right_for : (events : Events) (extent : Extent) (ps : Processes) (o : Result Releases HandlerError) (a : Reply) → list_after events ≡ Some (list_in n.handler) → commanded e (list_in n.handler) ≡ o
        → Transition.IsCommit events extent ps e body_size o (Done events ps (list_in n.handler)) a → P (running events extent ps) a
    right_for events extent ps o a after is so =
        let of_list : releases_after events ≡ list_in n.handler = ap list_or_none after in
        right events extent ps a after (subst (λ l. Transition.IsCommit events extent ps e (size l) (commanded e l) (Done events ps l) a) (sym of_list) (subst (λ r. Transition.IsCommit events extent ps e body_size r (Done events ps (list_in n.handler)) a) (sym is) so))

    pub moments_at : (events : Events) → list_after events ≡ Some (list_in n.handler) → LeavesOnly v (disk_in n.handler) (disk_in new.handler) (StandsForPrefix (log_without_doubt events) (e ∷ []))
    moments_at events after = weakened v (disk_in n.handler) (disk_in new.handler) _ _ (reached_with events (extent_in n.handler) e body_size) (commits.any_moment alive events after)

    device_failed : (list : Releases) → commanded e (list_in n.handler) ≡ Ok list → HasSpace (extent_in n.handler) body_size → HasFailed v (disk_in n.handler) (disk_in new.handler) → is_dead new.handler ≡ true
        → (p : DiskState) → IsAt v (memory.Made n) p → Replied v p (λ a. P p a × (a.answer ≡ refusal_line device)) (memory.Made n) (memory.Made new)
    device_failed list allowed fits cause gone (unknown_bytes bytes) at = absurd at
    device_failed list allowed fits cause gone (not_booted s) at = absurd at
    device_failed list allowed fits cause gone (dead s) at = never (sym alive ∙ at.1)
    device_failed list allowed fits cause gone (running events extent ps) (here, living, after, stop, has) =
        let s = store_with_doubt events extent e body_size in
        let leaves = subst (λ m. LeavesOnly v (disk_in n.handler) (disk_in new.handler) (IsCrashImageOf (store_with_doubt events m e body_size))) stop (commits.any_moment alive events after) in
        let holds : DiskIsIn v (dead s) (disk_in new.handler) = λ c now. leaves.each c (laws.counts_now (disk_in new.handler) (v.moment (disk_in n.handler)) c leaves.later now) in
        let a = failure_reply (Some e) (dead s) in
        record {
          given = a;
          right = (right_for events extent ps (Ok list) a after allowed (inl (subst (λ n. HasSpace n body_size) stop fits, inr refl)), refl);
          at = (holds, gone);
          happens = record { moments = moments_at events after; holds = holds; cause = λ f. cause; counted = commits.counted };
        }

    same_reply : (why : NodeRefusal) (o : Result Releases HandlerError) → commanded e (list_in n.handler) ≡ o → IsSame n.handler new.handler
        → ((events : Events) (extent : Extent) (ps : Processes) → extent_in n.handler ≡ extent → Transition.IsCommit events extent ps e body_size o (Done events ps (list_in n.handler)) (refusal_reply why (running events extent ps)))
        → (p : DiskState) → IsAt v (memory.Made n) p → Replied v p (λ a. P p a × (a.answer ≡ refusal_line why)) (memory.Made n) (memory.Made new)
    same_reply why o is same barred (unknown_bytes bytes) at = absurd at
    same_reply why o is same barred (not_booted s) at = absurd at
    same_reply why o is same barred (dead s) at = never (sym alive ∙ at.1)
    same_reply why o is same barred (running events extent ps) at =
        stays v laws (running events extent ps) (refusal_line why) _ (memory.Made n) (memory.Made new) at same.disk (same_at v laws n new (running events extent ps) same kept_on at)
        (right_for events extent ps o _ at.2 is (barred events extent ps at.3), refl)

    by_list : (why : HandlerError) → (is_dead n.handler ≡ false) × (commanded e (list_in n.handler) ≡ Err why) → IsSame n.handler new.handler → Answers v P (Err (unanswered.Refused why)) (memory.Made n) (memory.Made new)
    by_list why (living, barred) same p at = same_reply (refusal_of why) (Err why) barred same (λ events extent ps at. refl) p at

    -- The event was not committed.
    pub commits_none : ((events : Events) (extent : Extent) (ps : Processes) → P (running events extent ps) (refusal_reply no_memory (running events extent ps))) → (why : HandlerError) → CommandRefused v.failures e body_size n.handler new.handler why → Answers v P (Err (unanswered.Refused why)) (memory.Made n) (memory.Made new)
    commits_none lacks handler_error.Dead (gone, same) = never (sym alive ∙ gone)
    commits_none lacks handler_error.NoSuchRelease (barred, same) = by_list handler_error.NoSuchRelease barred same
    commits_none lacks handler_error.ExistingRelease (barred, same) = by_list handler_error.ExistingRelease barred same
    commits_none lacks handler_error.AlreadyInstalled (barred, same) = by_list handler_error.AlreadyInstalled barred same
    commits_none lacks (handler_error.BadStatus s) (barred, same) = by_list (handler_error.BadStatus s) barred same
    commits_none lacks handler_error.Permanent (barred, same) = by_list handler_error.Permanent barred same
    commits_none lacks handler_error.Running (barred, same) = by_list handler_error.Running barred same
    commits_none lacks handler_error.TooMany (barred, same) = by_list handler_error.TooMany barred same
    commits_none lacks handler_error.NoMatchingRelup (barred, same) = by_list handler_error.NoMatchingRelup barred same
    commits_none lacks (handler_error.LibDiffers app) (barred, same) = by_list (handler_error.LibDiffers app) barred same
    commits_none lacks (handler_error.NoTable app) (barred, same) = by_list (handler_error.NoTable app) barred same
    commits_none lacks (handler_error.BadFile path trouble) (barred, same) = by_list (handler_error.BadFile path trouble) barred same
    commits_none lacks (handler_error.MissingFile path) (barred, same) = by_list (handler_error.MissingFile path) barred same
    commits_none lacks (handler_error.VsnMismatch path) (barred, same) = by_list (handler_error.VsnMismatch path) barred same
    commits_none lacks handler_error.Full ((living, (list, allowed)), over, same) =
        λ p at. same_reply full (Ok list) allowed same (λ events extent ps at. inr (subst (λ n. HasSpace n body_size → ⊥) at over, refl)) p at
    commits_none lacks handler_error.NoMemory (living, same) = refuses_running v laws P n alive new same kept_on handler_error.NoMemory lacks
    commits_none lacks handler_error.Device ((living, (list, allowed), fits), cause, gone) = λ p at. device_failed list allowed fits cause gone p at
    commits_none lacks handler_error.Exists gone = absurd gone

  -- A command changes the node.
  module _ (change : Transition.ListChange) (right : (events : Events) (extent : Extent) (ps : Processes) (a : Reply) → Transition.NodeReplies (running events extent ps) (changes_node change) a → P (running events extent ps) a) where
    -- what is replied by the files of the change
    by_files : (events : Events) (extent : Extent) (ps : Processes) (a : Reply) (f : Option FilesRefusal) → list_after events ≡ Some (list_in n.handler) → change.files (list_in n.handler) ≡ f
        → Transition.RepliesToChange events extent ps change (releases_after events) f (commanded change.event (releases_after events)) a → P (running events extent ps) a
    by_files events extent ps a f after is so =
        let here : change.files (releases_after events) ≡ f = ap (λ o. change.files (list_or_none o)) after ∙ is in
        right events extent ps a (subst (λ g. Transition.RepliesToChange events extent ps change (releases_after events) g (commanded change.event (releases_after events)) a) (sym here) so)

    -- The files of the change are refused, and nothing of the node has changed.
    module _ (new : BootedNode D) (kept_on : processes_in new.processes ≡ processes_in n.processes) (same : IsSame n.handler new.handler) (why : FilesRefusal) (is : change.files (list_in n.handler) ≡ Some why) where
      pub files_refused : (p : DiskState) → IsAt v (memory.Made n) p → Replied v p (λ a. P p a × (a.answer ≡ refusal_line (refusal_for why))) (memory.Made n) (memory.Made new)
      files_refused (unknown_bytes bytes) at = absurd at
      files_refused (not_booted s) at = absurd at
      files_refused (dead s) at = never (sym alive ∙ at.1)
      files_refused (running events extent ps) at =
          stays v laws (running events extent ps) (refusal_line (refusal_for why)) _ (memory.Made n) (memory.Made new) at same.disk (same_at v laws n new (running events extent ps) same kept_on at)
          (by_files events extent ps _ (Some why) at.2 is refl, refl)

  -- A command changes the node, where the files of the change are not refused.
  module _ (change : Transition.ListChange) (right_so : (events : Events) (extent : Extent) (ps : Processes) (a : Reply) → Transition.NodeReplies (running events extent ps) (changes_node change) a → P (running events extent ps) a)
      (free : change.files (list_in n.handler) ≡ None) (new : BootedNode D) (kept_on : processes_in new.processes ≡ processes_in n.processes)
      (commits : Commits v change.event (change.size (list_in n.handler)) n.handler new.handler) where
    abbrev IsChanged : Events → Processes → Releases → Extent → Reply → Type 0
    IsChanged events ps list extent a = a ≡ Transition.reply_to_change events extent ps change list

    right : (events : Events) (extent : Extent) (ps : Processes) (a : Reply) → list_after events ≡ Some (list_in n.handler)
        → Transition.IsCommit events extent ps change.event (change.size (releases_after events)) (commanded change.event (releases_after events)) (IsChanged events ps (releases_after events)) a → P (running events extent ps) a
    right events extent ps a after is = by_files change right_so events extent ps a None after free is

    replies_done : is_dead new.handler ≡ false → IsDone v change.event (change.size (list_in n.handler)) n.handler new.handler → (p : DiskState) → IsAt v (memory.Made n) p
        → Replied v p (λ a. P p a × (a.answer ≡ Transition.done_line (change.details (list_in n.handler)))) (memory.Made n) (memory.Made new)
    replies_done works is_done (unknown_bytes bytes) at = absurd at
    replies_done works is_done (not_booted s) at = absurd at
    replies_done works is_done (dead s) at = never (sym alive ∙ at.1)
    replies_done works is_done (running events extent ps) (here, living, after, stop, has) =
        let size = change.size (list_in n.handler) in
        let then = events ++ change.event ∷ [] in
        let x = extent_in new.handler in
        let grown = list_after-push events change.event (list_in n.handler) (list_in new.handler) after (commanded_step change.event (list_in n.handler) (list_in new.handler) is_done.accepted) in
        let place = runs_at v laws new then x ps works grown refl is_done.acknowledged (commits.sound.started works) (kept_on ∙ has) in
        let reach = reach_at (extent_in n.handler) extent x size (list_in new.handler) (releases_after then) stop (ap list_or_none grown) is_done.reaches in
        let a = Transition.reply_to_change events x ps change (list_in n.handler) in
        record {
          given = a;
          right = (right_for change.event change.size IsChanged right new kept_on commits events extent ps (Ok (list_in new.handler)) a after is_done.accepted (inl (subst (λ n. HasSpace n size) stop is_done.fits, inl (x, reach, refl))), refl);
          at = place;
          happens = record { moments = moments_at change.event change.size IsChanged right new kept_on commits events after; holds = place.0; cause = λ f. never f; counted = commits.counted };
        }

    -- The change is done, and answered by this line.
    pub changes : is_dead new.handler ≡ false → IsDone v change.event (change.size (list_in n.handler)) n.handler new.handler → (line : Result (String Global) AllocError) (result : Result (String Global) Unanswered)
        → MatchResult line (λ text. result ≡ Ok text) (λ _. result ≡ Err unanswered.NoMemory) → IfOk line (λ text. string_bytes text ≡ Transition.done_line (change.details (list_in n.handler))) → Answers v P result (memory.Made n) (memory.Made new)
    changes works is_done line result is reported =
        answers_line v laws P line result (memory.Made n) (memory.Made new) is (reports v laws P [] line _ (memory.Made n) (memory.Made new) reported (replies_done works is_done))

    -- The change isn't done.
    pub changes_none : ((events : Events) (extent : Extent) (ps : Processes) → P (running events extent ps) (refusal_reply no_memory (running events extent ps))) → (e : HandlerError) → CommandRefused v.failures change.event (change.size (list_in n.handler)) n.handler new.handler e → Answers v P (Err (unanswered.Refused e)) (memory.Made n) (memory.Made new)
    changes_none = commits_none change.event change.size IsChanged right new kept_on commits
