-- What `start` replies: the start record is read, and it is that of the permanent release.
use Rattle.std.proofs.Common.{◌≡◌, inl, inr, ℕ, List, [], true, false, Some, None, Result, Ok, Err, refl, sym, ap, ◌∙◌, subst, codes, ◌++◌}
use Rattle.std.specs.Prelude.{IfOk, MatchResult, String, string_bytes}
use Rattle.std.specs.declared.alloc.AllocError.{AllocError}
use Rattle.std.specs.declared.alloc.Global.{Global}
use Rattle.rel_files.specs.Release.{Release}
use Rattle.rel_list.specs.Releases.{permanent}
use Rattle.node_store.specs.Image.{Extent}
use Rattle.rel_handler.specs.Moments.{HasRead}
use Rattle.node_store.specs.Events.{Events, store_without_doubt, IsCrashImageOf}
use Rattle.rel_handler.specs.Refusals.{StartRefused}
use Rattle.node_store.specs.State.{disk_in, list_in, is_dead}
use Rattle.node_command.specs.declared.error.HandlerError.{HandlerError}
use Rattle.node_command.specs.declared.error.HandlerError.TheVariants as handler_error
use Rattle.node_processes.specs.InMemory.{processes_in}
use Rattle.node_processes.specs.Processes.{Processes}
use Rattle.rel_session.specs.declared.booted_node.BootedNode.{BootedNode}
use Rattle.rel_session.specs.Device.{Device, HasFailed}
use Rattle.rel_session.specs.InMemory.{ActsOrLacks, IsAt, Replied, Answers}
use Rattle.rel_session.specs.Node.{DiskState, Reply, reply, failure_reply, no_outcome, releases_after, list_or_none}
use Rattle.rel_session.specs.Node.DiskState.{unknown_bytes, not_booted, running, dead}
use Rattle.node_answer.specs.Refusals.{refusal_line}
use Rattle.node_answer.specs.Refusals.NodeRefusal.{device, no_memory}
use Rattle.rel_session.specs.Run.{DiskIsIn}
use Rattle.node_answer.specs.Lines.{ok_line}
use Rattle.rel_session.proofs.Contradiction.{never}
use Rattle.rel_session.specs.Transition.{start_versions}
use Rattle.rel_session.specs.Transition.Action.{reports_start}
use Rattle.rel_session.specs.declared.place.Place.TheVariants as memory
use Rattle.rel_session.specs.declared.unanswered.Unanswered.{Unanswered}
use Rattle.rel_session.specs.declared.unanswered.Unanswered.TheVariants as unanswered
use Rattle.rel_session.proofs.DeviceLemmas.{IsDevice}
use Rattle.rel_session.proofs.Replies.{held, kept, quiet, moments_of_nothing, holds_still, reports, answers_line}

module _ {D : Type 0} (v : Device D) (laws : IsDevice v) (n new : BootedNode D) (alive : is_dead n.handler ≡ false)
    (kept_on : processes_in new.processes ≡ processes_in n.processes) (read : HasRead v n.handler new.handler) where
  abbrev Does : DiskState → Reply → Type 0
  Does = ActsOrLacks reports_start

  still_holds : (p : DiskState) → IsAt v (memory.Made n) p → DiskIsIn v p (disk_in new.handler)
  still_holds p at = holds_still v laws p (disk_in n.handler) (disk_in new.handler) (held v laws (memory.Made n) p at) read.only_read.same read.only_read.any_moment

  -- the node runs on
  runs_on : is_dead new.handler ≡ false → (events : Events) (extent : Extent) (ps : Processes) → IsAt v (memory.Made n) (running events extent ps) → IsAt v (memory.Made new) (running events extent ps)
  runs_on works events extent ps at = (still_holds (running events extent ps) at, works, at.2 ∙ ap (λ l. Some l) (sym read.list), read.extent ∙ at.3, kept_on ∙ at.4)

  -- the disk was read alone, and this is replied
  replies_so : is_dead new.handler ≡ false → (events : Events) (extent : Extent) (ps : Processes) → IsAt v (memory.Made n) (running events extent ps) → (line : List ℕ) → Does (running events extent ps) (reply line no_outcome (running events extent ps))
      → Replied v (running events extent ps) (λ a. Does (running events extent ps) a × (a.answer ≡ line)) (memory.Made n) (memory.Made new)
  replies_so works events extent ps at line right = record {
    given = reply line no_outcome (running events extent ps);
    right = (right, refl);
    at = runs_on works events extent ps at;
    happens = record {
      moments = moments_of_nothing v laws (running events extent ps) (disk_in n.handler) (disk_in new.handler) at.0 read.only_read.any_moment;
      holds = still_holds (running events extent ps) at;
      cause = λ e. never e;
      counted = read.counted;
    };
  }

  reported_there : is_dead new.handler ≡ false → (r : Release) → permanent (list_in n.handler) ≡ Some r → (p : DiskState) → IsAt v (memory.Made n) p
      → Replied v p (λ a. Does p a × (a.answer ≡ ok_line (r.erts ++ (codes " " ++ r.vsn)))) (memory.Made n) (memory.Made new)
  reported_there works r listed (unknown_bytes bytes) at = absurd at
  reported_there works r listed (not_booted s) at = absurd at
  reported_there works r listed (dead s) at = never (sym alive ∙ at.1)
  reported_there works r listed (running events extent ps) at =
      let there : permanent (releases_after events) ≡ Some r = ap (λ o. permanent (list_or_none o)) at.2 ∙ listed in
      let line = ok_line (start_versions (permanent (releases_after events))) in
      subst (λ t. Replied v (running events extent ps) (λ a. Does (running events extent ps) a × (a.answer ≡ t)) (memory.Made n) (memory.Made new)) (ap (λ o. ok_line (start_versions o)) there)
      (replies_so works events extent ps at line (inl (inl refl)))

  pub reported : is_dead new.handler ≡ false → (start : (r : Release) × (permanent (list_in n.handler) ≡ Some r)) → (line : Result (String Global) AllocError) (result : Result (String Global) Unanswered)
      → MatchResult line (λ text. result ≡ Ok text) (λ _. result ≡ Err unanswered.NoMemory) → IfOk line (λ text. string_bytes text ≡ ok_line (start.0.erts ++ (codes " " ++ start.0.vsn)))
      → Answers v Does result (memory.Made n) (memory.Made new)
  reported works start line result is said =
      answers_line v laws Does line result (memory.Made n) (memory.Made new) is (reports v laws Does [] line _ (memory.Made n) (memory.Made new) said (reported_there works start.0 start.1))

  -- memory was refused, and the disk was read alone
  lacking : is_dead new.handler ≡ false → (p : DiskState) → IsAt v (memory.Made n) p → Replied v p (λ a. Does p a × (a.answer ≡ refusal_line no_memory)) (memory.Made n) (memory.Made new)
  lacking works (unknown_bytes bytes) at = absurd at
  lacking works (not_booted s) at = absurd at
  lacking works (dead s) at = never (sym alive ∙ at.1)
  lacking works (running events extent ps) at = replies_so works events extent ps at (refusal_line no_memory) (inr refl)

  -- the device failed
  device_failed : HasFailed v (disk_in n.handler) (disk_in new.handler) → is_dead new.handler ≡ true → (p : DiskState) → IsAt v (memory.Made n) p
      → Replied v p (λ a. Does p a × (a.answer ≡ refusal_line device)) (memory.Made n) (memory.Made new)
  device_failed cause gone (unknown_bytes bytes) at = absurd at
  device_failed cause gone (not_booted s) at = absurd at
  device_failed cause gone (dead s) at = never (sym alive ∙ at.1)
  device_failed cause gone (running events extent ps) at =
      let s = store_without_doubt events extent in
      let holds = kept v laws (IsCrashImageOf s) (disk_in n.handler) (disk_in new.handler) at.0 read.only_read.any_moment in
      record {
        given = failure_reply None (dead s);
        right = (inl (inr refl), refl);
        at = (holds, gone);
        happens = record {
          moments = quiet v laws s _ (disk_in n.handler) (disk_in new.handler) at.0 read.only_read.any_moment;
          holds = holds;
          cause = λ e. cause;
          counted = read.counted;
        };
      }

  pub reported_none : (e : HandlerError) → StartRefused v.failures n.handler new.handler e → Answers v Does (Err (unanswered.Refused e)) (memory.Made n) (memory.Made new)
  reported_none handler_error.Dead (gone, same) = never (sym alive ∙ gone)
  reported_none handler_error.NoMemory (living, works) = λ p at. lacking works p at
  reported_none handler_error.Device (living, cause, gone) = λ p at. device_failed cause gone p at
  reported_none handler_error.NoSuchRelease lost = absurd lost
  reported_none handler_error.ExistingRelease lost = absurd lost
  reported_none handler_error.AlreadyInstalled lost = absurd lost
  reported_none (handler_error.BadStatus s) lost = absurd lost
  reported_none handler_error.Permanent lost = absurd lost
  reported_none handler_error.Running lost = absurd lost
  reported_none handler_error.TooMany lost = absurd lost
  reported_none (handler_error.LibDiffers app) lost = absurd lost
  reported_none (handler_error.NoTable app) lost = absurd lost
  reported_none (handler_error.BadFile path trouble) lost = absurd lost
  reported_none (handler_error.MissingFile path) lost = absurd lost
  reported_none (handler_error.VsnMismatch path) lost = absurd lost
  reported_none handler_error.NoMatchingRelup lost = absurd lost
  reported_none handler_error.Full lost = absurd lost
  reported_none handler_error.Exists lost = absurd lost
