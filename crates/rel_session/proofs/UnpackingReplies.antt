-- What `set_unpacked` replies on a node that runs.
use Rattle.std.proofs.Common.{◌≡◌, inl, inr, ℕ, false, List, Result, Ok, Err, refl, sym, ap, ◌∙◌, subst}
use Rattle.std.specs.Prelude.{IfOk, MatchResult, String, string_bytes}
use Rattle.std.specs.declared.alloc.AllocError.{AllocError}
use Rattle.std.specs.declared.alloc.Global.{Global}
use Rattle.node_command.specs.declared.error.HandlerError.{HandlerError}
use Rattle.rel_session.specs.declared.unanswered.Unanswered.{Unanswered}
use Rattle.rel_session.specs.declared.unanswered.Unanswered.TheVariants as unanswered
use Rattle.node_processes.specs.InMemory.{processes_in}
use Rattle.node_processes.specs.Processes.{Processes}
use Rattle.rel_session.specs.declared.booted_node.BootedNode.{BootedNode}
use Rattle.node_store.specs.Image.{Extent}
use Rattle.node_store.specs.Events.{Events}
use Rattle.node_store.specs.State.{is_dead}
use Rattle.node_command.specs.Files.{Brings}
use Rattle.rel_handler.specs.Unpacking.{IsBarred, IsUnpacked, UnpackingRefused}
use Rattle.rel_unpack.specs.Refusal as of_files
use Rattle.rel_unpack.specs.Unpacking.{Brought}
use Rattle.rel_unpack.specs.Source.{Source}
use Rattle.session_input.specs.Commands.Command.{set_unpacked}
use Rattle.rel_session.specs.declared.place.Place.TheVariants as memory
use Rattle.rel_session.specs.Device.{Device}
use Rattle.rel_session.specs.InMemory.{IsAt, Replied, Answers}
use Rattle.rel_session.specs.Node.{DiskState, Reply, refusal_reply}
use Rattle.rel_session.specs.Node.DiskState.{running}
use Rattle.node_answer.specs.Refusals.{refusal_of, refusal_line}
use Rattle.node_answer.specs.Refusals.NodeRefusal.{no_memory}
use Rattle.rel_session.specs.Transition
use Rattle.rel_session.specs.Transition.Action.{changes_node}
use Rattle.rel_session.proofs.DeviceLemmas.{IsDevice}
use Rattle.rel_session.proofs.ReleaseLemmas.{reported_alike, lacks_memory, refused_or_lacks, unpacking_refused}
use Rattle.rel_session.proofs.CommitReplies.{changes, changes_none, files_refused}
use Rattle.rel_session.proofs.Contradiction.{never}
use Rattle.rel_session.proofs.Replies.{refuses_running}

module _ {D : Type 0} (v : Device D) (laws : IsDevice v) (source : Source) (path : List ℕ) (n : BootedNode D) (alive : is_dead n.handler ≡ false) (new : BootedNode D)
    (kept_on : processes_in new.processes ≡ processes_in n.processes) where
  abbrev Unpacks : DiskState → Reply → Type 0
  Unpacks = λ p a. Transition.Transition source p (set_unpacked path) a

  changing : (b : Brought) → Brings source path (Ok b) → (events : Events) (extent : Extent) (ps : Processes) (a : Reply) → Transition.NodeReplies (running events extent ps) (changes_node (Transition.unpacked_change b)) a → Unpacks (running events extent ps) a
  changing b read events extent ps a is = (changes_node (Transition.unpacked_change b), inl (Ok b, read, refl), is)

  pub unpacks : (vsn : List ℕ) (line : Result (String Global) AllocError) (result : Result (String Global) Unanswered) → IsUnpacked v source path n.handler new.handler vsn
      → MatchResult line (λ text. result ≡ Ok text) (λ _. result ≡ Err unanswered.NoMemory) → IfOk line (λ text. string_bytes text ≡ Transition.ok_line vsn) → Answers v Unpacks result (memory.Made n) (memory.Made new)
  unpacks vsn line result u is reported = changes v laws Unpacks n alive (Transition.unpacked_change u.brought) (changing u.brought u.read) u.free new kept_on u.commits u.works u.done line result is
      (subst (λ name. IfOk line (λ text. string_bytes text ≡ Transition.ok_line name)) u.version reported)

  -- The files of the release are refused.
  barred : (why : HandlerError) → IsBarred source path n.handler new.handler why → Answers v Unpacks (Err (unanswered.Refused why)) (memory.Made n) (memory.Made new)
  barred why b = reported
    where
      reported : (p : DiskState) → IsAt v (memory.Made n) p → Replied v p (λ a. Unpacks p a × (a.answer ≡ refusal_line (refusal_of why))) (memory.Made n) (memory.Made new)
      reported p at =
          let error = b.barred.error in
          let line = ap refusal_line (sym (reported_alike error)) ∙ ap (λ w. refusal_line (refusal_of w)) (sym b.barred.reported) in
          subst (λ l. Replied v p (λ a. Unpacks p a × (a.answer ≡ l)) (memory.Made n) (memory.Made new)) line
          (files_refused v laws Unpacks n alive (Transition.unpacked_change b.brought) (changing b.brought b.read) new kept_on b.same (of_files.refusal_of error) b.barred.refused p at)

  -- memory was refused
  lacks : (events : Events) (extent : Extent) (ps : Processes) → Unpacks (running events extent ps) (refusal_reply no_memory (running events extent ps))
  lacks events extent ps = lacks_memory source (running events extent ps) (set_unpacked path) Transition.memory_line refl

  pub unpacks_none : (why : HandlerError) → UnpackingRefused v source path n.handler new.handler why → Answers v Unpacks (Err (unanswered.Refused why)) (memory.Made n) (memory.Made new)
  unpacks_none why (inl (is, gone, same)) = never (sym alive ∙ gone)
  unpacks_none why (inr (inl (of, living, same))) =
      refuses_running v laws Unpacks n alive new same kept_on why
      (λ events extent ps. refused_or_lacks source (running events extent ps) (set_unpacked path) path refl why of (unpacking_refused source path (refusal_of why) events extent ps))
  unpacks_none why (inr (inr (inl b))) = barred why b
  unpacks_none why (inr (inr (inr m))) = changes_none v laws Unpacks n alive (Transition.unpacked_change m.brought) (changing m.brought m.read) m.free new kept_on m.commits lacks why m.refused
