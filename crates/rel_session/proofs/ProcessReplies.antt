-- What is replied to commands that ask a node which runs, or change its processes.
use Rattle.std.proofs.Common.{◌≡◌, ℕ, ◌≤◌, false, List, Result, Ok, Err, inr, sym, ap, ◌∙◌, subst, arith}
use Rattle.std.specs.Prelude.{IfOk, MatchResult, String, string_bytes}
use Rattle.std.specs.declared.alloc.AllocError.{AllocError}
use Rattle.std.specs.declared.alloc.Global.{Global}
use Rattle.node_store.specs.Image.{Extent}
use Rattle.node_store.specs.Events.{Events}
use Rattle.node_store.specs.State.{disk_in, list_in, is_dead}
use Rattle.rel_list.specs.Releases.{Releases}
use Rattle.rel_session.specs.declared.unanswered.Unanswered.{Unanswered}
use Rattle.rel_session.specs.declared.unanswered.Unanswered.TheVariants as unanswered
use Rattle.node_processes.specs.InMemory.{processes_in}
use Rattle.node_processes.specs.Processes.{Processes}
use Rattle.rel_session.proofs.Contradiction.{never}
use Rattle.rel_session.specs.declared.booted_node.BootedNode.{BootedNode}
use Rattle.rel_session.specs.declared.place.Place.TheVariants as memory
use Rattle.rel_session.specs.Device.{Device}
use Rattle.rel_session.specs.InMemory.{IsAt, Replied, NothingDone, Answers}
use Rattle.rel_session.specs.Node.{DiskState, Reply, list_or_none, releases_after, reply, no_outcome}
use Rattle.rel_session.specs.Node.DiskState.{unknown_bytes, not_booted, running, dead}
use Rattle.rel_session.specs.Run.{CrashSafeDuring}
use Rattle.rel_session.proofs.DeviceLemmas.{IsDevice, still}
use Rattle.rel_session.proofs.Replies.{moments_of_nothing}

-- The processes alone change, by a command that says this of the releases and of them, and leaves these.
module _ {D : Type 0} (v : Device D) (laws : IsDevice v) (P : DiskState → Reply → Type 0) (says : Releases → Processes → List ℕ) (leaves : Processes → Processes)
    (right : (events : Events) (extent : Extent) (ps : Processes) → P (running events extent ps) (reply (says (releases_after events) ps) no_outcome (running events extent (leaves ps))))
    (n new : BootedNode D) (alive : is_dead n.handler ≡ false) (same : new.handler ≡ n.handler) where
  replies : processes_in new.processes ≡ leaves (processes_in n.processes) → (p : DiskState) → IsAt v (memory.Made n) p → Replied v p (λ a. P p a × (a.answer ≡ says (list_in n.handler) (processes_in n.processes))) (memory.Made n) (memory.Made new)
  replies left (unknown_bytes bytes) at = absurd at
  replies left (not_booted s) at = absurd at
  replies left (dead s) at = never (sym alive ∙ at.1)
  replies left (running events extent ps) (here, living, after, stop, has) =
      let then : IsAt v (memory.Made new) (running events extent (leaves ps)) =
      subst (λ h. IsAt v (memory.Made (record { handler = h; processes = new.processes })) (running events extent (leaves ps))) (sym same) (here, living, after, stop, left ∙ ap leaves has) in
      let disk : disk_in new.handler ≡ disk_in n.handler = ap disk_in same in
      record {
        given = reply (says (releases_after events) ps) no_outcome (running events extent (leaves ps));
        right = (right events extent ps, ap (λ o. says (list_or_none o) ps) after ∙ ap (says (list_in n.handler)) (sym has));
        at = then;
        happens = record {
          moments = subst (λ d. CrashSafeDuring v (running events extent ps) no_outcome (disk_in n.handler) d) (sym disk) (moments_of_nothing v laws (running events extent ps) (disk_in n.handler) (disk_in n.handler) here (still v laws (disk_in n.handler)));
          holds = then.0;
          cause = λ e. never e;
          counted = subst (λ d. v.failures (disk_in n.handler) ≤ v.failures d) (sym disk) (omega arith);
        };
      }

  -- nothing is written, whatever becomes of the processes
  writes_nothing : (p : DiskState) → IsAt v (memory.Made n) p → NothingDone v p (memory.Made n) (memory.Made new)
  writes_nothing (unknown_bytes bytes) at = absurd at
  writes_nothing (not_booted s) at = absurd at
  writes_nothing (dead s) at = never (sym alive ∙ at.1)
  writes_nothing (running events extent ps) at =
      subst (λ h. NothingDone v (running events extent ps) (memory.Made n) (memory.Made (record { handler = h; processes = new.processes }))) (sym same)
      (record { nothing_new = still v laws (disk_in n.handler); holds = at.0; counted = omega arith })

  -- Where memory is refused, the processes may be any.
  pub answers_if_reported : (line : Result (String Global) AllocError) (result : Result (String Global) Unanswered)
      → MatchResult line (λ text. result ≡ Ok text) (λ _. result ≡ Err unanswered.NoMemory) → IfOk line (λ text. string_bytes text ≡ says (list_in n.handler) (processes_in n.processes))
      → IfOk line (λ _. processes_in new.processes ≡ leaves (processes_in n.processes)) → Answers v P result (memory.Made n) (memory.Made new)
  answers_if_reported (Ok text) result is reported left = subst (λ r. Answers v P r (memory.Made n) (memory.Made new)) (sym is) (λ p at.
      let r = replies left p at in
      record { given = r.given; right = (r.right.0, r.right.1 ∙ sym reported); at = r.at; happens = r.happens })
  answers_if_reported (Err e) result is reported left = subst (λ r. Answers v P r (memory.Made n) (memory.Made new)) (sym is) (λ p at. inr (writes_nothing p at))

  pub answers_of_node : processes_in new.processes ≡ leaves (processes_in n.processes) → (line : Result (String Global) AllocError) (result : Result (String Global) Unanswered)
      → MatchResult line (λ text. result ≡ Ok text) (λ _. result ≡ Err unanswered.NoMemory) → IfOk line (λ text. string_bytes text ≡ says (list_in n.handler) (processes_in n.processes))
      → Answers v P result (memory.Made n) (memory.Made new)
  answers_of_node left (Ok text) result is reported = answers_if_reported (Ok text) result is reported left
  answers_of_node left (Err e) result is reported = answers_if_reported (Err e) result is reported tt
