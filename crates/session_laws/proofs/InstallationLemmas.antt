-- What a node replies to an installation, case by case.
use Rattle.std.proofs.Common.{◌≡◌, inl, inr, ℕ, Bool, true, false, List, Option, None, Some, Ok, refl, sym, subst}
use Rattle.rel_list.specs.Releases.{Releases}
use Rattle.rel_list.specs.Event.Event.{installed}
use Rattle.rel_list.specs.Refusal.{refusal}
use Rattle.rel_list.specs.declared.fault.ListError.{ListError}
use Rattle.node_command.specs.Installing.{installation, script_to, unless_listed_refusal}
use Rattle.node_command.specs.Taking.{list_refusal}
use Rattle.node_processes.specs.Processes.{Processes}
use Rattle.node_processes.specs.Scripts.{behind_run}
use Rattle.node_upgrade.specs.Failure.{Failure, failure}
use Rattle.node_upgrade.specs.Failure.Why.{fails}
use Rattle.script_progress.specs.Fault.Cause.{no_memory}
use Rattle.rel_session.specs.Booting.{BootsStore}
use Rattle.node_upgrade.specs.Upgrade.{script_failure}
use Rattle.node_store.specs.Events.{Events, store_without_doubt, store_with_doubt}
use Rattle.node_store.specs.Image.{Extent}
use Rattle.relup_exec.specs.Alone.{Outcome}
use Rattle.relup_exec.specs.Alone.Outcome.{ends, refuses, breaks}
use Rattle.relup_file.specs.Search.{FoundForm}
use Rattle.script_progress.specs.Script.{Run}
use Rattle.rel_session.specs.Installation.{RunsUnless, Installs, IsInstallationReply, RepliesTo, installed_reply, store_after_restart, restarted_reply, upgrade_outcome}
use Rattle.rel_handler.specs.Installing.{install_size, installation_event, needs_restart}
use Rattle.rel_session.specs.Node.{Reply, refusal_reply, failure_reply}
use Rattle.rel_session.specs.Node.DiskState.{running, dead}
use Rattle.node_answer.specs.Refusals.{refusal_of}
use Rattle.node_answer.specs.Refusals.NodeRefusal.{full, no_matching_relup, script_refused, must_reboot}

-- What holds of each reply that there may be holds of the reply.
module _ (K : Reply → Type 0) (events : Events) (extent : Extent) (ps : Processes) (vsn : List ℕ) (list : Releases) where
  pub record OfEach : Type 0 where
    pub listed : (why : ListError) → K (refusal_reply (refusal_of (list_refusal why)) (running events extent ps))
    pub unmatched : K (refusal_reply no_matching_relup (running events extent ps))
    pub not_run : (f : Failure) → K (refusal_reply (script_refused f) (running events extent ps))
    pub over_full : K (refusal_reply full (running events extent ps))
    pub broken : (f : Failure) → K (refusal_reply (must_reboot f) (dead (store_without_doubt events extent)))
    pub done_so : (f : FoundForm) (r : Run) (reach : Extent) → installation vsn list ≡ Ok f → upgrade_outcome vsn list f ps ≡ ends r → K (installed_reply events reach vsn list f (behind_run r))
    pub restarted_so : (f : FoundForm) (r : Run) (reach : Extent) (b : Reply) → installation vsn list ≡ Ok f → upgrade_outcome vsn list f ps ≡ ends r → BootsStore (store_after_restart events reach vsn) b
        → K (restarted_reply vsn list f (behind_run r) b)
    pub doubted_so : (f : FoundForm) (restarts : Bool) → installation vsn list ≡ Ok f
        → K (failure_reply (Some (installation_event restarts vsn)) (dead (store_with_doubt events extent (installation_event restarts vsn) (install_size vsn list))))

  so : (a b : Reply) → a ≡ b → K b → K a
  so a b is of = subst K (sym is) of

  by_restart : OfEach → (f : FoundForm) → installation vsn list ≡ Ok f → (a : Reply) (r : Run) → upgrade_outcome vsn list f ps ≡ ends r → (x : Extent) (restarts : Bool)
      → IsInstallationReply restarts events x vsn list f (behind_run r) a → K a
  by_restart of f found a r comes x false is = so a _ is (of.done_so f r x found comes)
  by_restart of f found a r comes x true (b, boot, is) = so a _ is (of.restarted_so f r x b found comes boot)

  by_outcome : OfEach → (f : FoundForm) → installation vsn list ≡ Ok f → (a : Reply) (o : Outcome) → upgrade_outcome vsn list f ps ≡ o → RepliesTo events extent ps vsn list f o a → K a
  by_outcome of f found a (refuses n c) comes is = so a _ is (of.not_run (failure n (fails c)))
  by_outcome of f found a (breaks n c) comes is = so a _ is (of.broken (failure n (fails c)))
  by_outcome of f found a (ends r) comes (inl (x, reach, is)) = by_restart of f found a r comes x (needs_restart vsn list) is
  by_outcome of f found a (ends r) comes (inr is) = so a _ is (of.doubted_so f (needs_restart vsn list) found)

  by_failure : OfEach → (f : FoundForm) → installation vsn list ≡ Ok f → (a : Reply) (o : Option Failure) → RunsUnless events extent ps vsn list f o a → K a
  by_failure of f found a (Some why) is = so a _ is (of.not_run why)
  by_failure of f found a None (inl (fits, inl is)) = by_outcome of f found a (upgrade_outcome vsn list f ps) refl is
  by_failure of f found a None (inl (fits, inr (n, late, is))) = so a _ is (of.broken (failure n (fails no_memory)))
  by_failure of f found a None (inr (over, is)) = so a _ is of.over_full

  by_list : OfEach → (a : Reply) (o : Option ListError) (found : Option FoundForm) → installation vsn list ≡ unless_listed_refusal o found → Installs events extent ps vsn list (unless_listed_refusal o found) a → K a
  by_list of a (Some why) found e is = so a _ is (of.listed why)
  by_list of a None None e is = so a _ is of.unmatched
  by_list of a None (Some f) e is = by_failure of f e a (script_failure vsn list f) is

  pub each_reply : OfEach → (a : Reply) → Installs events extent ps vsn list (installation vsn list) a → K a
  each_reply of a is = by_list of a (refusal (installed vsn) list) (script_to vsn list) refl is
