-- What `reboot_old` replies: the reboot is committed, and the reply is that of the boot after it.
use Rattle.std.proofs.Common.{◌≡◌, inl, ℕ, true, false, List, [], ◌∷◌, ◌++◌, Result, Ok, Err, refl, subst}
use Rattle.std.specs.Prelude.{MatchResult, String}
use Rattle.std.specs.declared.alloc.Global.{Global}
use Rattle.std.specs.declared.alloc.AllocError.{AllocError}
use Rattle.rel_list.specs.Releases.{Releases}
use Rattle.rel_list.specs.Event.{Event}
use Rattle.rel_list.specs.Event.Event.{reboot_old as rebooting}
use Rattle.node_processes.specs.InMemory.{processes_in}
use Rattle.node_processes.specs.Processes.{Processes}
use Rattle.rel_session.specs.declared.booted_node.BootedNode.{BootedNode}
use Rattle.node_store.specs.Commits.{Commits, IsDone}
use Rattle.node_store.specs.Events.{Events}
use Rattle.node_store.specs.Compaction.{MayReach}
use Rattle.node_store.specs.Image.{Extent, extent_after, HasSpace}
use Rattle.node_store.specs.State.{extent_in, list_in, is_dead, HasStarted}
use Rattle.node_command.specs.Taking.{change_size}
use Rattle.rel_session.specs.declared.place.Place.{Place as PlaceInMemory}
use Rattle.rel_session.specs.declared.place.Place.TheVariants as memory
use Rattle.rel_session.specs.declared.unanswered.Unanswered.{Unanswered}
use Rattle.rel_session.specs.declared.unanswered.Unanswered.TheVariants as unanswered
use Rattle.rel_session.specs.Device.{Device}
use Rattle.rel_session.specs.InMemory.{ActsOrLacks, AnswersAction, AnswersAfter, IsAt}
use Rattle.rel_session.specs.Node.{DiskState, Reply, after_commit, releases_after}
use Rattle.rel_session.specs.Node.DiskState.{running}
use Rattle.rel_session.specs.Transition.{Boots, BootsStore, store_after_reboot}
use Rattle.rel_session.specs.Transition.Action.{reboots_node}
use Rattle.rel_session.proofs.BootsBehind.{boots_behind, reaches_there}
use Rattle.rel_session.proofs.CommitReplies.{right_for}
use Rattle.rel_session.proofs.DeviceLemmas.{IsDevice}

-- what is replied to a reboot that was committed, where the store reaches so far then
abbrev pub IsRebooted : List ℕ → Events → Processes → Releases → Extent → Reply → Type 0
IsRebooted vsn events ps list extent a = (b : Reply) × BootsStore (store_after_reboot events extent vsn) b × (a ≡ after_commit (rebooting vsn) b)

module _ {D : Type 0} (v : Device D) (laws : IsDevice v) (vsn : List ℕ) (n new : BootedNode D) (kept_on : processes_in new.processes ≡ processes_in n.processes) (alive : is_dead n.handler ≡ false)
    (commits : Commits v (rebooting vsn) (change_size (rebooting vsn) (list_in n.handler)) n.handler new.handler) (is_done : IsDone v (rebooting vsn) (change_size (rebooting vsn) (list_in n.handler)) n.handler new.handler)
    (gone : is_dead new.handler ≡ true) (started : HasStarted v.may_leave new.handler) where
  abbrev e : Event
  e = rebooting vsn

  abbrev Does : DiskState → Reply → Type 0
  Does = ActsOrLacks (reboots_node vsn)

  -- how far the store reaches after it
  reaches : (events : Events) (extent : Extent) (ps : Processes) → IsAt v (memory.Made n) (running events extent ps)
      → MayReach (extent_after extent (change_size e (list_in n.handler))) (releases_after (events ++ e ∷ [])) (extent_in new.handler)
  reaches = reaches_there v laws e (change_size e (list_in n.handler)) n new alive commits is_done gone started

  -- the reply with the boot after it
  acts_then : (events : Events) (extent : Extent) (ps : Processes) → IsAt v (memory.Made n) (running events extent ps) → (b : Reply) → BootsStore (store_after_reboot events (extent_in new.handler) vsn) b
      → Does (running events extent ps) (after_commit e b)
  acts_then events extent ps at b boot =
      right_for v laws Does n alive e (change_size e) (IsRebooted vsn) (λ es m qs a after is. inl is) new kept_on commits events extent ps (Ok (list_in new.handler)) (after_commit e b) at.2 is_done.accepted
      (inl (subst (λ m. HasSpace m (change_size e (list_in n.handler))) at.3 is_done.fits, inl (extent_in new.handler, reaches events extent ps at, (b, boot, refl))))

  pub reboots : (final : PlaceInMemory D) (line : Result (String Global) AllocError) (result : Result (String Global) Unanswered) → MatchResult line (λ text. result ≡ Ok text) (λ _. result ≡ Err unanswered.NoMemory)
      → AnswersAfter v [] Boots line (memory.Made new) final → AnswersAction v (reboots_node vsn) result (memory.Made n) final
  reboots = boots_behind v laws e (change_size e (list_in n.handler)) n new alive commits is_done gone started [] Does acts_then
