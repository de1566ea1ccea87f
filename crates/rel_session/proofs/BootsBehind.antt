-- What is replied where a node commits an event and boots after it: the reply is that of the boot, with the event in front, and
-- its answer stands after a line.
use Rattle.std.proofs.Common.{◌≡◌, ◌⊎◌, inl, ℕ, true, false, List, [], ◌∷◌, ◌++◌, Some, None, Option, Result, Ok, Err, refl, sym, ap, ◌∙◌, subst, arith}
use Rattle.std.specs.Prelude.{MatchResult, String, string_bytes}
use Rattle.std.specs.declared.alloc.Global.{Global}
use Rattle.std.specs.declared.alloc.AllocError.{AllocError}
use Rattle.rel_list.specs.Event.{Event, list_after}
use Rattle.node_processes.specs.Processes.{Processes}
use Rattle.rel_session.specs.declared.booted_node.BootedNode.{BootedNode}
use Rattle.node_store.specs.Commits.{Commits, IsDone}
use Rattle.node_store.specs.Events.{Events, log_without_doubt, with_doubt}
use Rattle.node_store.specs.Compaction.{MayReach}
use Rattle.node_store.specs.Image.{Extent, extent_after}
use Rattle.node_store.specs.State.{disk_in, extent_in, list_in, is_dead, HasStarted}
use Rattle.rel_session.specs.declared.place.Place.{Place as PlaceInMemory}
use Rattle.rel_session.specs.declared.place.Place.TheVariants as memory
use Rattle.rel_session.specs.declared.unanswered.Unanswered.{Unanswered}
use Rattle.rel_session.specs.declared.unanswered.Unanswered.TheVariants as unanswered
use Rattle.rel_session.specs.Booting.{Boots, BootsStore, store_behind}
use Rattle.rel_session.specs.Device.{Device, LeavesOnly}
use Rattle.rel_session.specs.InMemory.{disk_at, IsAt, Replied, Leads, NothingDone, Answers, AnswersAfter, EndsUnanswered}
use Rattle.rel_session.specs.Node.{DiskState, CommandOutcome, Reply, after_commit, releases_after, list_or_none, with_text}
use Rattle.rel_session.specs.Node.DiskState.{unknown_bytes, not_booted, running, dead}
use Rattle.rel_session.specs.Run.{DiskIsIn, CommandRuns, StandsForPrefix, events_of}
use Rattle.node_command.proofs.CommandLemmas.{commanded_step}
use Rattle.rel_session.proofs.Contradiction.{never}
use Rattle.rel_session.proofs.ExtentLemmas.{reach_at}
use Rattle.rel_session.proofs.DeviceLemmas.{IsDevice, weakened, joined, failed_behind}
use Rattle.rel_session.proofs.ListLemmas.{list_after-push}
use Rattle.rel_session.proofs.Prefixes.{stored, reached_sooner, reached_behind, reached_with}

module _ {D : Type 0} (v : Device D) (laws : IsDevice v) (e : Event) (size : ℕ) (n new : BootedNode D) (alive : is_dead n.handler ≡ false)
    (commits : Commits v e size n.handler new.handler) (is_done : IsDone v e size n.handler new.handler) (gone : is_dead new.handler ≡ true) (started : HasStarted v.may_leave new.handler) where
  -- the list after it
  pub grown : (events : Events) → list_after events ≡ Some (list_in n.handler) → list_after (events ++ e ∷ []) ≡ Some (list_in new.handler)
  grown events after = list_after-push events e (list_in n.handler) (list_in new.handler) after (commanded_step e (list_in n.handler) (list_in new.handler) is_done.accepted)

  -- how far the store reaches after it
  pub reaches_there : (events : Events) (extent : Extent) (ps : Processes) → IsAt v (memory.Made n) (running events extent ps)
      → MayReach (extent_after extent size) (releases_after (events ++ e ∷ [])) (extent_in new.handler)
  reaches_there events extent ps (here, living, after, stop, has) =
      reach_at (extent_in n.handler) extent (extent_in new.handler) size (list_in new.handler) (releases_after (events ++ e ∷ [])) stop (ap list_or_none (grown events after)) is_done.reaches

  -- the store after it
  holds_there : (events : Events) (extent : Extent) (ps : Processes) → IsAt v (memory.Made n) (running events extent ps) → DiskIsIn v (dead (store_behind events e (extent_in new.handler))) (disk_in new.handler)
  holds_there events extent ps (here, living, after, stop, has) c now =
      stored (events ++ e ∷ []) (extent_in new.handler) (list_in new.handler) c (grown events after) (is_done.acknowledged c now) (started c now)

  at_there : (events : Events) (extent : Extent) (ps : Processes) → IsAt v (memory.Made n) (running events extent ps) → IsAt v (memory.Made new) (dead (store_behind events e (extent_in new.handler)))
  at_there events extent ps at = (holds_there events extent ps at, gone)

  events_behind : (o : CommandOutcome) → with_doubt (e ∷ o.acknowledged) o.in_doubt ≡ e ∷ events_of o
  events_behind o = go o.in_doubt
    where
      go : (d : Option Event) → with_doubt (e ∷ o.acknowledged) d ≡ e ∷ with_doubt o.acknowledged d
      go None = refl
      go (Some f) = refl

  -- each moment of the commit
  moments_at : (events : Events) → list_after events ≡ Some (list_in n.handler) → LeavesOnly v (disk_in n.handler) (disk_in new.handler) (StandsForPrefix (log_without_doubt events) (e ∷ []))
  moments_at events after = weakened v (disk_in n.handler) (disk_in new.handler) _ _ (reached_with events (extent_in n.handler) e size) (commits.any_moment alive events after)

  -- The action says what is replied then, with the reply of the boot.
  module _ (line : List ℕ) (Does : DiskState → Reply → Type 0)
      (right_then : (events : Events) (extent : Extent) (ps : Processes) → IsAt v (memory.Made n) (running events extent ps) → (b : Reply) → BootsStore (store_behind events e (extent_in new.handler)) b → Does (running events extent ps) (with_text line (after_commit e b))) where
    module _ (final : PlaceInMemory D) (events : Events) (extent : Extent) (ps : Processes) (at : IsAt v (memory.Made n) (running events extent ps)) where
      abbrev s : DiskState
      s = dead (store_behind events e (extent_in new.handler))

      -- each moment of the commit, and of what follows it
      moments_then : (command : Events) → LeavesOnly v (disk_in new.handler) (disk_at final) (StandsForPrefix (log_without_doubt (events ++ e ∷ [])) command) → LeavesOnly v (disk_in n.handler) (disk_at final) (StandsForPrefix (log_without_doubt events) (e ∷ command))
      moments_then command leaves =
          joined v (disk_in n.handler) (disk_in new.handler) (disk_at final) _ (weakened v (disk_in n.handler) (disk_in new.handler) _ _ (reached_sooner (log_without_doubt events) (e ∷ []) command) (moments_at events at.2))
          (weakened v (disk_in new.handler) (disk_at final) _ _ (reached_behind events e command) leaves)

      happens_then : (b : Reply) → CommandRuns v s b (disk_in new.handler) (disk_at final) → CommandRuns v (running events extent ps) (with_text line (after_commit e b)) (disk_in n.handler) (disk_at final)
      happens_then b happens = record {
        moments = subst (λ l. LeavesOnly v (disk_in n.handler) (disk_at final) (StandsForPrefix (log_without_doubt events) l)) (sym (events_behind b.outcome)) (moments_then (events_of b.outcome) happens.moments);
        holds = happens.holds;
        cause = λ f. failed_behind v (disk_in n.handler) (disk_in new.handler) (disk_at final) commits.counted happens.counted (happens.cause f);
        counted = omega (arith, commits.counted, happens.counted);
      }

      -- the boot was answered
      answered : (whole : List ℕ) → Replied v s (λ b. Boots s b × (line ++ b.answer ≡ whole)) (memory.Made new) final → Replied v (running events extent ps) (λ a. Does (running events extent ps) a × (a.answer ≡ whole)) (memory.Made n) final
      answered whole r = record {
        given = with_text line (after_commit e r.given);
        right = (right_then events extent ps at r.given r.right.0, r.right.1);
        at = r.at;
        happens = happens_then r.given r.happens;
      }

      -- the boot was done, whatever became of its answer
      unanswered_so : Leads v s (Boots s) (memory.Made new) final → Leads v (running events extent ps) (Does (running events extent ps)) (memory.Made n) final
      unanswered_so r = record { given = with_text line (after_commit e r.given); right = right_then events extent ps at r.given r.right; happens = happens_then r.given r.happens }

    -- at each place where the node may be
    where_it_runs : (P : DiskState → Type 0) → ((events : Events) (extent : Extent) (ps : Processes) → IsAt v (memory.Made n) (running events extent ps) → P (running events extent ps)) → (p : DiskState) → IsAt v (memory.Made n) p → P p
    where_it_runs P there (unknown_bytes bytes) at = absurd at
    where_it_runs P there (not_booted s) at = absurd at
    where_it_runs P there (running events extent ps) at = there events extent ps at
    where_it_runs P there (dead s) at = never (sym alive ∙ at.1)

    -- The boot was done, and its answer is lost.
    pub boots_unanswered : (final : PlaceInMemory D) (text : List ℕ) (boot : Result (String Global) AllocError) → AnswersAfter v text Boots boot (memory.Made new) final → EndsUnanswered v Does (memory.Made n) final
    boots_unanswered final text boot reported = where_it_runs (λ p. Leads v p (Does p) (memory.Made n) final ⊎ NothingDone v p (memory.Made n) final) (λ events extent ps at.
        inl (unanswered_so final events extent ps at (led boot (dead (store_behind events e (extent_in new.handler))) (reported_there boot reported (dead (store_behind events e (extent_in new.handler))) (at_there events extent ps at)))))
      where
        Result_at : Result (String Global) AllocError → DiskState → Type 0
        Result_at (Ok whole) p = Replied v p (λ b. Boots p b × (text ++ b.answer ≡ string_bytes whole)) (memory.Made new) final
        Result_at (Err f) p = Leads v p (Boots p) (memory.Made new) final

        reported_there : (r : Result (String Global) AllocError) → AnswersAfter v text Boots r (memory.Made new) final → (p : DiskState) → IsAt v (memory.Made new) p → Result_at r p
        reported_there (Ok whole) given p at = given p at
        reported_there (Err f) given p at = given p at

        led : (r : Result (String Global) AllocError) (p : DiskState) → Result_at r p → Leads v p (Boots p) (memory.Made new) final
        led (Ok whole) p given = record { given = given.given; right = given.right.0; happens = given.happens }
        led (Err f) p given = given

    -- The result of the action is that of the boot.
    pub boots_behind : (final : PlaceInMemory D) (boot : Result (String Global) AllocError) (result : Result (String Global) Unanswered) → MatchResult boot (λ text. result ≡ Ok text) (λ _. result ≡ Err unanswered.NoMemory)
        → AnswersAfter v line Boots boot (memory.Made new) final → Answers v Does result (memory.Made n) final
    boots_behind final (Ok whole) result is reported = subst (λ r. Answers v Does r (memory.Made n) final) (sym is)
        (where_it_runs (λ p. Replied v p (λ a. Does p a × (a.answer ≡ string_bytes whole)) (memory.Made n) final) (λ events extent ps at.
        answered final events extent ps at (string_bytes whole) (reported (dead (store_behind events e (extent_in new.handler))) (at_there events extent ps at))))
    boots_behind final (Err f) result is reported = subst (λ r. Answers v Does r (memory.Made n) final) (sym is) (boots_unanswered final line (Err f) reported)
