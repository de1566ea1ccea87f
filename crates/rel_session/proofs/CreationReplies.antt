-- What `create` replies, wherever the disk stands.
use Rattle.std.proofs.Common.{◌≡◌, ◌≢◌, ◌⊎◌, inl, inr, ℕ, ◌≤◌, Bool, true, false, List, [], ◌∷◌, Option, None, Some, Result, Ok, Err, refl, sym, ap, ◌∙◌, subst}
use Rattle.std.specs.Prelude.{MatchResult, String}
use Rattle.std.specs.declared.alloc.Global.{Global}
use Rattle.std.specs.declared.alloc.AllocError.{AllocError}
use Rattle.rel_list.specs.Releases.{Releases, running as running_release}
use Rattle.rel_list.specs.Event.Event.{made, boot as booting}
use Rattle.node_command.specs.declared.error.HandlerError.{HandlerError}
use Rattle.node_command.specs.declared.error.HandlerError.TheVariants as handler_error
use Rattle.node_store.specs.declared.node_store.NodeStore.{NodeStore}
use Rattle.node_store.specs.Events.{Events, IsCrashImageOf, StoreState, store_without_doubt}
use Rattle.node_command.specs.Files.{bundle_brought, made_size, Brings, IsOfFiles}
use Rattle.node_command.specs.Place.{own_refusal}
use Rattle.node_store.specs.Image.{Extent, extent_after, first_extent, HasSpace, holds_a_store, IsImageOf}
use Rattle.rel_handler.specs.Moments.{WritesNothing}
use Rattle.rel_handler.specs.Refusals.{MakingRefused}
use Rattle.node_store.specs.State.{disk_in, list_in, is_dead, version_of, HasStarted}
use Rattle.rel_handler.specs.Unpacking.{IsMade, IsNotBegun, IsNotMade, NodeCreationRefused}
use Rattle.rel_unpack.specs.Refusal as of_files
use Rattle.rel_unpack.specs.Unpacking.{Brought}
use Rattle.rel_unpack.specs.Source.{Source}
use Rattle.session_input.specs.Commands.Command.{create}
use Rattle.rel_session.specs.declared.booted_node.BootedNode.{BootedNode}
use Rattle.rel_session.specs.declared.place.Place.{Place as PlaceInMemory}
use Rattle.rel_session.specs.declared.place.Place.TheVariants as memory
use Rattle.rel_session.specs.Device.{Device, HasFailed}
use Rattle.rel_session.specs.InMemory.{IsAt, Replied, Answers, AnswersCommand, IsStartedOrNot}
use Rattle.rel_session.specs.declared.unanswered.Unanswered.{Unanswered}
use Rattle.rel_session.specs.declared.unanswered.Unanswered.TheVariants as unanswered
use Rattle.rel_session.specs.Booting.{boot_line}
use Rattle.rel_handler.specs.declared.error.BootError.TheVariants as boot_error
use Rattle.node_answer.specs.Lines.{ok_line}
use Rattle.node_processes.specs.Fresh.{fresh_processes}
use Rattle.node_processes.specs.InMemory.{processes_in}
use Rattle.rel_session.specs.Node.{DiskState, just_booted, Reply, reply, refusal_reply, failure_reply, commit_outcome}
use Rattle.rel_session.specs.Node.DiskState.{unknown_bytes, not_booted, running, dead}
use Rattle.node_answer.specs.Refusals.{NodeRefusal, refusal_of, refusal_for, refusal_line}
use Rattle.node_answer.specs.Refusals.NodeRefusal.{full, exists, device, no_memory}
use Rattle.rel_session.proofs.Contradiction.{never}
use Rattle.rel_session.specs.Run.{DiskIsIn}
use Rattle.rel_session.specs.Transition
use Rattle.rel_session.specs.Transition.Action.{makes_node}
use Rattle.rel_session.proofs.DeviceLemmas.{IsDevice}
use Rattle.rel_session.proofs.ReleaseLemmas.{creation_refused, lacks_memory, refused_or_lacks, reported_alike}
use Rattle.rel_session.proofs.Replies.{HasBooted, held, kept, quiet, moments_of_nothing, stays, booted_at, starts, reports, answers_line, refuses_anywhere}

module _ {D : Type 0} (v : Device D) (laws : IsDevice v) (source : Source) (path : List ℕ) where
  abbrev Creates : DiskState → Reply → Type 0
  Creates = λ p a. Transition.Transition source p (create path) a

  making : (found : Brought) → Brings source path (Ok found) → (p : DiskState) (a : Reply) → Transition.MakesNode p found a → Creates p a
  making found read p a is = (makes_node found, inl (Ok found, read, refl), is)

  -- There is a node.
  pub creates_again : (n : BootedNode D) (why : HandlerError) → IsOfFiles source path why ⊎ ((why ≡ handler_error.Exists) × ((found : Brought) × Brings source path (Ok found)))
      → Answers v Creates (Err (unanswered.Refused why)) (memory.Made n) (memory.Made n)
  creates_again n why (inl of) = refuses_anywhere v laws Creates (memory.Made n) why (λ p. refused_or_lacks source p (create path) path refl why of (creation_refused source path (refusal_of why) p))
  creates_again n why (inr (is, (found, read))) = subst (λ e. Answers v Creates (Err (unanswered.Refused e)) (memory.Made n) (memory.Made n)) (sym is) there
    where
      there : (p : DiskState) → IsAt v (memory.Made n) p → Replied v p (λ a. Creates p a × (a.answer ≡ refusal_line exists)) (memory.Made n) (memory.Made n)
      there (unknown_bytes bytes) at = absurd at
      there (not_booted s) at = absurd at
      there (running events extent ps) at = stays v laws (running events extent ps) (refusal_line exists) _ (memory.Made n) (memory.Made n) at refl at (making found read (running events extent ps) _ refl, refl)
      there (dead s) at = stays v laws (dead s) (refusal_line exists) _ (memory.Made n) (memory.Made n) at refl at (making found read (dead s) _ refl, refl)

  -- There is none on this disk.
  module _ (disk : D) (stores : (es : Releases) → IsImageOf (v.seen disk) es → holds_a_store (v.seen disk) ≡ true) where
    on_raw : (found : Brought) (bytes : List ℕ) (b : Bool) (a : Reply) → holds_a_store bytes ≡ b → Transition.MakesOn bytes found b a → Transition.MakesNode (unknown_bytes bytes) found a
    on_raw found bytes b a stored_there makes = inl (subst (λ m. Transition.MakesOn bytes found m a) (sym stored_there) makes)

    -- what is made of files that are refused or not
    by_refusal : (found : Brought) (bytes : List ℕ) (o : Option of_files.Refusal) (a : Reply) → own_refusal found ≡ o → Transition.MakesWith bytes (bundle_brought found) (made_size found) o a → Transition.MakesOn bytes found false a
    by_refusal found bytes o a is makes = subst (λ w. Transition.MakesWith bytes (bundle_brought found) (made_size found) w a) (sym is) makes

    store_there : (s : StoreState) → ((c : List ℕ) → v.may_leave disk c → IsCrashImageOf s c) → holds_a_store (v.seen disk) ≡ true
    store_there s here = let of = here (v.seen disk) (laws.reads_an_image disk) in stores of.list of.image_of

    -- The node is made.
    module _ (h : NodeStore D) (is_made : IsMade v source path disk h) (started : HasStarted v.may_leave h) (alive : is_dead h ≡ false) (free : holds_a_store (v.seen disk) ≡ true → ⊥) (counted : v.failures disk ≤ v.failures (disk_in h)) where
      abbrev own_events : Events
      own_events = made (bundle_brought is_made.brought) ∷ booting ∷ []

      abbrev own_extent : Extent
      own_extent = extent_after first_extent (made_size is_made.brought)

      abbrev found_version : List ℕ
      found_version = is_made.brought.found.release.vsn

      -- where the disk stands then, and where a node with its handler does
      there : DiskIsIn v (just_booted own_events own_extent) (disk_in h) × ((n : BootedNode D) → n.handler ≡ h → processes_in n.processes ≡ fresh_processes (list_in h) → IsAt v (memory.Made n) (just_booted own_events own_extent))
      there = booted_at v laws h own_events own_extent alive (ap (λ l. Some l) (sym is_made.list)) is_made.extent is_made.acknowledged started

      -- the replies on bytes that hold no store
      made_there : (bytes : List ℕ) → v.seen disk ≡ bytes → (a : Reply) → Transition.IsMadeWith (bundle_brought is_made.brought) own_extent a → Creates (unknown_bytes bytes) a
      made_there bytes at a is = making is_made.brought is_made.read (unknown_bytes bytes) a (on_raw is_made.brought bytes false a (no_store (holds_a_store bytes) refl) (by_refusal is_made.brought bytes _ a is_made.free (inl (is_made.fits, is))))
        where
          no_store : (b : Bool) → holds_a_store bytes ≡ b → holds_a_store bytes ≡ false
          no_store true e = absurd (free (ap holds_a_store at ∙ e))
          no_store false e = e

      -- The processes of the new node were started.
      replies : (p : DiskState) → IsAt v (memory.Idle disk) p
          → HasBooted v laws p (λ a. Creates p a × (a.answer ≡ ok_line (version_of (running_release (list_in h))))) (memory.Idle disk) h
      replies (not_booted s) at = absurd (free (store_there s at))
      replies (running events extent ps) at = absurd at
      replies (dead s) at = absurd at
      replies (unknown_bytes bytes) at = record {
        given = reply (ok_line found_version) (commit_outcome own_events) (just_booted own_events own_extent);
        right = (made_there bytes at _ (inl refl), ap (λ l. ok_line (version_of (running_release l))) (sym is_made.list));
        at = there.1;
        happens = record { moments = (is_made.synced, is_made.begun); holds = there.0; cause = λ e. never e; counted = counted };
      }

      -- memory was refused to them
      unstarted : (p : DiskState) → IsAt v (memory.Idle disk) p → Replied v p (λ a. Creates p a × (a.answer ≡ boot_line boot_error.NoMemory)) (memory.Idle disk) (memory.Idle (disk_in h))
      unstarted (not_booted s) at = absurd (free (store_there s at))
      unstarted (running events extent ps) at = absurd at
      unstarted (dead s) at = absurd at
      unstarted (unknown_bytes bytes) at = record {
        given = reply (boot_line boot_error.NoMemory) (commit_outcome own_events) (not_booted (store_without_doubt own_events own_extent));
        right = (made_there bytes at _ (inr refl), refl);
        at = there.0;
        happens = record { moments = (is_made.synced, is_made.begun); holds = there.0; cause = λ e. never e; counted = counted };
      }

      pub creates : (line : Result (String Global) AllocError) (result : Result (String Global) Unanswered) (place : PlaceInMemory D) → MatchResult line (λ text. result ≡ Ok text) (λ _. result ≡ Err unanswered.NoMemory)
          → IsStartedOrNot h [] line place → AnswersCommand v source (create path) result (memory.Idle disk) place
      creates line result (memory.Made n) is reported =
          answers_line v laws Creates line result (memory.Idle disk) (memory.Made n) is (starts v laws Creates h (memory.Idle disk) replies [] line (memory.Made n) reported)
      creates line result (memory.Idle d) is (same, reported) =
          subst (λ e. AnswersCommand v source (create path) result (memory.Idle disk) (memory.Idle e)) (sym same)
          (answers_line v laws Creates line result (memory.Idle disk) (memory.Idle (disk_in h)) is (reports v laws Creates [] line (boot_line boot_error.NoMemory) (memory.Idle disk) (memory.Idle (disk_in h)) reported unstarted))

    -- The node isn't made.
    module _ (new : D) (counted : v.failures disk ≤ v.failures new) where
      unwritten_at : (p : DiskState) → IsAt v (memory.Idle disk) p → WritesNothing v.seen v.may_leave v.moment v.left_since disk new → IsAt v (memory.Idle new) p
      unwritten_at (unknown_bytes bytes) at u = u.same ∙ at
      unwritten_at (not_booted s) at u = kept v laws (IsCrashImageOf s) disk new at u.any_moment
      unwritten_at (running events extent ps) at u = absurd at
      unwritten_at (dead s) at u = absurd at

      refuses : (p : DiskState) (why : NodeRefusal) → IsAt v (memory.Idle disk) p → WritesNothing v.seen v.may_leave v.moment v.left_since disk new → Creates p (refusal_reply why p)
          → Replied v p (λ a. Creates p a × (a.answer ≡ refusal_line why)) (memory.Idle disk) (memory.Idle new)
      refuses p why at u right = record {
        given = refusal_reply why p;
        right = (right, refl);
        at = unwritten_at p at u;
        happens = record {
          moments = moments_of_nothing v laws p disk new (held v laws (memory.Idle disk) p at) u.any_moment;
          holds = held v laws (memory.Idle new) p (unwritten_at p at u);
          cause = λ e. never e;
          counted = counted;
        };
      }

      -- the files are why
      unread : (why : HandlerError) → IsOfFiles source path why → WritesNothing v.seen v.may_leave v.moment v.left_since disk new → Answers v Creates (Err (unanswered.Refused why)) (memory.Idle disk) (memory.Idle new)
      unread why of u = λ p at. refuses p (refusal_of why) at u (refused_or_lacks source p (create path) path refl why of (creation_refused source path (refusal_of why) p))

      -- the files of its applications are
      barred : (why : HandlerError) → IsNotBegun v source path disk new why → Answers v Creates (Err (unanswered.Refused why)) (memory.Idle disk) (memory.Idle new)
      barred why n = λ p at. refuses p (refusal_of why) at n.unwritten (making n.brought n.read p _ (subst (λ w. Transition.MakesNode p n.brought (refusal_reply w p)) is (there p at)))
        where
          is : refusal_for (of_files.refusal_of n.barred.error) ≡ refusal_of why
          is = sym (reported_alike n.barred.error) ∙ ap refusal_of (sym n.barred.reported)

          there : (p : DiskState) → IsAt v (memory.Idle disk) p → Transition.MakesNode p n.brought (refusal_reply (refusal_for (of_files.refusal_of n.barred.error)) p)
          there (unknown_bytes bytes) at = on_raw n.brought bytes false _ (ap holds_a_store (sym at) ∙ n.free) (by_refusal n.brought bytes _ _ n.barred.refused refl)
          there (not_booted s) at = never (sym n.free ∙ store_there s at)
          there (running events extent ps) at = absurd at
          there (dead s) at = absurd at

      -- the disk, the store or memory is
      module _ (why : HandlerError) (is_not : IsNotMade v source path disk new why) (taken : holds_a_store (v.seen disk) ≡ true → WritesNothing v.seen v.may_leave v.moment v.left_since disk new) where
        abbrev found : Brought
        found = is_not.brought

        right_for : (p : DiskState) (a : Reply) → Transition.MakesNode p is_not.brought a → Creates p a
        right_for = making is_not.brought is_not.read

        device_fails : HasFailed v disk new → (p : DiskState) → IsAt v (memory.Idle disk) p → Replied v p (λ a. Creates p a × (a.answer ≡ refusal_line device)) (memory.Idle disk) (memory.Idle new)
        device_fails cause (unknown_bytes bytes) at = by (own_refusal found) refl
          where
            fails_with : (o : Option of_files.Refusal) (a : Reply) → own_refusal found ≡ o → Transition.FailsToMake bytes (bundle_brought found) o a → Creates (unknown_bytes bytes) a
            fails_with o a is fails = right_for (unknown_bytes bytes) a (inr (subst (λ w. Transition.FailsToMake bytes (bundle_brought found) w a) (sym is) fails))

            by : (o : Option of_files.Refusal) → own_refusal found ≡ o → Replied v (unknown_bytes bytes) (λ a. Creates (unknown_bytes bytes) a × (a.answer ≡ refusal_line device)) (memory.Idle disk) (memory.Idle new)
            by None is = record {
              given = failure_reply (Some (made (bundle_brought found))) (unknown_bytes (v.seen new));
              right = (fails_with None _ is (v.seen new, (λ there. (taken (ap holds_a_store at ∙ there)).same ∙ at), refl), refl);
              at = refl;
              happens = record { moments = (is_not.any_moment, λ there. (taken there).any_moment); holds = refl; cause = λ e. cause; counted = counted };
            }
            by (Some why) is =
                let u = is_not.idle (λ none. cc (sym none ∙ is)) in
                record {
                  given = failure_reply None (unknown_bytes bytes);
                  right = (fails_with (Some why) _ is refl, refl);
                  at = unwritten_at (unknown_bytes bytes) at u;
                  happens = record { moments = u.any_moment; holds = unwritten_at (unknown_bytes bytes) at u; cause = λ e. cause; counted = counted };
                }
        device_fails cause (not_booted s) at =
            let u = taken (store_there s at) in
            let holds = kept v laws (IsCrashImageOf s) disk new at u.any_moment in
            record {
              given = failure_reply None (not_booted s);
              right = (right_for (not_booted s) _ (inr refl), refl);
              at = holds;
              happens = record { moments = quiet v laws s [] disk new at u.any_moment; holds = holds; cause = λ e. cause; counted = counted };
            }
        device_fails cause (running events extent ps) at = absurd at
        device_fails cause (dead s) at = absurd at

        exists_there : holds_a_store (v.seen disk) ≡ true → (p : DiskState) → IsAt v (memory.Idle disk) p → Transition.MakesNode p is_not.brought (refusal_reply exists p)
        exists_there stored_there (unknown_bytes bytes) at = on_raw is_not.brought bytes true (refusal_reply exists (unknown_bytes bytes)) (ap holds_a_store (sym at) ∙ stored_there) refl
        exists_there stored_there (not_booted s) at = inl refl
        exists_there stored_there (running events extent ps) at = absurd at
        exists_there stored_there (dead s) at = absurd at

        full_there : own_refusal is_not.brought ≡ None → holds_a_store (v.seen disk) ≡ false → (HasSpace first_extent (made_size found) → ⊥) → (p : DiskState) → IsAt v (memory.Idle disk) p
            → Transition.MakesNode p is_not.brought (refusal_reply full p)
        full_there clear stored_there over (unknown_bytes bytes) at =
            on_raw is_not.brought bytes false (refusal_reply full (unknown_bytes bytes)) (ap holds_a_store (sym at) ∙ stored_there) (by_refusal is_not.brought bytes _ _ clear (inr (over, refl)))
        full_there clear stored_there over (not_booted s) at = never (sym stored_there ∙ store_there s at)
        full_there clear stored_there over (running events extent ps) at = absurd at
        full_there clear stored_there over (dead s) at = absurd at

        by_error : (e : HandlerError) → (e ≢ handler_error.Exists → e ≢ handler_error.Device → own_refusal is_not.brought ≡ None) → MakingRefused (v.seen disk) (made_size found) (v.failures disk) (v.failures new) (WritesNothing v.seen v.may_leave v.moment v.left_since disk new) e
            → Answers v Creates (Err (unanswered.Refused e)) (memory.Idle disk) (memory.Idle new)
        by_error handler_error.Device clear cause = λ p at. device_fails cause p at
        by_error handler_error.Exists clear (stored_there, u) = λ p at. refuses p exists at u (right_for p _ (exists_there stored_there p at))
        by_error handler_error.Full clear (stored_there, over, u) = λ p at. refuses p full at u (right_for p _ (full_there (clear (λ e. cc e) (λ e. cc e)) stored_there over p at))
        by_error handler_error.NoMemory clear u = λ p at. refuses p no_memory at u (lacks_memory source p (create path) Transition.memory_line refl)
        by_error handler_error.NoMatchingRelup clear gone = absurd gone
        by_error handler_error.TooMany clear gone = absurd gone
        by_error handler_error.NoSuchRelease clear gone = absurd gone
        by_error handler_error.ExistingRelease clear gone = absurd gone
        by_error handler_error.AlreadyInstalled clear gone = absurd gone
        by_error (handler_error.BadStatus s) clear gone = absurd gone
        by_error handler_error.Permanent clear gone = absurd gone
        by_error handler_error.Running clear gone = absurd gone
        by_error (handler_error.LibDiffers app) clear gone = absurd gone
        by_error (handler_error.NoTable app) clear gone = absurd gone
        by_error (handler_error.BadFile q trouble) clear gone = absurd gone
        by_error (handler_error.MissingFile q) clear gone = absurd gone
        by_error (handler_error.VsnMismatch q) clear gone = absurd gone
        by_error handler_error.Dead clear gone = absurd gone

      pub creates_none : (why : HandlerError) → (holds_a_store (v.seen disk) ≡ true → WritesNothing v.seen v.may_leave v.moment v.left_since disk new)
          → NodeCreationRefused v source path disk new why → Answers v Creates (Err (unanswered.Refused why)) (memory.Idle disk) (memory.Idle new)
      creates_none why taken (inl (of, u)) = unread why of u
      creates_none why taken (inr (inl n)) = barred why n
      creates_none why taken (inr (inr is_not)) = by_error why is_not taken why is_not.clear is_not.refused
