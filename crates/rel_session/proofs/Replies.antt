-- What each command replies, wherever the disk stands, as the handler's clauses give it.
use Rattle.std.proofs.Common.{◌≡◌, ◌≢◌, ◌⊎◌, inl, inr, ℕ, ◌≤◌, true, false, List, [], ◌∷◌, ◌++◌, Some, Result, Ok, Err, refl, sym, ap, ◌∙◌, subst, arith}
use Rattle.std.specs.Result.{IsErrAnd}
use Rattle.std.specs.Prelude.{IfOk, String, string_bytes, MatchResult}
use Rattle.std.specs.declared.alloc.Global.{Global}
use Rattle.std.specs.declared.alloc.AllocError.{AllocError}
use Rattle.rel_list.specs.Releases.{Releases, running as running_release}
use Rattle.rel_list.specs.Event.{list_after, booted, recorded}
use Rattle.rel_list.specs.Event.Event.{boot as booting}
use Rattle.node_command.specs.declared.error.HandlerError.{HandlerError}
use Rattle.node_command.specs.declared.error.HandlerError.TheVariants as handler_error
use Rattle.rel_handler.specs.declared.error.BootError.{BootError}
use Rattle.rel_handler.specs.declared.error.BootError.TheVariants as boot_error
use Rattle.node_store.specs.declared.node_store.NodeStore.{NodeStore}
use Rattle.rel_handler.specs.Booting.{IsBootOf}
use Rattle.node_store.specs.Events.{Events, StoreState, store_without_doubt, store_with_boot_in_doubt, IsCrashImageOf}
use Rattle.rel_handler.specs.Moments.{KeepsStore}
use Rattle.node_store.specs.Image.{Extent, booted_extent, extent_of, IsImageWithExtent, IsImageOf, IsLeftByBoot, IsStarted}
use Rattle.rel_handler.specs.Refusals.{BootRefused, IsBootRefusal}
use Rattle.node_store.specs.State.{disk_in, list_in, is_dead, extent_in, HasStarted, IsSame}
use Rattle.node_processes.specs.Answers.{processes_line, modules_line, peek_line}
use Rattle.node_processes.specs.Calls.{Calls}
use Rattle.node_processes.specs.Calls.Calls.{once, often}
use Rattle.node_processes.specs.Fresh.{fresh_processes}
use Rattle.node_processes.specs.InMemory.{processes_in}
use Rattle.node_processes.specs.Processes.{Processes}
use Rattle.node_start.specs.Booting.{HasStopped, IsBootedFrom, IsLack}
use Rattle.rel_session.specs.declared.booted_node.BootedNode.{BootedNode}
use Rattle.rel_session.specs.declared.place.Place.{Place as PlaceInMemory}
use Rattle.rel_session.specs.declared.place.Place.TheVariants as memory
use Rattle.session_input.specs.Commands.{Command}
use Rattle.session_input.specs.Commands.Command.{file, create, set_unpacked, check, install, permanent, remove, reboot_old, boot, start, releases, procs, modules, peek, call, flood, relup, quit, bad}
use Rattle.rel_session.specs.Device.{Device, LeavesOnly, HasFailed}
use Rattle.rel_unpack.specs.Source.{Source}
use Rattle.rel_session.specs.InMemory.{disk_at, IsAt, Replied, NothingDone, ActsOrLacks, Answers, AnswersAfter, IsNodeStarted, IsStartedOrNot, NeedsNode}
use Rattle.rel_session.specs.Node.{DiskState, just_booted, list_or_none, CommandOutcome, Reply, reply, refusal_reply, no_outcome, commit_outcome}
use Rattle.rel_session.specs.Node.DiskState.{unknown_bytes, not_booted, running, dead}
use Rattle.node_answer.specs.Refusals.{refusal_of, refusal_line}
use Rattle.rel_session.specs.Booting.{Lack, boot_line, boot_undone, is_failure, lack_error, undone, IsLeftUndone, IsUndone}
use Rattle.rel_session.specs.Booting.Lack.{device_failed, memory_refused}
use Rattle.node_answer.specs.Lines.{ok_line}
use Rattle.node_store.specs.State.{version_of}
use Rattle.rel_session.specs.declared.unanswered.Unanswered.{Unanswered}
use Rattle.rel_session.specs.declared.unanswered.Unanswered.TheVariants as unanswered
use Rattle.rel_list.proofs.PermanentLaws.{permanent-of_booted}
use Rattle.node_answer.specs.Refusals.NodeRefusal.{dead as dead_node}
use Rattle.rel_session.proofs.Contradiction.{never}
use Rattle.rel_session.specs.Run.{StandsForPrefix, DiskIsIn, CrashSafeDuring, CommandRuns}
use Rattle.rel_session.specs.Transition
use Rattle.rel_session.specs.Transition.Action.{answers, changes_node, installs, reboots_node, boots_node, reports_start, calls}
use Rattle.rel_session.proofs.DeviceLemmas.{IsDevice, weakened, still}
use Rattle.rel_session.proofs.Histories.{events_of_image}
use Rattle.rel_session.proofs.ListLemmas.{list_after-push}
use Rattle.rel_session.proofs.Prefixes.{reached, reached_booting, stored}

-- what an error became is the result
pub reported_so : (r : Result (String Global) Unanswered) (why : Unanswered) → IsErrAnd r (λ e. e ≡ why) → r ≡ Err why
reported_so (Ok vsn) why never = absurd never
reported_so (Err e) why is = ap Err is

module _ {D : Type 0} (v : Device D) (laws : IsDevice v) where
  -- what is so of the disk of a place
  pub held : (place : PlaceInMemory D) (p : DiskState) → IsAt v place p → DiskIsIn v p (disk_at place)
  held (memory.Idle disk) (unknown_bytes bytes) at = at
  held (memory.Idle disk) (not_booted s) at = at
  held (memory.Idle disk) (running events extent ps) at = absurd at
  held (memory.Idle disk) (dead s) at = absurd at
  held (memory.Made n) (unknown_bytes bytes) at = absurd at
  held (memory.Made n) (not_booted s) at = absurd at
  held (memory.Made n) (running events extent ps) at = at.0
  held (memory.Made n) (dead s) at = at.0

  -- Calls that leave nothing new keep what is known of a store.
  pub kept : (P : List ℕ → Type 0) (old new : D) → ((c : List ℕ) → v.may_leave old c → P c) → LeavesOnly v old new (v.may_leave old)
      → (c : List ℕ) → v.may_leave new c → P c
  kept P old new here leaves c now = here c (leaves.each c (laws.counts_now new (v.moment old) c leaves.later now))

  -- During calls that leave nothing new, a crash leaves a prefix of the events so far, whatever the events of the command.
  pub quiet : (s : StoreState) (command : Events) (old new : D) → ((c : List ℕ) → v.may_leave old c → IsCrashImageOf s c) → LeavesOnly v old new (v.may_leave old)
      → LeavesOnly v old new (StandsForPrefix s.known command)
  quiet s command old new here leaves = weakened v old new (v.may_leave old) _ (λ c now. reached s command c (here c now)) leaves

  -- a command without an event that leaves nothing new
  pub moments_of_nothing : (p : DiskState) (old new : D) → DiskIsIn v p old → LeavesOnly v old new (v.may_leave old) → CrashSafeDuring v p no_outcome old new
  moments_of_nothing (unknown_bytes bytes) old new here leaves = leaves
  moments_of_nothing (not_booted s) old new here leaves = quiet s [] old new here leaves
  moments_of_nothing (running events extent ps) old new here leaves = quiet (store_without_doubt events extent) [] old new here leaves
  moments_of_nothing (dead s) old new here leaves = quiet s [] old new here leaves

  -- where a disk stands that is read alone
  pub holds_still : (p : DiskState) (old new : D) → DiskIsIn v p old → v.seen new ≡ v.seen old → LeavesOnly v old new (v.may_leave old) → DiskIsIn v p new
  holds_still (unknown_bytes bytes) old new here same leaves = same ∙ here
  holds_still (not_booted s) old new here same leaves = kept (IsCrashImageOf s) old new here leaves
  holds_still (running events extent ps) old new here same leaves = kept (IsCrashImageOf (store_without_doubt events extent)) old new here leaves
  holds_still (dead s) old new here same leaves = kept (IsCrashImageOf s) old new here leaves

  -- nothing was done, and nothing of the disk has changed
  pub stays : (p : DiskState) (answer : List ℕ) (P : Reply → Type 0) (old new : PlaceInMemory D) → IsAt v old p → disk_at new ≡ disk_at old → IsAt v new p → P (reply answer no_outcome p) → Replied v p P old new
  stays p answer P old new at same then right = record {
    given = reply answer no_outcome p;
    right = right;
    at = then;
    happens = record {
      moments = moments_of_nothing p (disk_at old) (disk_at new) (held old p at) (subst (λ d. LeavesOnly v (disk_at old) d (v.may_leave (disk_at old))) (sym same) (still v laws (disk_at old)));
      holds = held new p then;
      cause = λ e. never e;
      counted = subst (λ d. v.failures (disk_at old) ≤ v.failures d) (sym same) (omega arith);
    };
  }

  pub leaves_all : (p : DiskState) (old new : PlaceInMemory D) → disk_at new ≡ disk_at old → IsAt v new p → NothingDone v p old new
  leaves_all p old new same then = record {
    nothing_new = subst (λ d. LeavesOnly v (disk_at old) d (v.may_leave (disk_at old))) (sym same) (still v laws (disk_at old));
    holds = held new p then;
    counted = subst (λ d. v.failures (disk_at old) ≤ v.failures d) (sym same) (omega arith);
  }

  -- a node of which nothing has changed stands where it stood
  pub same_at : (n new : BootedNode D) (p : DiskState) → IsSame n.handler new.handler → processes_in new.processes ≡ processes_in n.processes → IsAt v (memory.Made n) p → IsAt v (memory.Made new) p
  same_at n new (unknown_bytes bytes) same kept_on at = at
  same_at n new (not_booted s) same kept_on at = at
  same_at n new (running events extent ps) same kept_on (here, alive, after, ends, has) = (
    subst (λ d. DiskIsIn v (running events extent ps) d) (sym same.disk) here,
    same.dead ∙ alive,
    after ∙ ap (λ l. Some l) (sym same.list),
    same.extent ∙ ends,
    kept_on ∙ has,
  )
  same_at n new (dead s) same kept_on (here, is) = (subst (λ d. DiskIsIn v (dead s) d) (sym same.disk) here, same.dead ∙ is)

  -- A handler whose list is that of these events.
  abbrev RunsWith : NodeStore D → Events → Extent → Type 0
  RunsWith h events extent =
      ((c : List ℕ) → v.may_leave (disk_in h) c → IsCrashImageOf (store_without_doubt events extent) c) × (is_dead h ≡ false)
      × (list_after events ≡ Some (list_in h)) × (extent_in h ≡ extent)

  runs_with : (h : NodeStore D) (events : Events) (extent : Extent) → is_dead h ≡ false → list_after events ≡ Some (list_in h) → extent_in h ≡ extent
      → ((c : List ℕ) → v.may_leave (disk_in h) c → IsImageWithExtent c (list_in h) (extent_in h)) → HasStarted v.may_leave h → RunsWith h events extent
  runs_with h events extent alive after ends images started = (
    λ c now. stored events extent (list_in h) c after (subst (IsImageWithExtent c (list_in h)) ends (images c now)) (started c now),
    alive,
    after,
    ends,
  )

  -- a node with it, and with these processes
  pub runs_at : (n : BootedNode D) (events : Events) (extent : Extent) (ps : Processes) → is_dead n.handler ≡ false → list_after events ≡ Some (list_in n.handler) → extent_in n.handler ≡ extent
      → ((c : List ℕ) → v.may_leave (disk_in n.handler) c → IsImageWithExtent c (list_in n.handler) (extent_in n.handler)) → HasStarted v.may_leave n.handler → processes_in n.processes ≡ ps
      → IsAt v (memory.Made n) (running events extent ps)
  runs_at n events extent ps alive after ends images started has =
      let (here, living, behind, stop) = runs_with n.handler events extent alive after ends images started in
      (here, living, behind, stop, has)

  -- A node has booted with this handler: the reply, and where a node with it and with its processes stands.
  pub record HasBooted (p : DiskState) (P : Reply → Type 0) (old : PlaceInMemory D) (h : NodeStore D) : Type 0 where
    pub given : Reply
    pub right : P given
    pub at : (n : BootedNode D) → n.handler ≡ h → processes_in n.processes ≡ fresh_processes (list_in h) → IsAt v (memory.Made n) given.after
    pub happens : CommandRuns v p given (disk_at old) (disk_in h)

  pub booted_at : (h : NodeStore D) (events : Events) (extent : Extent) → is_dead h ≡ false → list_after events ≡ Some (list_in h) → extent_in h ≡ extent
      → ((c : List ℕ) → v.may_leave (disk_in h) c → IsImageWithExtent c (list_in h) (extent_in h)) → HasStarted v.may_leave h
      → DiskIsIn v (just_booted events extent) (disk_in h) × ((n : BootedNode D) → n.handler ≡ h → processes_in n.processes ≡ fresh_processes (list_in h) → IsAt v (memory.Made n) (just_booted events extent))
  booted_at h events extent alive after ends images started =
      let runs = runs_with h events extent alive after ends images started in (
        runs.0,
        λ n is has.
            let (here, living, behind, stop) = subst (λ k. RunsWith k events extent) (sym is) runs in
            (here, living, behind, stop, has ∙ ap (λ o. fresh_processes (list_or_none o)) (sym after)),
      )

  -- Its processes were started, and a line was made that reports it, after a text.
  module _ (P : DiskState → Reply → Type 0) (h : NodeStore D) (old : PlaceInMemory D) where
    abbrev Reports : DiskState → Reply → Type 0
    Reports p a = P p a × (a.answer ≡ ok_line (version_of (running_release (list_in h))))

    pub starts : ((p : DiskState) → IsAt v old p → HasBooted p (Reports p) old h) → (text : List ℕ) (line : Result (String Global) AllocError) (place : PlaceInMemory D) → IsNodeStarted h text line place → AnswersAfter v text P line old place
    starts booted_there text line (memory.Idle disk) never_so = absurd never_so
    starts booted_there text (Ok whole) (memory.Made n) (is, has, reported, begun) = λ p at.
        let b = booted_there p at in
        record {
          given = b.given;
          right = (b.right.0, ap (λ t. text ++ t) b.right.1 ∙ sym reported);
          at = b.at n is has;
          happens = subst (λ k. CommandRuns v p b.given (disk_at old) (disk_in k)) (sym is) b.happens;
        }
    starts booted_there text (Err e) (memory.Made n) (is, has, reported, begun) = λ p at.
        let b = booted_there p at in
        record { given = b.given; right = b.right.0; happens = subst (λ k. CommandRuns v p b.given (disk_at old) (disk_in k)) (sym is) b.happens }

  -- what has started is one of the two
  pub started_or_not : (h : NodeStore D) (text : List ℕ) (line : Result (String Global) AllocError) (place : PlaceInMemory D) → IsNodeStarted h text line place → IsStartedOrNot h text line place
  started_or_not h text line (memory.Idle disk) is = absurd is
  started_or_not h text line (memory.Made n) is = is

  -- A command was done, and its line stands after a text, unless there was no memory for it.
  pub reports : (P : DiskState → Reply → Type 0) (text : List ℕ) (line : Result (String Global) AllocError) (answer : List ℕ) (old new : PlaceInMemory D) → IfOk line (λ whole. string_bytes whole ≡ text ++ answer)
      → ((p : DiskState) → IsAt v old p → Replied v p (λ a. P p a × (a.answer ≡ answer)) old new) → AnswersAfter v text P line old new
  reports P text (Ok whole) answer old new reported replied = λ p at.
      let r = replied p at in
      record { given = r.given; right = (r.right.0, ap (λ t. text ++ t) r.right.1 ∙ sym reported); at = r.at; happens = r.happens }
  reports P text (Err e) answer old new reported replied = λ p at.
      let r = replied p at in
      record { given = r.given; right = r.right.0; happens = r.happens }

  -- a boot that is done
  module _ (old : PlaceInMemory D) (disk : D) (taken : disk ≡ disk_at old) (h : NodeStore D) (alive : is_dead h ≡ false)
      (image : (es : Releases) × IsImageOf (v.seen disk) es × (recorded es ≡ es))
      (images : (c : List ℕ) → v.may_leave (disk_in h) c → IsImageWithExtent c (list_in h) (extent_in h)) (started : HasStarted v.may_leave h)
      (only : (es : Releases) → IsImageOf (v.seen disk) es → IsBootOf (v.seen disk) es h)
      (leaves : LeavesOnly v disk (disk_in h) (λ c. v.may_leave disk c ⊎ IsLeftByBoot (v.seen disk) c))
      (stored_all : (s : StoreState) → ((c : List ℕ) → v.may_leave disk c → IsCrashImageOf s c) → KeepsStore v s disk (disk_in h)) (counted : v.failures disk ≤ v.failures (disk_in h)) where
    abbrev version_line : List ℕ
    version_line = Transition.ok_line (Transition.version_of (running_release (list_in h)))

    -- with these events
    boots_with : (p : DiskState) (events : Events) (extent : Extent) (list : Releases) → list_after events ≡ Some list → list_in h ≡ booted list → extent_in h ≡ booted_extent extent list → CrashSafeDuring v p (commit_outcome (booting ∷ [])) disk (disk_in h)
        → (P : Reply → Type 0) → ((a : Reply) → Transition.AnswersBoot events extent a → P a) → HasBooted p (λ a. P a × (a.answer ≡ version_line)) old h
    boots_with p events extent list after is ends moments P right =
        let then : list_after (events ++ booting ∷ []) ≡ Some (list_in h) = list_after-push events booting list (booted list) after refl ∙ ap (λ l. Some l) (sym is) in
        let place = booted_at h (events ++ booting ∷ []) (booted_extent extent list) alive then ends images started in
        record {
          given = reply version_line (commit_outcome (booting ∷ [])) (just_booted (events ++ booting ∷ []) (booted_extent extent list));
          right = (
            right _
                (list, after, ap (λ (l : Releases). reply (Transition.ok_line (Transition.version_of (running_release l))) (commit_outcome (booting ∷ [])) (just_booted (events ++ booting ∷ []) (booted_extent extent list))) is),
            refl,
          );
          at = place.1;
          happens = record {
            moments = subst (λ d. CrashSafeDuring v p (commit_outcome (booting ∷ [])) d (disk_in h)) taken moments;
            holds = place.0;
            cause = λ e. never e;
            counted = subst (λ d. v.failures d ≤ v.failures (disk_in h)) taken counted;
          };
        }

    boots_store : (p : DiskState) (s : StoreState) → ((c : List ℕ) → v.may_leave disk c → IsCrashImageOf s c) → (LeavesOnly v disk (disk_in h) (StandsForPrefix s.known (booting ∷ [])) → CrashSafeDuring v p (commit_outcome (booting ∷ [])) disk (disk_in h))
        → HasBooted p (λ a. Transition.BootsStore s a × (a.answer ≡ version_line)) old h
    boots_store p s here moments =
        let of = here (v.seen disk) (laws.reads_an_image disk) in
        let is = only of.list of.image_of in
        boots_with p of.events (extent_of (v.seen disk)) of.list of.after is.list is.extent
        (moments (reached_booting v s disk (disk_in h) (stored_all s here))) (Transition.BootsStore s) (λ a is. inl (of.events, extent_of (v.seen disk), of.has, is))

    boots_at : (p : DiskState) → DiskIsIn v p disk → HasBooted p (λ a. Transition.Boots p a × (a.answer ≡ version_line)) old h
    boots_at (unknown_bytes bytes) here =
        let (es, image_of, still) = image in
        let (events, before) = events_of_image (v.seen disk) es image_of still in
        let is = only es image_of in
        let at : IsImageWithExtent (v.seen disk) es (extent_of (v.seen disk)) = record { image_of = image_of; reaches = refl } in
        boots_with (unknown_bytes bytes) events (extent_of (v.seen disk)) es before is.list is.extent leaves (Transition.Boots (unknown_bytes bytes))
        (λ a is. inl (events, es, extent_of (v.seen disk), before, subst (λ b. IsImageWithExtent b es (extent_of (v.seen disk))) here at, is))
    boots_at (not_booted s) here = boots_store (not_booted s) s here (λ m. m)
    boots_at (running events extent ps) here = boots_store (running events extent ps) (store_without_doubt events extent) here (λ m. m)
    boots_at (dead s) here = boots_store (dead s) s here (λ m. m)

    pub boots : (text : List ℕ) (line : Result (String Global) AllocError) (place : PlaceInMemory D) → IsNodeStarted h text line place → AnswersAfter v text Transition.Boots line old place
    boots = starts Transition.Boots h old (λ p at. boots_at p (subst (λ d. DiskIsIn v p d) (sym taken) (held old p at)))

  -- the disk was read alone
  abbrev IsQuiet : D → D → Type 0
  IsQuiet old new = (v.seen new ≡ v.seen old) × LeavesOnly v old new (v.may_leave old)

  -- a boot that is refused
  module _ (old : PlaceInMemory D) (disk new : D) (taken : disk ≡ disk_at old) (leaves : LeavesOnly v disk new (λ c. v.may_leave disk c ⊎ IsLeftByBoot (v.seen disk) c))
      (stored_all : (s : StoreState) → ((c : List ℕ) → v.may_leave disk c → IsCrashImageOf s c) → KeepsStore v s disk new) (counted : v.failures disk ≤ v.failures new) where
    refused_at : (p q : DiskState) (answer : List ℕ) (o : CommandOutcome) (P : Reply → Type 0) → CrashSafeDuring v p o disk new → IsAt v (memory.Idle new) q → (o.failed ≡ true → HasFailed v disk new)
        → P (reply answer o q) → Replied v p (λ a. P a × (a.answer ≡ answer)) old (memory.Idle new)
    refused_at p q answer o P moments then cause right = record {
      given = reply answer o q;
      right = (right, refl);
      at = then;
      happens = record {
        moments = subst (λ d. CrashSafeDuring v p o d new) taken moments;
        holds = held (memory.Idle new) q then;
        cause = λ e. subst (λ d. HasFailed v d new) taken (cause e);
        counted = subst (λ d. v.failures d ≤ v.failures new) taken counted;
      };
    }

    module _ (why : BootError) (is : BootRefused (v.seen disk) (v.failures disk) (v.failures new) why) (only : (es : Releases) → IsImageOf (v.seen disk) es → IsLack why) (stopped : HasStopped v disk (new, why)) where
      -- on a store it is not done for a lack alone
      module _ (p : DiskState) (s : StoreState) (here : (c : List ℕ) → v.may_leave disk c → IsCrashImageOf s c) (moments : (lack : Lack) → LeavesOnly v disk new (StandsForPrefix s.known (booting ∷ [])) → CrashSafeDuring v p (undone lack) disk new) where
        abbrev RepliesThere : Type 0
        RepliesThere = Replied v p (λ a. Transition.BootsStore s a × (a.answer ≡ boot_line why)) old (memory.Idle new)

        module _ (lack : Lack) (lacks : why ≡ lack_error lack) (cause : is_failure lack ≡ true → HasFailed v disk new) where
          undone_to : (q : DiskState) → IsAt v (memory.Idle new) q → IsUndone s lack (boot_undone lack q) → RepliesThere
          undone_to q then right =
              refused_at p q (boot_line why) (undone lack) (Transition.BootsStore s) (moments lack (reached_booting v s disk new (stored_all s here))) then cause
              (subst (λ w. Transition.BootsStore s (reply (boot_line w) (undone lack) q)) (sym lacks) (inr (lack, right)))

          undone_so : KeepsStore v s disk new → RepliesThere
          undone_so (inl all) = undone_to (not_booted s) (λ c now. all.each c (laws.counts_now new (v.moment disk) c all.later now)) (inl refl)
          undone_so (inr k) = undone_to (not_booted (store_with_boot_in_doubt s.known.ran k.events k.extent)) k.now (inr (k.events, k.extent, k.has, refl))

        by_store : RepliesThere
        by_store = go (only (here (v.seen disk) (laws.reads_an_image disk)).list (here (v.seen disk) (laws.reads_an_image disk)).image_of)
          where
            go : IsLack why → RepliesThere
            go (inl failed) = undone_so device_failed failed (λ f. subst (BootRefused (v.seen disk) (v.failures disk) (v.failures new)) failed is) (stored_all s here)
            go (inr wanting) = undone_so memory_refused wanting (λ f. never f) (stored_all s here)

      -- on bytes that nothing is known of
      module _ (bytes : List ℕ) (here : v.seen disk ≡ bytes) where
        abbrev RepliesHere : Type 0
        RepliesHere = Replied v (unknown_bytes bytes) (λ a. Transition.BootsBytes bytes a × (a.answer ≡ boot_line why)) old (memory.Idle new)

        -- the bytes were read alone, where neither was lacking
        read_alone : why ≢ boot_error.Device → why ≢ boot_error.NoMemory → IsQuiet disk new
        read_alone works wants = go stopped
          where
            go : HasStopped v disk (new, why) → IsQuiet disk new
            go (inl failed) = absurd (works failed)
            go (inr (inl read)) = (read.same, read.any_moment)
            go (inr (inr (wanting, booted))) = absurd (wants wanting)

        plainly : (w : BootError) → why ≡ w → w ≢ boot_error.Device → w ≢ boot_error.NoMemory → IsBootRefusal (v.seen disk) w → RepliesHere
        plainly w e works wants reported =
            let (same, read) = read_alone (λ d. works (sym e ∙ d)) (λ d. wants (sym e ∙ d)) in
            refused_at (unknown_bytes bytes) (unknown_bytes bytes) (boot_line why) no_outcome (Transition.BootsBytes bytes) read (same ∙ here) (λ f. never f)
            (inr (inl (why, subst (λ b. IsBootRefusal b why) here (subst (IsBootRefusal (v.seen disk)) (sym e) reported), refl)))

        -- the boot was not done for a lack
        undone_here : (lack : Lack) → why ≡ lack_error lack → IsLeftUndone lack bytes (v.seen new) → (is_failure lack ≡ true → HasFailed v disk new) → RepliesHere
        undone_here lack e left cause = refused_at (unknown_bytes bytes) (unknown_bytes (v.seen new)) (boot_line why) (undone lack) (Transition.BootsBytes bytes) leaves refl cause
            (inr (inr (lack, v.seen new, left, ap (λ w. reply (boot_line w) (undone lack) (unknown_bytes (v.seen new))) e)))

        -- All that a boot writes was written: it had no memory for the processes.
        left_by_boot : (h : NodeStore D) → IsBootedFrom v disk h → new ≡ disk_in h → IsLeftByBoot bytes (v.seen new)
        left_by_boot h b same =
            let (es, image_of, still) = b.image in
            let booted_so = b.list es image_of in
            let now : v.may_leave (disk_in h) (v.seen new) = subst (λ d. v.may_leave d (v.seen new)) same (laws.reads_an_image new) in
            let image = subst (λ l. IsImageWithExtent (v.seen new) l (extent_in h)) booted_so.list (b.acknowledged (v.seen new) now) in
            let started = subst (λ l. IsStarted l (v.seen new)) booted_so.list (b.sound.started b.works (v.seen new) now) in
            subst (λ x. IsLeftByBoot x (v.seen new)) here (record {
              list = es;
              was = image_of;
              left = inr (subst (IsImageWithExtent (v.seen new) (booted es)) booted_so.extent image, inr (record { release = started.release; listed = sym (permanent-of_booted es) ∙ started.listed; spells = started.spells }));
            })

        left_behind : why ≡ boot_error.NoMemory → HasStopped v disk (new, why) → IsLeftUndone memory_refused bytes (v.seen new)
        left_behind e (inl failed) = let lost : boot_error.NoMemory ≡ boot_error.Device = sym e ∙ failed in cc
        left_behind e (inr (inl read)) = inl (read.same ∙ here)
        left_behind e (inr (inr (wanting, (h, b, same)))) = inr (left_by_boot h b same)

        by_bytes : RepliesHere
        by_bytes = go why refl is
          where
            go : (w : BootError) → why ≡ w → BootRefused (v.seen disk) (v.failures disk) (v.failures new) w → RepliesHere
            go boot_error.NotAStore e reported = plainly boot_error.NotAStore e (λ f. cc f) (λ f. cc f) reported
            go (boot_error.Damaged at) e reported = plainly (boot_error.Damaged at) e (λ f. cc f) (λ f. cc f) reported
            go boot_error.Device e reported = undone_here device_failed e tt (λ f. reported)
            go boot_error.NoMemory e reported = undone_here memory_refused e (left_behind e stopped) (λ f. never f)
            go (boot_error.BadRecord i) e reported = plainly (boot_error.BadRecord i) e (λ f. cc f) (λ f. cc f) reported

      boot_refused_at : (p : DiskState) → DiskIsIn v p disk → Replied v p (λ a. Transition.Boots p a × (a.answer ≡ boot_line why)) old (memory.Idle new)
      boot_refused_at (unknown_bytes bytes) here = by_bytes bytes here
      boot_refused_at (not_booted s) here = by_store (not_booted s) s here (λ lack m. m)
      boot_refused_at (running events extent ps) here = by_store (running events extent ps) (store_without_doubt events extent) here (λ lack m. m)
      boot_refused_at (dead s) here = by_store (dead s) s here (λ lack m. m)

      pub boot_refused : (text : List ℕ) (line : Result (String Global) AllocError) → IfOk line (λ whole. string_bytes whole ≡ text ++ boot_line why) → AnswersAfter v text Transition.Boots line old (memory.Idle new)
      boot_refused text line reported = reports Transition.Boots text line _ old (memory.Idle new) reported (λ p at. boot_refused_at p (subst (λ d. DiskIsIn v p d) (sym taken) (held old p at)))

  -- a line as an answer
  pub answers_line : (P : DiskState → Reply → Type 0) (line : Result (String Global) AllocError) (result : Result (String Global) Unanswered) (old new : PlaceInMemory D)
      → MatchResult line (λ text. result ≡ Ok text) (λ _. result ≡ Err unanswered.NoMemory) → AnswersAfter v [] P line old new → Answers v P result old new
  answers_line P (Ok text) result old new is reported = subst (λ r. Answers v P r old new) (sym is) reported
  answers_line P (Err e) result old new is reported = subst (λ r. Answers v P r old new) (sym is) (λ p at. inl (reported p at))

  -- from the place as the call took it
  pub from_there : (P : DiskState → Reply → Type 0) (r : Result (String Global) Unanswered) (old there new : PlaceInMemory D) → old ≡ there → Answers v P r there new → Answers v P r old new
  from_there P r old there new is given = subst (λ o. Answers v P r o new) (sym is) given

  -- A command on the node that runs: P has what it replies there.
  module _ (P : DiskState → Reply → Type 0) (n : BootedNode D) (alive : is_dead n.handler ≡ false) where
    -- A command is refused, and nothing of the node has changed.
    pub refuses_running : (new : BootedNode D) → IsSame n.handler new.handler → processes_in new.processes ≡ processes_in n.processes → (why : HandlerError)
        → ((events : Events) (extent : Extent) (ps : Processes) → P (running events extent ps) (refusal_reply (refusal_of why) (running events extent ps)))
        → Answers v P (Err (unanswered.Refused why)) (memory.Made n) (memory.Made new)
    refuses_running new same kept_on why right p at = stands p at
      where
        stands : (p : DiskState) → IsAt v (memory.Made n) p → Replied v p (λ a. P p a × (a.answer ≡ refusal_line (refusal_of why))) (memory.Made n) (memory.Made new)
        stands (unknown_bytes bytes) at = absurd at
        stands (not_booted s) at = absurd at
        stands (running events extent ps) at =
            stays (running events extent ps) (refusal_line (refusal_of why)) _ (memory.Made n) (memory.Made new) at same.disk (same_at n new (running events extent ps) same kept_on at) (right events extent ps, refl)
        stands (dead s) at = never (sym alive ∙ at.1)

  -- Where no node runs, a command that would change one is refused.
  module _ (P : DiskState → Reply → Type 0) (right : (p : DiskState) → ((events : Events) (extent : Extent) (ps : Processes) → p ≡ running events extent ps → ⊥) → P p (refusal_reply dead_node p)) where
    pub changes_dead : (n : BootedNode D) → is_dead n.handler ≡ true → Answers v P (Err (unanswered.Refused handler_error.Dead)) (memory.Made n) (memory.Made n)
    changes_dead n gone (unknown_bytes bytes) at = absurd at
    changes_dead n gone (not_booted s) at = absurd at
    changes_dead n gone (running events extent ps) at = never (sym at.1 ∙ gone)
    changes_dead n gone (dead s) at = stays (dead s) (refusal_line dead_node) _ (memory.Made n) (memory.Made n) at refl at (right (dead s) (λ es n ps e. cc e), refl)

    pub changes_nowhere : (disk : D) → Answers v P (Err (unanswered.Refused handler_error.Dead)) (memory.Idle disk) (memory.Idle disk)
    changes_nowhere disk (unknown_bytes bytes) at = stays (unknown_bytes bytes) (refusal_line dead_node) _ (memory.Idle disk) (memory.Idle disk) at refl at (right (unknown_bytes bytes) (λ es n ps e. cc e), refl)
    changes_nowhere disk (not_booted s) at = stays (not_booted s) (refusal_line dead_node) _ (memory.Idle disk) (memory.Idle disk) at refl at (right (not_booted s) (λ es n ps e. cc e), refl)
    changes_nowhere disk (running events extent ps) at = absurd at
    changes_nowhere disk (dead s) at = absurd at

  -- where memory is refused before anything was done
  pub changes_no_memory : (P : DiskState → Reply → Type 0) (place : PlaceInMemory D) → Answers v P (Err unanswered.NoMemory) place place
  changes_no_memory P place p at = inr (leaves_all p place place refl at)

  -- A command is refused wherever the disk stands, before the node was asked.
  pub refuses_anywhere : (P : DiskState → Reply → Type 0) (place : PlaceInMemory D) (why : HandlerError)
      → ((p : DiskState) → P p (refusal_reply (refusal_of why) p)) → Answers v P (Err (unanswered.Refused why)) place place
  refuses_anywhere P place why right = λ p at. stays p (refusal_line (refusal_of why)) _ place place at refl at (right p, refl)

  -- `set_unpacked` where no node runs
  idle_sets : (source : Source) (path : List ℕ) (p : DiskState) → ((events : Events) (extent : Extent) (ps : Processes) → p ≡ running events extent ps → ⊥) → Transition.Transition source p (set_unpacked path) (refusal_reply dead_node p)
  idle_sets source path (unknown_bytes bytes) idle = (Transition.refuses dead_node, inl refl, refl)
  idle_sets source path (not_booted s) idle = (Transition.refuses dead_node, inl refl, refl)
  idle_sets source path (running events extent ps) idle = absurd (idle events extent ps refl)
  idle_sets source path (dead s) idle = (Transition.refuses dead_node, inl refl, refl)

  -- Where no node runs, a change of its list is refused as by a dead node, and so are a reboot, an installation and `start`.
  idle_changes : (c : Transition.ListChange) (p : DiskState) → ((events : Events) (extent : Extent) (ps : Processes) → p ≡ running events extent ps → ⊥) → Transition.NodeReplies p (changes_node c) (refusal_reply dead_node p)
  idle_changes c (unknown_bytes bytes) idle = refl
  idle_changes c (not_booted s) idle = refl
  idle_changes c (running events extent ps) idle = absurd (idle events extent ps refl)
  idle_changes c (dead s) idle = refl

  pub idle_reboots : (vsn : List ℕ) (p : DiskState) → ((events : Events) (extent : Extent) (ps : Processes) → p ≡ running events extent ps → ⊥) → Transition.NodeReplies p (reboots_node vsn) (refusal_reply dead_node p)
  idle_reboots vsn (unknown_bytes bytes) idle = refl
  idle_reboots vsn (not_booted s) idle = refl
  idle_reboots vsn (running events extent ps) idle = absurd (idle events extent ps refl)
  idle_reboots vsn (dead s) idle = refl

  pub idle_installs : (vsn : List ℕ) (p : DiskState) → ((events : Events) (extent : Extent) (ps : Processes) → p ≡ running events extent ps → ⊥) → Transition.NodeReplies p (installs vsn) (refusal_reply dead_node p)
  idle_installs vsn (unknown_bytes bytes) idle = refl
  idle_installs vsn (not_booted s) idle = refl
  idle_installs vsn (running events extent ps) idle = absurd (idle events extent ps refl)
  idle_installs vsn (dead s) idle = refl

  -- Where no node runs, an action to which memory may be refused is refused as by a dead node.
  pub idle_acts : (does : Transition.Action) (p : DiskState) → ((events : Events) (extent : Extent) (ps : Processes) → p ≡ running events extent ps → ⊥) → Transition.NodeReplies p does (refusal_reply dead_node p) → ActsOrLacks does p (refusal_reply dead_node p)
  idle_acts does (unknown_bytes bytes) idle is = is
  idle_acts does (not_booted s) idle is = is
  idle_acts does (running events extent ps) idle is = absurd (idle events extent ps refl)
  idle_acts does (dead s) idle is = is

  idle_reports : (p : DiskState) → ((events : Events) (extent : Extent) (ps : Processes) → p ≡ running events extent ps → ⊥) → Transition.NodeReplies p reports_start (refusal_reply dead_node p)
  idle_reports (unknown_bytes bytes) idle = refl
  idle_reports (not_booted s) idle = refl
  idle_reports (running events extent ps) idle = absurd (idle events extent ps refl)
  idle_reports (dead s) idle = refl

  idle_calls : (c : Calls) (p : DiskState) → ((events : Events) (extent : Extent) (ps : Processes) → p ≡ running events extent ps → ⊥) → Transition.NodeReplies p (calls c) (refusal_reply dead_node p)
  idle_calls c (unknown_bytes bytes) idle = refl
  idle_calls c (not_booted s) idle = refl
  idle_calls c (running events extent ps) idle = absurd (idle events extent ps refl)
  idle_calls c (dead s) idle = refl

  idle_reported : (says : Releases → Processes → List ℕ) (p : DiskState) → ((events : Events) (extent : Extent) (ps : Processes) → p ≡ running events extent ps → ⊥) → Transition.NodeReplies p (answers (Transition.answer_of_node says p)) (refusal_reply dead_node p)
  idle_reported says (unknown_bytes bytes) idle = refl
  idle_reported says (not_booted s) idle = refl
  idle_reported says (running events extent ps) idle = absurd (idle events extent ps refl)
  idle_reported says (dead s) idle = refl

  idle_asked : (says : Processes → List ℕ) (p : DiskState) → ((events : Events) (extent : Extent) (ps : Processes) → p ≡ running events extent ps → ⊥) → Transition.NodeReplies p (answers (Transition.processes_answer says p)) (refusal_reply dead_node p)
  idle_asked says p idle = idle_reported (λ list ps. says ps) p idle

  -- Where no node runs, each command that needs one is refused.
  pub idle_needs : (source : Source) (c : Command) → NeedsNode c → (p : DiskState) → ((events : Events) (extent : Extent) (ps : Processes) → p ≡ running events extent ps → ⊥) → Transition.Transition source p c (refusal_reply dead_node p)
  idle_needs source (set_unpacked path) needs p idle = idle_sets source path p idle
  idle_needs source (check vsn) needs p idle = (answers (Transition.answer_of_node (λ list ps. Transition.check_line vsn list) p), inl refl, idle_reported (λ list ps. Transition.check_line vsn list) p idle)
  idle_needs source (permanent vsn) needs p idle = (changes_node (Transition.permanence vsn), inl refl, idle_changes (Transition.permanence vsn) p idle)
  idle_needs source (remove vsn) needs p idle = (changes_node (Transition.removal vsn), inl refl, idle_changes (Transition.removal vsn) p idle)
  idle_needs source start needs p idle = (reports_start, inl refl, idle_reports p idle)
  idle_needs source procs needs p idle = (answers (Transition.processes_answer processes_line p), inl refl, idle_asked processes_line p idle)
  idle_needs source modules needs p idle = (answers (Transition.processes_answer modules_line p), inl refl, idle_asked modules_line p idle)
  idle_needs source (peek app id) needs p idle = (answers (Transition.processes_answer (peek_line app id) p), inl refl, idle_asked (peek_line app id) p idle)
  idle_needs source (call app id input) needs p idle = (calls (once app id input), inl refl, idle_calls (once app id input) p idle)
  idle_needs source (flood app id input times) needs p idle = (calls (often app id input times), inl refl, idle_calls (often app id input times) p idle)
  idle_needs source (file path f) needs p idle = absurd needs
  idle_needs source (create path) needs p idle = absurd needs
  idle_needs source (install vsn) needs p idle = absurd needs
  idle_needs source (reboot_old vsn) needs p idle = absurd needs
  idle_needs source boot needs p idle = absurd needs
  idle_needs source releases needs p idle = absurd needs
  idle_needs source (relup new ups downs) needs p idle = absurd needs
  idle_needs source quit needs p idle = absurd needs
  idle_needs source bad needs p idle = absurd needs
