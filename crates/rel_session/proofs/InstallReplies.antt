-- What an installation replies, as the handler's clauses give it.
use Rattle.std.proofs.Common.{◌≡◌, ◌≢◌, ◌⊎◌, inl, inr, ℕ, true, false, List, [], ◌∷◌, ◌++◌, None, Some, Result, Ok, Err, refl, sym, ap, ◌∙◌, subst}
use Rattle.std.specs.Prelude.{String, string_bytes, IfErr, IfOk, IsOk, MatchResult, OnOk, is_ok}
use Rattle.std.specs.declared.alloc.AllocError.{AllocError}
use Rattle.std.specs.declared.alloc.Global.{Global}
use Rattle.erl_term.specs.Value.{value_of}
use Rattle.rel_list.specs.Releases.{Releases, libraries_at}
use Rattle.rel_list.specs.Event.{Event, list_after}
use Rattle.rel_list.specs.Event.Event.{installed, restart_installed}
use Rattle.held_processes.specs.Following.{HoldsNothing}
use Rattle.relup_exec.specs.Alone.{Outcome, outcome}
use Rattle.relup_exec.specs.Alone.Outcome.{ends, refuses, breaks}
use Rattle.relup_exec.specs.Outcome.{IsBroken, IsFinished}
use Rattle.script_progress.specs.Fault.{Cause}
use Rattle.script_progress.specs.Fault.Cause.{no_library, no_module, not_fetched, no_table, no_change, raised, in_use, no_app, no_slot, unsupported, no_super, no_memory}
use Rattle.script_progress.specs.Script.{Run}
use Rattle.loaded_modules.specs.Loaded.{listed_in}
use Rattle.node_command.specs.Installing.{installation}
use Rattle.node_command.specs.declared.error.HandlerError.{HandlerError}
use Rattle.node_command.specs.declared.error.HandlerError.TheVariants as handler_error
use Rattle.node_command.proofs.CommandLemmas.{commanded_step}
use Rattle.node_processes.specs.InMemory.{processes_in, AreSound}
use Rattle.node_processes.specs.Processes.{Processes}
use Rattle.node_processes.specs.Scripts.{behind_run, run_on}
use Rattle.node_processes.proofs.ScriptLemmas.{script_ends, script_refuses, script_breaks, untouched_values}
use Rattle.node_upgrade.specs.declared.error.InstallError.{InstallError}
use Rattle.node_upgrade.specs.declared.error.InstallError.TheVariants as install_error
use Rattle.node_upgrade.specs.declared.error.ScriptFailure.{ScriptFailure}
use Rattle.node_upgrade.specs.declared.upgrade.Installed.{Installed}
use Rattle.node_upgrade.specs.Failure.{failure, failure_of}
use Rattle.node_upgrade.specs.Failure.Why.{fails}
use Rattle.node_upgrade.specs.Running.{start_in, RunRefused}
use Rattle.node_upgrade.specs.Stale.{stale_modules}
use Rattle.node_upgrade.specs.Upgrade.{IsNoUpgrade, IsUpgrade, UpgradeForm, site_for}
use Rattle.node_store.specs.Commits.{Commits, IsDone}
use Rattle.node_store.specs.Events.{Events, store_without_doubt, store_with_doubt, log_without_doubt, IsCrashImageOf}
use Rattle.node_store.specs.Image.{Extent, extent_after, HasSpace}
use Rattle.node_store.specs.Compaction.{MayReach}
use Rattle.rel_handler.specs.Installing.{InstallRefused, IsInstalledBy, IsLost, MayBegin, NothingChanged, install_event, install_room, install_size, installation_event, needs_restart}
use Rattle.node_store.specs.State.{disk_in, list_in, is_dead, extent_in, HasStarted}
use Rattle.rel_session.specs.declared.booted_node.BootedNode.{BootedNode}
use Rattle.rel_session.specs.declared.place.Place.TheVariants as memory
use Rattle.rel_session.specs.Device.{Device, LeavesOnly, HasFailed}
use Rattle.rel_session.specs.Booting.{Boots, BootsStore, store_behind}
use Rattle.rel_session.specs.InMemory.{ActsOrLacks, state_in, HasInstalled, IsAt, Replied, Answers, AnswersAction, AnswersAfter, EndsUnanswered, ReportsInstallation}
use Rattle.rel_session.specs.declared.unanswered.Unanswered.{Unanswered}
use Rattle.rel_session.specs.declared.unanswered.Unanswered.TheVariants as unanswered
use Rattle.node_answer.specs.Lines.{installed_line, installed_text}
use Rattle.rel_session.specs.Installation.{RunsUnless, Installs, IsInstallationReply, RepliesTo, installed_reply, restarted_reply, upgrade_outcome}
use Rattle.rel_session.specs.Node.{DiskState, Reply, refusal_reply, failure_reply, after_commit, releases_after, list_or_none, with_text}
use Rattle.rel_session.specs.Node.DiskState.{unknown_bytes, not_booted, running, dead}
use Rattle.rel_session.specs.declared.place.Place.{Place as PlaceInMemory}
use Rattle.node_answer.specs.Refusals.{NodeRefusal, refusal_of, refusal_line}
use Rattle.node_answer.specs.Refusals.NodeRefusal.{device, full, script_refused, must_reboot}
use Rattle.rel_session.specs.Run.{DiskIsIn, StandsForPrefix}
use Rattle.rel_session.specs.Transition.Action.{installs}
use Rattle.rel_session.proofs.BootsBehind.{boots_behind, boots_unanswered, reaches_there}
use Rattle.rel_session.proofs.Contradiction.{never}
use Rattle.rel_session.proofs.ExtentLemmas.{reach_at}
use Rattle.rel_session.proofs.DeviceLemmas.{IsDevice, weakened, still}
use Rattle.rel_session.proofs.ListLemmas.{list_after-push}
use Rattle.rel_session.proofs.Prefixes.{reached_with}
use Rattle.rel_session.proofs.Replies.{moments_of_nothing, refuses_running, runs_at, same_at, stays}

-- memory was refused, or a script failed for something else
memory_or_not : (c : Cause) → (c ≡ no_memory) ⊎ (c ≢ no_memory)
memory_or_not no_library = inr (λ e. cc e)
memory_or_not no_module = inr (λ e. cc e)
memory_or_not not_fetched = inr (λ e. cc e)
memory_or_not no_table = inr (λ e. cc e)
memory_or_not no_change = inr (λ e. cc e)
memory_or_not (raised x) = inr (λ e. cc e)
memory_or_not in_use = inr (λ e. cc e)
memory_or_not no_app = inr (λ e. cc e)
memory_or_not no_slot = inr (λ e. cc e)
memory_or_not unsupported = inr (λ e. cc e)
memory_or_not no_super = inr (λ e. cc e)
memory_or_not no_memory = inl refl

module _ {D : Type 0} (v : Device D) (laws : IsDevice v) (vsn : List ℕ) (n new : BootedNode D) (alive : is_dead n.handler ≡ false) (sound : AreSound n.processes)
    (commits : Commits v (install_event vsn (list_in n.handler)) (install_size vsn (list_in n.handler)) n.handler new.handler) where
  abbrev es : Releases
  es = list_in n.handler

  abbrev ps : Processes
  ps = processes_in n.processes

  abbrev e : Event
  e = install_event vsn es

  abbrev size : ℕ
  size = install_size vsn es

  abbrev room : ℕ
  room = install_room vsn es

  abbrev Does : DiskState → Reply → Type 0
  Does = ActsOrLacks (installs vsn)

  -- what is replied by the list, of these events
  right_for : (events : Events) (extent : Extent) (a : Reply) → list_after events ≡ Some es → Installs events extent ps vsn es (installation vsn es) a
      → Does (running events extent ps) a
  right_for events extent a after is =
      let of_list : releases_after events ≡ es = ap list_or_none after in
      inl (subst (λ l. Installs events extent ps vsn l (installation vsn l) a) (sym of_list) is)

  -- at each place where the node may be
  where_it_runs : (P : DiskState → Type 0) → ((events : Events) (extent : Extent) → IsAt v (memory.Made n) (running events extent ps) → P (running events extent ps)) → (p : DiskState) → IsAt v (memory.Made n) p → P p
  where_it_runs P there (unknown_bytes bytes) at = absurd at
  where_it_runs P there (not_booted s) at = absurd at
  where_it_runs P there (running events extent qs) (here, living, after, stop, has) = subst (λ q. P (running events extent q)) has (there events extent (here, living, after, stop, refl))
  where_it_runs P there (dead s) at = never (sym alive ∙ at.1)

  -- A line that reports what was done, or memory was refused for it.
  abbrev ReportsLine : List ℕ → Result (String Global) Unanswered → Type 0
  ReportsLine line (Ok text) = string_bytes text ≡ line
  ReportsLine line (Err why) = why ≡ unanswered.NoMemory

  abbrev RepliesAt : List ℕ → DiskState → Type 0
  RepliesAt line p = Replied v p (λ a. Does p a × (a.answer ≡ line)) (memory.Made n) (memory.Made new)

  abbrev Replies : List ℕ → Type 0
  Replies line = (p : DiskState) → IsAt v (memory.Made n) p → RepliesAt line p

  concludes : (line : List ℕ) (result : Result (String Global) Unanswered) → ReportsLine line result → Replies line → Answers v Does result (memory.Made n) (memory.Made new)
  concludes line (Ok text) reported replies = λ p at.
      let r = replies p at in
      record { given = r.given; right = (r.right.0, r.right.1 ∙ sym reported); at = r.at; happens = r.happens }
  concludes line (Err why) reported replies = subst (λ w. Answers v Does (Err w) (memory.Made n) (memory.Made new)) (sym reported) (λ p at.
      let r = replies p at in
      inl (record { given = r.given; right = r.right.0; happens = r.happens }))

  moments_at : (events : Events) → list_after events ≡ Some es → LeavesOnly v (disk_in n.handler) (disk_in new.handler) (StandsForPrefix (log_without_doubt events) (e ∷ []))
  moments_at events after = weakened v (disk_in n.handler) (disk_in new.handler) _ _ (reached_with events (extent_in n.handler) e size) (commits.any_moment alive events after)

  -- a script that may begin, and what comes of it on these processes
  comes_to : (u : UpgradeForm) → IsUpgrade vsn es u → (o : Outcome) → outcome (site_for u ps.modules) (run_on (site_for u ps.modules) ps) u.found.script ≡ o → upgrade_outcome vsn es u.found ps ≡ o
  comes_to u is o comes = subst (λ (w : UpgradeForm). outcome (site_for w ps.modules) (run_on (site_for w ps.modules) ps) u.found.script ≡ o) is.is comes

  begins_so : (u : UpgradeForm) → IsUpgrade vsn es u → (events : Events) (extent : Extent) (a : Reply) → RunsUnless events extent ps vsn es u.found None a
      → Installs events extent ps vsn es (installation vsn es) a
  begins_so u is events extent a begins =
      subst (λ o. Installs events extent ps vsn es o a) (sym is.found) (subst (λ o. RunsUnless events extent ps vsn es u.found o a) (sym is.begins) begins)

  leads_so : (u : UpgradeForm) → IsUpgrade vsn es u → (events : Events) (extent : Extent) (a : Reply) (o : Outcome) → HasSpace extent room → upgrade_outcome vsn es u.found ps ≡ o
      → RepliesTo events extent ps vsn es u.found o a → Installs events extent ps vsn es (installation vsn es) a
  leads_so u is events extent a o fits comes leads = begins_so u is events extent a (inl (fits, inl (subst (λ w. RepliesTo events extent ps vsn es u.found w a) (sym comes) leads)))

  -- the release was installed
  abbrev line_of : Installed → List ℕ
  line_of i = installed_text (string_bytes i.other) (value_of i.descr) i.stale.items

  module _ (i : Installed) (is_done : IsDone v e size n.handler new.handler) (fits : HasSpace (extent_in n.handler) room) (by_script : IsInstalledBy vsn es (state_in n) i (state_in new)) where
    abbrev u : UpgradeForm
    u = by_script.0

    -- what came of its script
    carried_out : (r : Run) × (upgrade_outcome vsn es u.found ps ≡ ends r) × (behind_run r ≡ processes_in new.processes)
    carried_out =
        let (r, comes, behind) =
        script_ends (site_for u ps.modules) n.processes.seat.view n.processes.tree ps.modules u.found.script (listed_in new.processes.loaded) new.processes.tree new.processes.seat.view sound.alone by_script.2.finished in
        (r, comes_to u by_script.1 (ends r) comes, behind)

    abbrev r : Run
    r = carried_out.0

    -- the line that reports it
    line_is : installed_line u.found (stale_modules (behind_run r).modules (libraries_at vsn es)) ≡ line_of i
    line_is =
        let target_is : u.target ≡ libraries_at vsn es = ap (λ (w : UpgradeForm). w.target) by_script.1.is in
        let stale : stale_modules (behind_run r).modules (libraries_at vsn es) ≡ i.stale.items =
        ap (λ (q : Processes). stale_modules q.modules (libraries_at vsn es)) carried_out.2 ∙ ap (stale_modules (listed_in new.processes.loaded)) (sym target_is) ∙ sym by_script.2.stale in
        (λ j. installed_text (sym by_script.2.other j) (sym by_script.2.descr j) (stale j))

    -- what is replied after the commit
    done_so : (events : Events) (extent : Extent) (a : Reply) → IsAt v (memory.Made n) (running events extent ps) → MayReach (extent_after extent size) (releases_after (events ++ e ∷ [])) (extent_in new.handler)
        → IsInstallationReply (needs_restart vsn es) events (extent_in new.handler) vsn es u.found (behind_run r) a → Does (running events extent ps) a
    done_so events extent a at reach is =
        right_for events extent a at.2 (leads_so u by_script.1 events extent a (ends r) (subst (λ m. HasSpace m room) at.3 fits) carried_out.1 (inl (extent_in new.handler, reach, is)))

    -- The node works on.
    done_replies : is_dead new.handler ≡ false → needs_restart vsn es ≡ false → Replies (line_of i)
    done_replies works no_restart = where_it_runs (RepliesAt (line_of i)) there
      where
        e_is : e ≡ installed vsn
        e_is = ap (λ b. installation_event b vsn) no_restart

        there : (events : Events) (extent : Extent) → IsAt v (memory.Made n) (running events extent ps) → RepliesAt (line_of i) (running events extent ps)
        there events extent at =
            let x = extent_in new.handler in
            let after : list_after (events ++ e ∷ []) ≡ Some (list_in new.handler) = list_after-push events e es (list_in new.handler) at.2 (commanded_step e es (list_in new.handler) is_done.accepted) in
            let reach = reach_at (extent_in n.handler) extent x size (list_in new.handler) (releases_after (events ++ e ∷ [])) at.3 (ap list_or_none after) is_done.reaches in
            let a = installed_reply events x vsn es u.found (behind_run r) in
            let place = runs_at v laws new (events ++ installed vsn ∷ []) x (behind_run r) works (subst (λ f. list_after (events ++ f ∷ []) ≡ Some (list_in new.handler)) e_is after) refl is_done.acknowledged
            (commits.sound.started works) (sym carried_out.2) in
            record {
              given = a;
              right = (done_so events extent a at reach (subst (λ b. IsInstallationReply b events x vsn es u.found (behind_run r) a) (sym no_restart) refl), line_is);
              at = place;
              happens = record {
                moments = subst (λ f. LeavesOnly v (disk_in n.handler) (disk_in new.handler) (StandsForPrefix (log_without_doubt events) (f ∷ []))) e_is (moments_at events at.2);
                holds = place.0;
                cause = λ f. never f;
                counted = commits.counted;
              };
            }

    -- The node has to boot: its reply is that of the boot, after that of the installation.
    module _ (gone : is_dead new.handler ≡ true) (started : HasStarted v.may_leave new.handler) (restart : needs_restart vsn es ≡ true) where
      restart_is : e ≡ restart_installed vsn
      restart_is = ap (λ b. installation_event b vsn) restart

      -- the processes are those of the node
      here_so : (qs : Processes) (P : Processes → Type 0) → processes_in n.processes ≡ qs → P ps → P qs
      here_so qs P has there = subst P has there

      reaches : (events : Events) (extent : Extent) (qs : Processes) → IsAt v (memory.Made n) (running events extent qs) → MayReach (extent_after extent size) (releases_after (events ++ e ∷ [])) (extent_in new.handler)
      reaches = reaches_there v laws e size n new alive commits is_done gone started

      -- the reply with the boot after it
      acts_then : (events : Events) (extent : Extent) (qs : Processes) → IsAt v (memory.Made n) (running events extent qs) → (b : Reply) → BootsStore (store_behind events e (extent_in new.handler)) b
          → Does (running events extent qs) (with_text (line_of i) (after_commit e b))
      acts_then events extent qs (here, living, after, stop, has) b boot =
          let x = extent_in new.handler in
          let at : IsAt v (memory.Made n) (running events extent ps) = (here, living, after, stop, refl) in
          let reported : with_text (line_of i) (after_commit e b) ≡ restarted_reply vsn es u.found (behind_run r) b = (λ j. with_text (sym line_is j) (after_commit (restart_is j) b)) in
          let is : IsInstallationReply true events x vsn es u.found (behind_run r) (with_text (line_of i) (after_commit e b)) = (b, subst (λ f. BootsStore (store_behind events f x) b) restart_is boot, reported) in
          here_so qs (λ q. Does (running events extent q) (with_text (line_of i) (after_commit e b))) has
          (done_so events extent _ at (reaches events extent ps at) (subst (λ c. IsInstallationReply c events x vsn es u.found (behind_run r) (with_text (line_of i) (after_commit e b))) (sym restart) is))

      -- the boot was done, or refused
      pub restarts_so : (final : PlaceInMemory D) (boot : Result (String Global) AllocError) (result : Result (String Global) Unanswered) → MatchResult boot (λ text. result ≡ Ok text) (λ _. result ≡ Err unanswered.NoMemory)
          → AnswersAfter v (line_of i) Boots boot (memory.Made new) final → AnswersAction v (installs vsn) result (memory.Made n) final
      restarts_so = boots_behind v laws e size n new alive commits is_done gone started (line_of i) Does acts_then

      -- memory was refused to its own line
      pub restarts_unanswered : (final : PlaceInMemory D) (text : List ℕ) (boot : Result (String Global) AllocError) → AnswersAfter v text Boots boot (memory.Made new) final
          → EndsUnanswered v Does (memory.Made n) final
      restarts_unanswered = boots_unanswered v laws e size n new alive commits is_done gone started (line_of i) Does acts_then

  -- the script was carried out, and the device failed after it
  device_replies : (u : UpgradeForm) → MayBegin vsn n.handler u → IsFinished (site_for u ps.modules) (start_in (state_in n)) u.found.script (listed_in new.processes.loaded) new.processes.tree new.processes.seat.view
      → HasFailed v (disk_in n.handler) (disk_in new.handler) → is_dead new.handler ≡ true → Replies (refusal_line device)
  device_replies u (is, fits) finished cause gone = where_it_runs (RepliesAt (refusal_line device)) there
    where
      there : (events : Events) (extent : Extent) → IsAt v (memory.Made n) (running events extent ps) → RepliesAt (refusal_line device) (running events extent ps)
      there events extent (here, living, after, stop, has) =
          let (r, comes, behind) =
          script_ends (site_for u ps.modules) n.processes.seat.view n.processes.tree ps.modules u.found.script (listed_in new.processes.loaded) new.processes.tree new.processes.seat.view sound.alone finished in
          let s = store_with_doubt events extent e size in
          let a = failure_reply (Some e) (dead s) in
          let leaves = subst (λ m. LeavesOnly v (disk_in n.handler) (disk_in new.handler) (IsCrashImageOf (store_with_doubt events m e size))) stop (commits.any_moment alive events after) in
          let holds : DiskIsIn v (dead s) (disk_in new.handler) = λ c now. leaves.each c (laws.counts_now (disk_in new.handler) (v.moment (disk_in n.handler)) c leaves.later now) in
          record {
            given = a;
            right = (right_for events extent a after (leads_so u is events extent a (ends r) (subst (λ m. HasSpace m room) stop fits) (comes_to u is (ends r) comes) (inr refl)), refl);
            at = (holds, gone);
            happens = record { moments = moments_at events after; holds = holds; cause = λ f. cause; counted = commits.counted };
          }

  -- An instruction failed after the point of no return: the disk is as it was, and the node is dead.
  still_there : IsLost n.handler new.handler → LeavesOnly v (disk_in n.handler) (disk_in new.handler) (v.may_leave (disk_in n.handler))
  still_there lost = subst (λ d. LeavesOnly v (disk_in n.handler) d (v.may_leave (disk_in n.handler))) (sym lost.disk) (still v laws (disk_in n.handler))

  broken_replies : (f : ScriptFailure) (u : UpgradeForm) → MayBegin vsn n.handler u → RunRefused u (state_in n) (state_in new) (install_error.MustReboot f) → IsLost n.handler new.handler
      → Replies (refusal_line (must_reboot (failure_of f)))
  broken_replies f u (is, fits) (c, reported, broke) lost =
      where_it_runs (RepliesAt (refusal_line (must_reboot (failure_of f)))) (there broke.broken)
    where
      there : IsBroken (site_for u ps.modules) (start_in (state_in n)) u.found.script f.instr c new.processes.seat.view
          → (events : Events) (extent : Extent) → IsAt v (memory.Made n) (running events extent ps) → RepliesAt (refusal_line (must_reboot (failure_of f))) (running events extent ps)
      there broken events extent (here, living, after, stop, has) =
          let a = refusal_reply (must_reboot (failure f.instr (fails c))) (dead (store_without_doubt events extent)) in
          let holds : DiskIsIn v (dead (store_without_doubt events extent)) (disk_in new.handler) = subst (λ d. DiskIsIn v (dead (store_without_doubt events extent)) d) (sym lost.disk) here in
          record {
            given = a;
            right = (right_for events extent a after (by_cause (memory_or_not c)), ap (λ g. refusal_line (must_reboot g)) (sym reported));
            at = (holds, lost.dead);
            happens = record {
              moments = moments_of_nothing v laws (running events extent ps) (disk_in n.handler) (disk_in new.handler) here (still_there lost);
              holds = holds;
              cause = λ f. never f;
              counted = commits.counted;
            };
          }
        where
          fits_there : HasSpace extent room
          fits_there = subst (λ m. HasSpace m room) stop fits

          by_cause : (c ≡ no_memory) ⊎ (c ≢ no_memory) → Installs events extent ps vsn es (installation vsn es) (refusal_reply (must_reboot (failure f.instr (fails c))) (dead (store_without_doubt events extent)))
          by_cause (inl memory) =
              begins_so u is events extent _ (inl (fits_there, inr (f.instr, (broken.front, broken.instruction, broken.at, broken.late), ap (λ d. refusal_reply (must_reboot (failure f.instr (fails d))) (dead (store_without_doubt events extent))) memory)))
          by_cause (inr known) =
              let comes = script_breaks (site_for u ps.modules) n.processes.seat.view n.processes.tree ps.modules u.found.script f.instr c new.processes.seat.view sound.alone known broken in
              leads_so u is events extent _ (breaks f.instr c) fits_there (comes_to u is (breaks f.instr c) comes) refl

  -- Nothing has changed.
  module _ (nothing_new : NothingChanged n.handler new.handler (state_in n) (state_in new)) where
    kept_on : processes_in new.processes ≡ processes_in n.processes
    kept_on =
        let (same, untouched) = nothing_new in
        let values = untouched_values n.processes.seat.view new.processes.seat.view sound.alone untouched.view in
        (λ j. record { values = values j; apps = untouched.apps j; modules = untouched.modules j })

    same_replies : (why : NodeRefusal) → ((events : Events) (extent : Extent) → extent_in n.handler ≡ extent → Installs events extent ps vsn es (installation vsn es) (refusal_reply why (running events extent ps))) → Replies (refusal_line why)
    same_replies why right = where_it_runs (RepliesAt (refusal_line why)) there
      where
        there : (events : Events) (extent : Extent) → IsAt v (memory.Made n) (running events extent ps) → RepliesAt (refusal_line why) (running events extent ps)
        there events extent at =
            stays v laws (running events extent ps) (refusal_line why) _ (memory.Made n) (memory.Made new) at nothing_new.0.disk (same_at v laws n new (running events extent ps) nothing_new.0 kept_on at)
            (right_for events extent _ at.2 (right events extent at.3), refl)

    by_list : (why : HandlerError) → installation vsn es ≡ Err why → Answers v Does (Err (unanswered.Refused why)) (memory.Made n) (memory.Made new)
    by_list why found p at = same_replies (refusal_of why) (λ events extent stop. subst (λ o. Installs events extent ps vsn es o (refusal_reply (refusal_of why) (running events extent ps))) (sym found) refl) p at

    full_replies : (u : UpgradeForm) → IsUpgrade vsn es u → (HasSpace (extent_in n.handler) room → ⊥) → Replies (refusal_line full)
    full_replies u is over = same_replies full (λ events extent stop. begins_so u is events extent _ (inr (subst (λ m. HasSpace m room → ⊥) stop over, refl)))

    -- the script isn't run
    not_begun : (f : ScriptFailure) → IsNoUpgrade vsn es (install_error.Refused f) → Replies (refusal_line (script_refused (failure_of f)))
    not_begun f (found, is, why) =
        same_replies (script_refused (failure_of f)) (λ events extent stop.
        subst (λ o. Installs events extent ps vsn es o (refusal_reply (script_refused (failure_of f)) (running events extent ps))) (sym is)
        (subst (λ o. RunsUnless events extent ps vsn es found o (refusal_reply (script_refused (failure_of f)) (running events extent ps))) (sym why) refl))

    -- an instruction before the point fails
    turned_back : (f : ScriptFailure) (u : UpgradeForm) → MayBegin vsn n.handler u → RunRefused u (state_in n) (state_in new) (install_error.Refused f) → Replies (refusal_line (script_refused (failure_of f)))
    turned_back f u (is, fits) (c, known, reported, refused_so, untouched) =
        let comes = script_refuses (site_for u ps.modules) n.processes.seat.view n.processes.tree ps.modules u.found.script f.instr c new.processes.seat.view sound.alone known refused_so in
        same_replies (script_refused (failure_of f)) (λ events extent stop.
        leads_so u is events extent _ (refuses f.instr c) (subst (λ m. HasSpace m room) stop fits) (comes_to u is (refuses f.instr c) comes)
        (ap (λ g. refusal_reply (script_refused g) (running events extent ps)) reported))

  -- what the handler refused
  command_refused : (why : HandlerError) → InstallRefused v.failures vsn n.handler new.handler (state_in n) (state_in new) (install_error.Command why) → Answers v Does (Err (unanswered.Refused why)) (memory.Made n) (memory.Made new)
  command_refused handler_error.Dead (gone, same) = never (sym alive ∙ gone)
  command_refused handler_error.Full (living, (u, is), over, same) = λ p at. full_replies same u is over p at
  command_refused handler_error.NoMemory (living, lacks, same) = refuses_running v laws Does n alive new same.0 (kept_on same) handler_error.NoMemory (λ events extent qs. inr refl)
  command_refused handler_error.Device (living, (u, may, finished), cause, gone) = λ p at. device_replies u may finished cause gone p at
  command_refused handler_error.NoSuchRelease (living, found, same) = by_list same handler_error.NoSuchRelease found
  command_refused handler_error.ExistingRelease (living, found, same) = by_list same handler_error.ExistingRelease found
  command_refused handler_error.AlreadyInstalled (living, found, same) = by_list same handler_error.AlreadyInstalled found
  command_refused (handler_error.BadStatus s) (living, found, same) = by_list same (handler_error.BadStatus s) found
  command_refused handler_error.Permanent (living, found, same) = by_list same handler_error.Permanent found
  command_refused handler_error.Running (living, found, same) = by_list same handler_error.Running found
  command_refused (handler_error.LibDiffers app) (living, found, same) = by_list same (handler_error.LibDiffers app) found
  command_refused (handler_error.BadFile path trouble) (living, found, same) = by_list same (handler_error.BadFile path trouble) found
  command_refused (handler_error.MissingFile path) (living, found, same) = by_list same (handler_error.MissingFile path) found
  command_refused (handler_error.VsnMismatch path) (living, found, same) = by_list same (handler_error.VsnMismatch path) found
  command_refused (handler_error.NoTable name) (living, found, same) = by_list same (handler_error.NoTable name) found
  command_refused handler_error.TooMany (living, found, same) = by_list same handler_error.TooMany found
  command_refused handler_error.NoMatchingRelup (living, found, same) = by_list same handler_error.NoMatchingRelup found
  command_refused handler_error.Exists (living, found, same) = by_list same handler_error.Exists found

  script_refused_so : (f : ScriptFailure) → InstallRefused v.failures vsn n.handler new.handler (state_in n) (state_in new) (install_error.Refused f) → Replies (refusal_line (script_refused (failure_of f)))
  script_refused_so f (living, inl none, same) = not_begun same f none
  script_refused_so f (living, inr (u, may, why), same) = turned_back same f u may why

  -- What is reported of an installation is one of its replies, where the node has not to boot.
  pub answers_install : (done : Result Installed InstallError) (result : Result (String Global) Unanswered) → ReportsInstallation done result → OnOk done (is_dead new.handler ≡ false)
      → IfOk done (HasInstalled v vsn n new) → IfErr done (InstallRefused v.failures vsn n.handler new.handler (state_in n) (state_in new)) → Answers v Does result (memory.Made n) (memory.Made new)
  answers_install (Ok i) (Ok text) reported works of refused_so = concludes (line_of i) (Ok text) reported (done_replies i of.is_done of.fits of.by_script works (sym of.restarts ∙ works))
  answers_install (Ok i) (Err why) reported works of refused_so = concludes (line_of i) (Err why) reported (done_replies i of.is_done of.fits of.by_script works (sym of.restarts ∙ works))
  answers_install (Err (install_error.Command why)) result reported works of refused_so =
      subst (λ r. Answers v Does r (memory.Made n) (memory.Made new)) (sym reported) (command_refused why refused_so)
  answers_install (Err (install_error.Refused f)) (Ok text) reported works of refused_so = concludes (refusal_line (script_refused (failure_of f))) (Ok text) reported (script_refused_so f refused_so)
  answers_install (Err (install_error.Refused f)) (Err why) reported works of refused_so = concludes (refusal_line (script_refused (failure_of f))) (Err why) reported (script_refused_so f refused_so)
  answers_install (Err (install_error.MustReboot f)) (Ok text) reported works of (living, (u, may, why), lost) =
      concludes (refusal_line (must_reboot (failure_of f))) (Ok text) reported (broken_replies f u may why lost)
  answers_install (Err (install_error.MustReboot f)) (Err why) reported works of (living, (u, may, so), lost) =
      concludes (refusal_line (must_reboot (failure_of f))) (Err why) reported (broken_replies f u may so lost)

  -- Where it has, it boots after the line that reports the installation.
  pub answers_restart : (done : Result Installed InstallError) (line : String Global) → ReportsInstallation done (Ok line) → IsOk done → is_dead new.handler ≡ true → IfOk done (HasInstalled v vsn n new)
      → (final : PlaceInMemory D) (boot : Result (String Global) AllocError) (result : Result (String Global) Unanswered) → MatchResult boot (λ text. result ≡ Ok text) (λ _. result ≡ Err unanswered.NoMemory)
      → AnswersAfter v (string_bytes line) Boots boot (memory.Made new) final → AnswersAction v (installs vsn) result (memory.Made n) final
  answers_restart (Ok i) line reported ok gone of final boot result is booted =
      restarts_so i of.is_done of.fits of.by_script gone of.started (sym of.restarts ∙ gone) final boot result is (subst (λ l. AnswersAfter v l Boots boot (memory.Made new) final) reported booted)
  answers_restart (Err error) line reported ok gone of final boot result is booted = never ok

  -- Where memory was refused to that line, it boots all the same.
  pub answers_unreported : (done : Result Installed InstallError) (why : Unanswered) → ReportsInstallation done (Err why) → IsOk done → is_dead new.handler ≡ true → IfOk done (HasInstalled v vsn n new)
      → (final : PlaceInMemory D) (text : List ℕ) (boot : Result (String Global) AllocError) → AnswersAfter v text Boots boot (memory.Made new) final → AnswersAction v (installs vsn) (Err why) (memory.Made n) final
  answers_unreported (Ok i) why reported ok gone of final text boot booted =
      subst (λ w. AnswersAction v (installs vsn) (Err w) (memory.Made n) final) (sym reported) (restarts_unanswered i of.is_done of.fits of.by_script gone of.started (sym of.restarts ∙ gone) final text boot booted)
  answers_unreported (Err error) why reported ok gone of final text boot booted = never ok

-- What is so anyway is so where it was done; and where it wasn't, nothing is owed.
pub on_done : (done : Result Installed InstallError) (P : Type 0) → P → OnOk done P
on_done (Ok i) P p = p
on_done (Err error) P p = tt

pub on_undone : (done : Result Installed InstallError) (P : Type 0) → is_ok done ≡ false → OnOk done P
on_undone (Ok i) P undone = never (sym undone)
on_undone (Err error) P undone = tt

-- What an installation that was done is, as the handler's clauses report it.
pub has_installed : {D : Type 0} (v : Device D) (vsn : List ℕ) (n new : BootedNode D) (done : Result Installed InstallError) → OnOk done (is_dead new.handler ≡ needs_restart vsn (list_in n.handler))
    → OnOk done (IsDone v (install_event vsn (list_in n.handler)) (install_size vsn (list_in n.handler)) n.handler new.handler) → OnOk done (HasSpace (extent_in n.handler) (install_room vsn (list_in n.handler)))
    → OnOk done (HasStarted v.may_leave new.handler) → IfOk done (λ i. IsInstalledBy vsn (list_in n.handler) (state_in n) i (state_in new)) → IfOk done (HasInstalled v vsn n new)
has_installed v vsn n new (Ok i) restarts is_done fits started by_script = record { restarts = restarts; is_done = is_done; fits = fits; started = started; by_script = by_script }
has_installed v vsn n new (Err error) restarts is_done fits started by_script = tt

-- The processes are sound after it.
pub sound_behind : {D : Type 0} (n new : BootedNode D) → AreSound n.processes → new.processes.table ≡ n.processes.table → new.processes.seat.table ≡ n.processes.seat.table → new.processes.seat.view.lent ≡ n.processes.seat.view.lent
    → HoldsNothing new.processes.seat.view → AreSound new.processes
sound_behind n new sound table seat lent free = record { table = seat ∙ sound.table ∙ sym table; alone = lent ∙ sound.alone; free = free }
