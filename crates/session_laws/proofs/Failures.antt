-- What a failure of the device is reported as, and that nothing else leaves a doubt.
use Rattle.std.proofs.Common.{◌≡◌, ◌⊎◌, inl, inr, ℕ, ◌≤◌, Bool, true, false, List, [], ◌∷◌, Option, Some, None, Result, Ok, Err, refl, sym, ◌∙◌, subst, arith}
use Rattle.rel_list.specs.Releases.{Releases, libraries_at}
use Rattle.rel_list.specs.Event.{Event}
use Rattle.rel_list.specs.Event.Event.{boot as booting, reboot_old as rebooting}
use Rattle.node_command.specs.declared.error.HandlerError.{HandlerError}
use Rattle.rel_handler.specs.declared.error.BootError.TheVariants as boot_error
use Rattle.rel_session.specs.Booting.{Lack, boot_undone}
use Rattle.rel_session.specs.Booting.Lack.{device_failed, memory_refused}
use Rattle.node_store.specs.Events.{Events, StoreState, store_without_doubt, store_with_boot_in_doubt}
use Rattle.node_store.specs.Image.{Extent, holds_a_store}
use Rattle.node_command.specs.Files.{bundle_brought, made_size}
use Rattle.node_command.specs.Place.{own_refusal}
use Rattle.node_command.specs.Taking.{commanded}
use Rattle.session_input.specs.Commands.{Command}
use Rattle.rel_session.specs.Device.{Device, HasFailed}
use Rattle.rel_list.specs.Releases.{Bundle}
use Rattle.rel_unpack.specs.Refusal.{Refusal}
use Rattle.rel_unpack.specs.Unpacking.{Brought}
use Rattle.rel_unpack.specs.Source.{Source}
use Rattle.rel_session.specs.Files.{files_behind, source_of}
use Rattle.node_processes.specs.Processes.{Processes}
use Rattle.node_processes.specs.Scripts.{behind_run}
use Rattle.node_upgrade.specs.Stale.{stale_modules}
use Rattle.relup_file.specs.Search.{FoundForm}
use Rattle.rel_session.specs.Installation.{store_after_restart, restarted_reply}
use Rattle.rel_session.specs.Node.{DiskState, Reply, releases_after}
use Rattle.rel_session.specs.Node.DiskState.{unknown_bytes, not_booted, running, dead}
use Rattle.rel_session.specs.Run.{CommandsRun}
use Rattle.session_laws.specs.AnswerLaws.{DoubtsBoot, FailsOnlyWithTheDevice, ReportsBoot, ReportsDoubt, ReportsFailure}
use Rattle.rel_session.specs.Transition
use Rattle.rel_session.specs.Transition.Action.{answers, makes_node, changes_node, installs, reboots_node, boots_node, reports_start, calls}
use Rattle.session_laws.proofs.AcknowledgedEvents.{first_answered}
use Rattle.rel_session.proofs.DeviceLemmas.{failed_first, failed_behind}
use Rattle.session_laws.proofs.InstallationLemmas.{each_reply}

-- Nothing is in doubt, or the device failed and that is reported; or a boot is, which had no memory and reports that.
abbrev IsPlain : Reply → Type 0
IsPlain a =
    (a.outcome.in_doubt ≡ None) ⊎ (((a.outcome.failed ≡ true) × ReportsFailure a.answer) ⊎ ((a.outcome.failed ≡ false) × DoubtsBoot a))

plain : (a b : Reply) → a ≡ b → IsPlain b → IsPlain a
plain a b is of = subst IsPlain (sym is) of

commits : (events : Events) (extent : Extent) (ps : Processes) (e : Event) (size : ℕ) (o : Result Releases HandlerError) (P : Extent → Reply → Type 0) → ((x : Extent) (a : Reply) → P x a → IsPlain a) → (a : Reply) → Transition.IsCommit events extent ps e size o P a → IsPlain a
commits events extent ps e size (Err why) P done a is = plain a _ is (inl refl)
commits events extent ps e size (Ok list) P done a (inl (fits, inl (x, reach, is))) = done x a is
commits events extent ps e size (Ok list) P done a (inl (fits, inr is)) = plain a _ is (inr (inl (refl, inl refl)))
commits events extent ps e size (Ok list) P done a (inr (over, is)) = plain a _ is (inl refl)

changes : (events : Events) (extent : Extent) (ps : Processes) (c : Transition.ListChange) (l : Releases) (f : Option Refusal) (o : Result Releases HandlerError) (a : Reply) → Transition.RepliesToChange events extent ps c l f o a → IsPlain a
changes events extent ps c l (Some why) o a is = plain a _ is (inl refl)
changes events extent ps c l None o a is = commits events extent ps c.event (c.size l) o _ (λ x a is. plain a _ is (inl refl)) a is

makes_with : (bytes : List ℕ) (p : Bundle) (size : ℕ) (why : Option Refusal) (a : Reply) → Transition.MakesWith bytes p size why a → IsPlain a
makes_with bytes p size (Some why) a is = plain a _ is (inl refl)
makes_with bytes p size None a (inl (fits, inl is)) = plain a _ is (inl refl)
makes_with bytes p size None a (inl (fits, inr is)) = plain a _ is (inl refl)
makes_with bytes p size None a (inr (over, is)) = plain a _ is (inl refl)

makes_on : (bytes : List ℕ) (b : Brought) (there : Bool) (a : Reply) → Transition.MakesOn bytes b there a → IsPlain a
makes_on bytes b true a is = plain a _ is (inl refl)
makes_on bytes b false a is = makes_with bytes (bundle_brought b) (made_size b) (own_refusal b) a is

makes_fails : (bytes : List ℕ) (p : Bundle) (why : Option Refusal) (a : Reply) → Transition.FailsToMake bytes p why a → IsPlain a
makes_fails bytes p (Some why) a is = plain a _ is (inl refl)
makes_fails bytes p None a (torn, kept, is) = plain a _ is (inr (inl (refl, inl refl)))

makes : (p : DiskState) (found : Brought) (a : Reply) → Transition.MakesNode p found a → IsPlain a
makes (unknown_bytes bytes) found a (inl is) = makes_on bytes found (holds_a_store bytes) a is
makes (unknown_bytes bytes) found a (inr is) = makes_fails bytes (bundle_brought found) (own_refusal found) a is
makes (not_booted s) found a (inl is) = plain a _ is (inl refl)
makes (not_booted s) found a (inr is) = plain a _ is (inl refl)
makes (running events extent ps) found a is = plain a _ is (inl refl)
makes (dead s) found a is = plain a _ is (inl refl)

-- a boot that was not done
undone_plain : (lack : Lack) (q : DiskState) → IsPlain (boot_undone lack q)
undone_plain device_failed q = inr (inl (refl, inr (inl refl)))
undone_plain memory_refused q = inr (inr (refl, (refl, inl refl)))

boots_store : (s : StoreState) (a : Reply) → Transition.BootsStore s a → IsPlain a
boots_store s a (inl (events, extent, has, (list, after, is))) = plain a _ is (inl refl)
boots_store s a (inr (lack, inl is)) = plain a _ is (undone_plain lack (not_booted s))
boots_store s a (inr (lack, inr (events, extent, has, is))) = plain a _ is (undone_plain lack (not_booted (store_with_boot_in_doubt s.known.ran events extent)))

-- a boot after an installation
undone_behind : (vsn : List ℕ) (list : Releases) (f : FoundForm) (ps : Processes) (lack : Lack) (q : DiskState) → IsPlain (restarted_reply vsn list f ps (boot_undone lack q))
undone_behind vsn list f ps device_failed q = inr (inl (refl, inr (inr (f.other, f.descr, stale_modules ps.modules (libraries_at vsn list), refl))))
undone_behind vsn list f ps memory_refused q = inr (inr (refl, (refl, inr (f.other, f.descr, stale_modules ps.modules (libraries_at vsn list), refl))))

restarts : (vsn : List ℕ) (list : Releases) (f : FoundForm) (ps : Processes) (s : StoreState) (b : Reply) → Transition.BootsStore s b → IsPlain (restarted_reply vsn list f ps b)
restarts vsn list f ps s b (inl (events, extent, has, (then, after, is))) = subst (λ (t : Reply). IsPlain (restarted_reply vsn list f ps t)) (sym is) (inl refl)
restarts vsn list f ps s b (inr (lack, inl is)) = subst (λ (t : Reply). IsPlain (restarted_reply vsn list f ps t)) (sym is) (undone_behind vsn list f ps lack (not_booted s))
restarts vsn list f ps s b (inr (lack, inr (events, extent, has, is))) =
    subst (λ (t : Reply). IsPlain (restarted_reply vsn list f ps t)) (sym is) (undone_behind vsn list f ps lack (not_booted (store_with_boot_in_doubt s.known.ran events extent)))

reboots : (events : Events) (extent : Extent) (ps : Processes) (vsn : List ℕ) (l : Releases) (o : Result Releases HandlerError) (a : Reply) → Transition.Reboots events extent ps vsn l o a → IsPlain a
reboots events extent ps vsn l o = commits events extent ps (rebooting vsn) _ o _ (λ x a (b, boot, is). plain a _ is (boots_store (Transition.store_after_reboot events x vsn) b boot))

boots : (p : DiskState) (a : Reply) → Transition.Boots p a → IsPlain a
boots (unknown_bytes bytes) a (inl (events, list, extent, after, image, (list_then, after_then, is))) = plain a _ is (inl refl)
boots (unknown_bytes bytes) a (inr (inl (why, reported, is))) = plain a _ is (inl refl)
boots (unknown_bytes bytes) a (inr (inr (lack, torn, left, is))) = plain a _ is (undone_plain lack (unknown_bytes torn))
boots (not_booted s) a is = boots_store s a is
boots (running events extent ps) a is = boots_store (store_without_doubt events extent) a is
boots (dead s) a is = boots_store s a is

acts : (p : DiskState) (does : Transition.Action) (a : Reply) → Transition.NodeReplies p does a → IsPlain a
acts p (answers text) a is = plain a _ is (inl refl)
acts p (makes_node found) a is = makes p found a is
acts (unknown_bytes bytes) (changes_node c) a is = plain a _ is (inl refl)
acts (not_booted s) (changes_node c) a is = plain a _ is (inl refl)
acts (running events extent ps) (changes_node c) a is = changes events extent ps c (releases_after events) (c.files (releases_after events)) (commanded c.event (releases_after events)) a is
acts (dead s) (changes_node c) a is = plain a _ is (inl refl)
acts (running events extent ps) (installs vsn) a is =
    each_reply IsPlain events extent ps vsn (releases_after events) (record {
      listed = λ why. inl refl;
      unmatched = inl refl;
      not_run = λ f. inl refl;
      over_full = inl refl;
      broken = λ f. inl refl;
      done_so = λ f r reach found comes. inl refl;
      restarted_so = λ f r reach b found comes boot. restarts vsn (releases_after events) f (behind_run r) (store_after_restart events reach vsn) b boot;
      doubted_so = λ f restart found. inr (inl (refl, inl refl));
    }) a is
acts (unknown_bytes bytes) (installs vsn) a is = plain a _ is (inl refl)
acts (not_booted s) (installs vsn) a is = plain a _ is (inl refl)
acts (dead s) (installs vsn) a is = plain a _ is (inl refl)
acts (running events extent ps) (reboots_node vsn) a is = reboots events extent ps vsn (releases_after events) (commanded (rebooting vsn) (releases_after events)) a is
acts (unknown_bytes bytes) (reboots_node vsn) a is = plain a _ is (inl refl)
acts (not_booted s) (reboots_node vsn) a is = plain a _ is (inl refl)
acts (dead s) (reboots_node vsn) a is = plain a _ is (inl refl)
acts p boots_node a is = boots p a is
acts (running events extent ps) reports_start a (inl is) = plain a _ is (inl refl)
acts (running events extent ps) reports_start a (inr is) = plain a _ is (inl refl)
acts (unknown_bytes bytes) reports_start a is = plain a _ is (inl refl)
acts (not_booted s) reports_start a is = plain a _ is (inl refl)
acts (dead s) reports_start a is = plain a _ is (inl refl)
acts (running events extent ps) (calls c) a is = plain a _ is (inl refl)
acts (unknown_bytes bytes) (calls c) a is = plain a _ is (inl refl)
acts (not_booted s) (calls c) a is = plain a _ is (inl refl)
acts (dead s) (calls c) a is = plain a _ is (inl refl)

is_plain : (source : Source) (p : DiskState) (c : Command) (a : Reply) → Transition.Transition source p c a → IsPlain a
is_plain source p c a (does, comes, is) = acts p does a is

same_event : (e f : Event) → Some e ≡ Some f → e ≡ f
same_event e f is = cc is

pub reports_doubt : (source : Source) → ReportsDoubt source
reports_doubt source p c a e is doubt = go (is_plain source p c a is)
  where
    go : IsPlain a → ((a.outcome.failed ≡ true) × ReportsFailure a.answer) ⊎ ((e ≡ booting) × (a.outcome.failed ≡ false) × ReportsBoot boot_error.NoMemory a.answer)
    go (inl none) = let lost : Some e ≡ None = sym doubt ∙ none in absurd cc
    go (inr (inl reported)) = inl reported
    go (inr (inr (works, (own, reported)))) = inr (same_event e booting (sym doubt ∙ own), works, reported)

-- a reply in which the device does not fail leaves nothing in doubt but a boot that had no memory
pub no_doubt : (source : Source) (p : DiskState) (c : Command) (a : Reply) → Transition.Transition source p c a → a.outcome.failed ≡ false → (a.outcome.in_doubt ≡ None) ⊎ DoubtsBoot a
no_doubt source p c a is works = go (is_plain source p c a is)
  where
    go : IsPlain a → (a.outcome.in_doubt ≡ None) ⊎ DoubtsBoot a
    go (inl none) = inl none
    go (inr (inl (failed, reported))) = let lost : true ≡ false = sym failed ∙ works in absurd cc
    go (inr (inr (plainly, lacks))) = inr lacks

-- the device failed in it or not
works : (b : Bool) (P : Type 0) → (b ≡ true → P) → (P → ⊥) → b ≡ false
works true P cause never = absurd (never (cause refl))
works false P cause never = refl

module _ {D : Type 0} (v : Device D) where
  rises : (p : DiskState) (replies : List Reply) (old new : D) → CommandsRun v p replies old new → v.failures old ≤ v.failures new
  rises p [] old new (leaves, then, counted) = counted
  rises p (a ∷ more) old new (mid, happens, leads) = omega (arith, happens.counted, rises a.after more mid new leads)

  pub fails_only_with_the_device : (base : Source) → FailsOnlyWithTheDevice v base
  fails_only_with_the_device base files p commands ending [] old new right leads never = (tt, tt)
  fails_only_with_the_device base files p commands ending (a ∷ more) old new right (mid, happens, leads) never =
      let n = first_answered base files p commands ending a more right in
      let counted = rises a.after more mid new leads in
      let worked = works a.outcome.failed (HasFailed v old mid) happens.cause (λ failed. never (failed_first v old mid new counted failed)) in
      let (fail, doubt) = fails_only_with_the_device base (files_behind files n.command) a.after n.rest ending more mid new n.right leads (λ failed. never (failed_behind v old mid new happens.counted counted failed)) in
      ((worked, fail), (no_doubt (source_of base files) p n.command a n.is worked, doubt))
