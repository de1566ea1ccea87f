-- What an answer reports of its command: with the command, its file, the kind of place and whether an installation ends with a
-- restart it determines the events.
use Rattle.std.proofs.Common.{◌≡◌, ◌⊎◌, inl, inr, ℕ, Bool, true, false, List, [], ◌∷◌, ◌++◌, Option, Some, None, Result, Ok, Err, refl, sym, ap, ◌∙◌, subst, append-nil}
use Rattle.std.specs.Prelude.{if◌then◌else◌, ◌==◌, codes, take}
use Rattle.std.specs.Str.{bytes_eq}
use Rattle.rel_list.specs.Releases.{Releases, libraries_at}
use Rattle.rel_list.specs.Event.{Event}
use Rattle.rel_list.specs.Event.Event.{made, installed, restart_installed, reboot_old, boot as booting}
use Rattle.rel_handler.specs.declared.error.BootError.{BootError}
use Rattle.rel_handler.specs.declared.error.BootError.TheVariants as boot_error
use Rattle.node_command.specs.declared.error.HandlerError.{HandlerError}
use Rattle.node_command.specs.declared.error.HandlerError.TheVariants as handler_error
use Rattle.node_store.specs.Events.{Events, StoreState, store_without_doubt, store_with_doubt, store_with_boot_in_doubt}
use Rattle.node_store.specs.Image.{Extent, holds_a_store}
use Rattle.node_command.specs.Files.{bundle_brought, made_size}
use Rattle.node_command.specs.Place.{own_refusal}
use Rattle.rel_handler.specs.Refusals.{IsBootRefusal}
use Rattle.node_command.specs.Taking.{commanded, list_refusal}
use Rattle.rel_list.specs.declared.fault.ListError.{ListError}
use Rattle.rel_list.specs.declared.fault.ListError.TheVariants as list_error
use Rattle.node_command.proofs.CommandLemmas.{IsListAnswer, of_command}
use Rattle.session_input.specs.Commands.{Command}
use Rattle.rel_list.specs.Releases.{Bundle}
use Rattle.rel_unpack.specs.Refusal.{Refusal}
use Rattle.rel_unpack.specs.Refusal.Refusal.{missing_file, bad_file, vsn_mismatch, lib_differs, no_table, too_many, no_memory}
use Rattle.rel_unpack.specs.Unpacking.{Brought}
use Rattle.rel_unpack.specs.Source.{Source, GivesOne}
use Rattle.node_processes.specs.Processes.{Processes}
use Rattle.session_laws.specs.AnswerLaws.{have_restart}
use Rattle.node_answer.specs.Lines.{installed_line}
use Rattle.rel_session.specs.Installation.{store_after_restart}
use Rattle.rel_session.specs.Node.{DiskState, CommandOutcome, Reply, reply, failure_reply, no_outcome, commit_outcome, failure_outcome, releases_after, after_commit, with_text}
use Rattle.rel_session.specs.Node.DiskState.{unknown_bytes, not_booted, running, dead}
use Rattle.node_answer.specs.Refusals.{refusal_of, refusal_for, refusal_line}
use Rattle.rel_session.specs.Booting.{Lack, boot_line, boot_undone, undone}
use Rattle.rel_session.specs.Booting.Lack.{device_failed, memory_refused}
use Rattle.session_laws.proofs.MemoryLines.{each_report}
use Rattle.node_answer.specs.Refusals.NodeRefusal.{device}
use Rattle.rel_session.specs.Transition
use Rattle.rel_session.specs.Transition.Action.{answers, makes_node, changes_node, installs, reboots_node, boots_node, reports_start, calls}
use Rattle.session_laws.proofs.ActionLemmas.{Kind, kind_of, AreReported, one_action, runs_node}
use Rattle.session_laws.proofs.ActionLemmas.Kind.{of_bytes, at_rest, runs, fails}
use Rattle.rel_handler.specs.Installing.{install_size, installation_event}
use Rattle.node_processes.specs.Scripts.{behind_run}
use Rattle.node_upgrade.specs.Stale.{stale_modules}
use Rattle.rel_session.specs.Run.{events_of}
use Rattle.session_laws.proofs.AnswerLines.{IsWhole, installed_whole, one_front}
use Rattle.rel_session.proofs.Contradiction.{never}
use Rattle.session_laws.proofs.InstallationLemmas.{each_reply}
use Rattle.session_laws.proofs.InstallLines.{append_left, done_or_failed, restart_first, reports_ok}

-- what an answer reports: that the command was done, that the device failed, within a boot or not, that memory was refused to a
-- boot, that a script failed after its point of no return, or that nothing was done
data Report : Type 0 where
  it_is_done : Report
  it_failed : Report
  boot_failed : Report
  boot_lacked : Report
  script_broke : Report
  nothing_done : Report

abbrev report_unless_ok : List ℕ → Report
report_unless_ok s =
    if bytes_eq s (refusal_line device) then it_failed
    else if bytes_eq s (boot_line boot_error.Device) then boot_failed
    else if bytes_eq s (boot_line boot_error.NoMemory) then boot_lacked
    else if bytes_eq (take 16 s) (codes "error handler 15") then script_broke
    else nothing_done

abbrev report_of : List ℕ → Report
report_of [] = nothing_done
report_of (x ∷ s) = if x == 111 then it_is_done else report_unless_ok (x ∷ s)

-- the outcome, and the kind of the place after it
pub record Effect : Type 0 where
  pub outcome : CommandOutcome
  pub kind : Kind

abbrev effect : CommandOutcome → Kind → Effect
effect o k = record { outcome = o; kind = k }

abbrev pub effect_of : Reply → Effect
effect_of a = effect a.outcome (kind_of a.after)

-- a release comes into doubt on bytes alone, and where its files aren't refused
abbrev made_in_doubt : Kind → Bundle → Option Refusal → Option Event
made_in_doubt of_bytes p None = Some (made p)
made_in_doubt k p why = None

abbrev created : Kind → Bundle → Option Refusal → Report → Effect
created k p why it_is_done = effect (commit_outcome (made p ∷ booting ∷ [])) runs
created k p why it_failed = effect (failure_outcome (made_in_doubt k p why)) k
created k p why boot_lacked = effect (commit_outcome (made p ∷ booting ∷ [])) at_rest
created k p why t = effect no_outcome k

-- a change is done on a node that runs, and refused on any other
abbrev changed : Kind → Transition.ListChange → Report → Effect
changed runs c it_is_done = effect (commit_outcome (c.event ∷ [])) runs
changed runs c it_failed = effect (failure_outcome (Some c.event)) fails
changed k c t = effect no_outcome k

-- An installation without a restart is done on a node that runs; a script that failed after its point of no return leaves it
-- dead.
abbrev installing : Kind → List ℕ → Report → Effect
installing runs vsn it_is_done = effect (commit_outcome (installed vsn ∷ [])) runs
installing runs vsn it_failed = effect (failure_outcome (Some (installed vsn))) fails
installing runs vsn script_broke = effect no_outcome fails
installing k vsn t = effect no_outcome k

-- a boot that fails leaves bytes as they are, or a store that was not booted
abbrev left : Kind → Kind
left of_bytes = of_bytes
left k = at_rest

abbrev booted : Kind → Report → Effect
booted k it_is_done = effect (commit_outcome (booting ∷ [])) runs
booted k boot_failed = effect (undone device_failed) (left k)
booted k boot_lacked = effect (undone memory_refused) (left k)
booted k t = effect no_outcome k

-- A reboot is done with its boot on a node that runs, or without it, or the device failed in its commit.
abbrev rebooted : Kind → List ℕ → Report → Effect
rebooted runs vsn it_is_done = effect (commit_outcome (reboot_old vsn ∷ booting ∷ [])) runs
rebooted runs vsn it_failed = effect (failure_outcome (Some (reboot_old vsn))) fails
rebooted runs vsn boot_failed = effect (record { acknowledged = reboot_old vsn ∷ []; in_doubt = Some booting; failed = true }) at_rest
rebooted runs vsn boot_lacked = effect (record { acknowledged = reboot_old vsn ∷ []; in_doubt = Some booting; failed = false }) at_rest
rebooted k vsn t = effect no_outcome k

-- the start is reported where a node runs
abbrev reports : Kind → Report → Effect
reports runs it_failed = effect (failure_outcome None) fails
reports k t = effect no_outcome k

-- The reply has the effect that its answer reports.
abbrev HasEffect : (Report → Effect) → Reply → Type 0
HasEffect f a = effect_of a ≡ f (report_of a.answer)

effect_as : (f : Report → Effect) (a b : Reply) → a ≡ b → HasEffect f b → HasEffect f a
effect_as f a b is of = subst (HasEffect f) (sym is) of

-- no list refuses an event for the device
abbrev IsPlainList : Result Releases HandlerError → Type 0
IsPlainList (Ok list) = Unit {0}
IsPlainList (Err why) = report_of (refusal_line (refusal_of why)) ≡ nothing_done

plain_list : (e : Event) (es : Releases) → IsPlainList (commanded e es)
plain_list e es = go (commanded e es) (of_command e es)
  where
    go : (o : Result Releases HandlerError) → IsListAnswer o → IsPlainList o
    go (Ok list) of = tt
    go (Err handler_error.NoSuchRelease) of = refl
    go (Err handler_error.ExistingRelease) of = refl
    go (Err handler_error.AlreadyInstalled) of = refl
    go (Err (handler_error.BadStatus s)) of = refl
    go (Err handler_error.Permanent) of = refl
    go (Err handler_error.Running) of = refl
    go (Err handler_error.TooMany) of = refl
    go (Err handler_error.NoMemory) of = refl
    go (Err (handler_error.LibDiffers app)) of = absurd of
    go (Err (handler_error.NoTable app)) of = absurd of
    go (Err (handler_error.BadFile path trouble)) of = absurd of
    go (Err (handler_error.MissingFile path)) of = absurd of
    go (Err (handler_error.VsnMismatch path)) of = absurd of
    go (Err handler_error.NoMatchingRelup) of = absurd of
    go (Err handler_error.Device) of = absurd of
    go (Err handler_error.Full) of = absurd of
    go (Err handler_error.Dead) of = absurd of
    go (Err handler_error.Exists) of = absurd of

-- Where the list refuses an event, the answer reports that nothing was done.
plain_listed : (why : ListError) → report_of (refusal_line (refusal_of (list_refusal why))) ≡ nothing_done
plain_listed list_error.NoSuchRelease = refl
plain_listed list_error.ExistingRelease = refl
plain_listed list_error.LibDiffers = refl
plain_listed list_error.AlreadyInstalled = refl
plain_listed (list_error.BadStatus s) = refl
plain_listed list_error.Permanent = refl
plain_listed list_error.Running = refl
plain_listed list_error.NoMemory = refl

-- neither are files
plain_files : (why : Refusal) → report_of (refusal_line (refusal_for why)) ≡ nothing_done
plain_files (missing_file path) = refl
plain_files (bad_file path trouble) = refl
plain_files (vsn_mismatch path) = refl
plain_files (lib_differs name) = refl
plain_files (no_table name) = refl
plain_files too_many = refl
plain_files no_memory = refl

-- a commit, by what its answers report
module _ (e : Event) (f : Report → Effect) (stays : f nothing_done ≡ effect no_outcome runs) (doubted : f it_failed ≡ effect (failure_outcome (Some e)) fails) where
  commits : (events : Events) (extent : Extent) (ps : Processes) (size : ℕ) (o : Result Releases HandlerError) (P : Extent → Reply → Type 0) → IsPlainList o → ((x : Extent) (a : Reply) → P x a → HasEffect f a) → (a : Reply)
      → Transition.IsCommit events extent ps e size o P a → HasEffect f a
  commits events extent ps size (Err why) P plain done a is = effect_as f a _ is (sym stays ∙ ap f (sym plain))
  commits events extent ps size (Ok list) P plain done a (inl (fits, inl (x, reach, is))) = done x a is
  commits events extent ps size (Ok list) P plain done a (inl (fits, inr is)) = effect_as f a _ is (sym doubted)
  commits events extent ps size (Ok list) P plain done a (inr (over_it, is)) = effect_as f a _ is (sym stays)

changes : (events : Events) (extent : Extent) (ps : Processes) (c : Transition.ListChange) (l : Releases) (f : Option Refusal) (o : Result Releases HandlerError) → IsPlainList o → (a : Reply) → Transition.RepliesToChange events extent ps c l f o a → HasEffect (changed runs c) a
changes events extent ps c l (Some why) o plain a is = effect_as (changed runs c) a _ is (sym (ap (changed runs c) (plain_files why)))
changes events extent ps c l None o plain a is = commits c.event (changed runs c) refl refl events extent ps (c.size l) o _ plain (λ x a is. effect_as (changed runs c) a _ is refl) a is

-- the boot after a commit
boots_behind : (vsn : List ℕ) (s : StoreState) (a b : Reply) → Transition.BootsStore s b → a ≡ after_commit (reboot_old vsn) b → HasEffect (rebooted runs vsn) a
boots_behind vsn s a b (inl (events, extent, has, (list, after, is))) reported = effect_as (rebooted runs vsn) a _ (reported ∙ ap (after_commit (reboot_old vsn)) is) refl
boots_behind vsn s a b (inr (device_failed, inl is)) reported = effect_as (rebooted runs vsn) a _ (reported ∙ ap (after_commit (reboot_old vsn)) is) refl
boots_behind vsn s a b (inr (device_failed, inr (events, extent, has, is))) reported = effect_as (rebooted runs vsn) a _ (reported ∙ ap (after_commit (reboot_old vsn)) is) refl
boots_behind vsn s a b (inr (memory_refused, inl is)) reported = effect_as (rebooted runs vsn) a _ (reported ∙ ap (after_commit (reboot_old vsn)) is) refl
boots_behind vsn s a b (inr (memory_refused, inr (events, extent, has, is))) reported = effect_as (rebooted runs vsn) a _ (reported ∙ ap (after_commit (reboot_old vsn)) is) refl

reboots : (events : Events) (extent : Extent) (ps : Processes) (vsn : List ℕ) (l : Releases) (o : Result Releases HandlerError) → IsPlainList o → (a : Reply) → Transition.Reboots events extent ps vsn l o a → HasEffect (rebooted runs vsn) a
reboots events extent ps vsn l o plain =
    commits (reboot_old vsn) (rebooted runs vsn) refl refl events extent ps _ o _ plain (λ x a (b, boot, is). boots_behind vsn (Transition.store_after_reboot events x vsn) a b boot is)

-- create
makes_with : (x : List ℕ) (p : Bundle) (size : ℕ) (why : Option Refusal) (a : Reply) → Transition.MakesWith x p size why a → HasEffect (created of_bytes p why) a
makes_with x p size (Some why) a is = effect_as (created of_bytes p (Some why)) a _ is (sym (ap (created of_bytes p (Some why)) (plain_files why)))
makes_with x p size None a (inl (fits, inl is)) = effect_as (created of_bytes p None) a _ is refl
makes_with x p size None a (inl (fits, inr is)) = effect_as (created of_bytes p None) a _ is refl
makes_with x p size None a (inr (over_it, is)) = effect_as (created of_bytes p None) a _ is refl

makes_on : (x : List ℕ) (b : Brought) (there : Bool) (a : Reply) → Transition.MakesOn x b there a → HasEffect (created of_bytes (bundle_brought b) (own_refusal b)) a
makes_on x b true a is = effect_as (created of_bytes (bundle_brought b) (own_refusal b)) a _ is refl
makes_on x b false a is = makes_with x (bundle_brought b) (made_size b) (own_refusal b) a is

makes_fails : (x : List ℕ) (p : Bundle) (why : Option Refusal) (a : Reply) → Transition.FailsToMake x p why a → HasEffect (created of_bytes p why) a
makes_fails x p (Some why) a is = effect_as (created of_bytes p (Some why)) a _ is refl
makes_fails x p None a (torn, kept, is) = effect_as (created of_bytes p None) a _ is refl

makes : (p : DiskState) (b : Brought) (a : Reply) → Transition.MakesNode p b a → HasEffect (created (kind_of p) (bundle_brought b) (own_refusal b)) a
makes (unknown_bytes x) b a (inl is) = makes_on x b (holds_a_store x) a is
makes (unknown_bytes x) b a (inr is) = makes_fails x (bundle_brought b) (own_refusal b) a is
makes (not_booted s) b a (inl is) = effect_as (created at_rest (bundle_brought b) (own_refusal b)) a _ is refl
makes (not_booted s) b a (inr is) = effect_as (created at_rest (bundle_brought b) (own_refusal b)) a _ is refl
makes (running events extent ps) b a is = effect_as (created runs (bundle_brought b) (own_refusal b)) a _ is refl
makes (dead s) b a is = effect_as (created fails (bundle_brought b) (own_refusal b)) a _ is refl

-- a boot that was not done
undone_effect : (k : Kind) (lack : Lack) (q : DiskState) → kind_of q ≡ left k → HasEffect (booted k) (boot_undone lack q)
undone_effect k device_failed q there = ap (effect (undone device_failed)) there
undone_effect k memory_refused q there = ap (effect (undone memory_refused)) there

-- boot
boots_store : (k : Kind) (s : StoreState) (a : Reply) → left k ≡ at_rest → Transition.BootsStore s a → HasEffect (booted k) a
boots_store k s a there (inl (events, extent, has, (list, after, is))) = effect_as (booted k) a _ is refl
boots_store k s a there (inr (lack, inl is)) = effect_as (booted k) a _ is (undone_effect k lack (not_booted s) (sym there))
boots_store k s a there (inr (lack, inr (events, extent, has, is))) = effect_as (booted k) a _ is (undone_effect k lack (not_booted (store_with_boot_in_doubt s.known.ran events extent)) (sym there))

boots_refused : (x : List ℕ) (why : BootError) → IsBootRefusal x why → HasEffect (booted of_bytes) (reply (boot_line why) no_outcome (unknown_bytes x))
boots_refused x boot_error.NotAStore is = refl
boots_refused x (boot_error.Damaged at) is = refl
boots_refused x (boot_error.BadRecord i) is = refl
boots_refused x boot_error.Device is = absurd is
boots_refused x boot_error.NoMemory is = absurd is

boots : (p : DiskState) (a : Reply) → Transition.Boots p a → HasEffect (booted (kind_of p)) a
boots (unknown_bytes x) a (inl (events, list, extent, after, image, (list_then, after_then, is))) = effect_as (booted of_bytes) a _ is refl
boots (unknown_bytes x) a (inr (inl (why, refusal, is))) = effect_as (booted of_bytes) a _ is (boots_refused x why refusal)
boots (unknown_bytes x) a (inr (inr (lack, torn, left_there, is))) = effect_as (booted of_bytes) a _ is (undone_effect of_bytes lack (unknown_bytes torn) refl)
boots (not_booted s) a is = boots_store at_rest s a refl is
boots (running events extent ps) a is = boots_store runs (store_without_doubt events extent) a refl is
boots (dead s) a is = boots_store fails s a refl is

-- the effect of a reply after an event
abbrev effect_behind : Event → Effect → Effect
effect_behind e x =
    effect (record { acknowledged = e ∷ x.outcome.acknowledged; in_doubt = x.outcome.in_doubt; failed = x.outcome.failed }) x.kind

-- An installation has the effect that its answer reports: one with a restart that which the answer of the boot reports.
data HasInstallEffect (k : Kind) (vsn : List ℕ) (a : Reply) : Type 0 where
  without_restart : HasEffect (installing k vsn) a → have_restart (events_of a.outcome) ≡ false → HasInstallEffect k vsn a
  with_restart : (line : List ℕ) (b : Reply) → IsWhole line → ((behind : List ℕ) → reports_ok (line ++ behind) ≡ true) → HasEffect (booted at_rest) b
      → a ≡ with_text line (after_commit (restart_installed vsn) b) → HasInstallEffect k vsn a
  restart_in_doubt : effect_of a ≡ effect (failure_outcome (Some (restart_installed vsn))) fails → a.answer ≡ refusal_line device → have_restart (events_of a.outcome) ≡ true
      → HasInstallEffect k vsn a

not_installed : (k : Kind) (vsn : List ℕ) (a b : Reply) → a ≡ b → HasEffect (installing k vsn) b → have_restart (events_of b.outcome) ≡ false → HasInstallEffect k vsn a
not_installed k vsn a b is has none = subst (HasInstallEffect k vsn) (sym is) (without_restart has none)

install_in_doubt : (vsn : List ℕ) (restarts : Bool) (s : StoreState) → HasInstallEffect runs vsn (failure_reply (Some (installation_event restarts vsn)) (dead s))
install_in_doubt vsn false s = without_restart refl refl
install_in_doubt vsn true s = restart_in_doubt refl refl refl

restarts_with : (a b : Reply) (vsn line : List ℕ) → a ≡ with_text line (after_commit (restart_installed vsn) b) → have_restart (events_of a.outcome) ≡ true
restarts_with a b vsn line is = ap (λ (r : Reply). have_restart (events_of r.outcome)) is ∙ restart_first vsn b.outcome.acknowledged b.outcome.in_doubt

-- Two replies with the same answer, from places of one kind.
same_effect : (f : Report → Effect) (a b : Reply) → HasEffect f a → HasEffect f b → a.answer ≡ b.answer → effect_of a ≡ effect_of b
same_effect f a b is also same = is ∙ ap (λ s. f (report_of s)) same ∙ sym also

same_booted : (a b x y : Reply) (vsn line other : List ℕ) → a ≡ with_text line (after_commit (restart_installed vsn) x) → b ≡ with_text other (after_commit (restart_installed vsn) y) → effect_of x ≡ effect_of y → effect_of a ≡ effect_of b
same_booted a b x y vsn line other is also same = ap effect_of is ∙ ap (effect_behind (restart_installed vsn)) same ∙ sym (ap effect_of also)

-- Two installations with the same answer have the same effect, both with a restart or both without.
same_install : (k : Kind) (vsn : List ℕ) (a b : Reply) → HasInstallEffect k vsn a → HasInstallEffect k vsn b → have_restart (events_of a.outcome) ≡ have_restart (events_of b.outcome) → a.answer ≡ b.answer → effect_of a ≡ effect_of b
same_install k vsn a b (without_restart has none) (without_restart has_too none_too) alike same = same_effect (installing k vsn) a b has has_too same
same_install k vsn a b (with_restart line x whole ok has is) (with_restart other y whole_too ok_too has_too also) alike same =
    let all : line ++ x.answer ≡ other ++ y.answer = sym (ap (λ (r : Reply). r.answer) is) ∙ same ∙ ap (λ (r : Reply). r.answer) also in
    let lines = one_front line other whole whole_too x.answer y.answer all in
    let answers_same = append_left other x.answer y.answer (ap (λ t. t ++ x.answer) (sym lines) ∙ all) in
    same_booted a b x y vsn line other is also (same_effect (booted at_rest) x y has has_too answers_same)
same_install k vsn a b (restart_in_doubt has reported one) (restart_in_doubt has_too reported_too one_too) alike same = has ∙ sym has_too
same_install k vsn a b (with_restart line x whole ok has is) (restart_in_doubt has_too reported_too one_too) alike same =
    done_or_failed line x.answer [] ok (sym (ap (λ (r : Reply). r.answer) is) ∙ same ∙ reported_too ∙ sym (append-nil (refusal_line device)))
same_install k vsn a b (restart_in_doubt has reported one) (with_restart line x whole ok has_too is) alike same =
    done_or_failed line x.answer [] ok (sym (ap (λ (r : Reply). r.answer) is) ∙ sym same ∙ reported ∙ sym (append-nil (refusal_line device)))
same_install k vsn a b (without_restart has none) (with_restart line x whole ok has_too is) alike same = never (sym none ∙ alike ∙ restarts_with b x vsn line is)
same_install k vsn a b (without_restart has none) (restart_in_doubt has_too reported_too one_too) alike same = never (sym none ∙ alike ∙ one_too)
same_install k vsn a b (with_restart line x whole ok has is) (without_restart has_too none_too) alike same = never (sym none_too ∙ sym alike ∙ restarts_with a x vsn line is)
same_install k vsn a b (restart_in_doubt has reported one) (without_restart has_too none_too) alike same = never (sym none_too ∙ sym alike ∙ one)

-- What reports that something was done is no report that nothing was.
not_done : {T : Type 0} (answer : List ℕ) → report_of answer ≡ nothing_done → reports_ok answer ≡ true → T
not_done [] none ok = never ok
not_done (x ∷ s) none ok =
    let lost : it_is_done ≡ nothing_done = ap (λ (b : Bool). if b then it_is_done else report_unless_ok (x ∷ s)) (sym ok) ∙ none in
    absurd cc

-- one that does nothing
idle : (a b x y : Reply) → a ≡ x → b ≡ y → effect_of x ≡ effect_of y → effect_of a ≡ effect_of b
idle a b x y is also same = ap effect_of is ∙ same ∙ sym (ap effect_of also)

-- an action but an installation has the effect that its answer reports
abbrev acted : Kind → Transition.Action → Report → Effect
acted k (answers text) t = effect no_outcome k
acted k (makes_node b) t = created k (bundle_brought b) (own_refusal b) t
acted k (changes_node c) t = changed k c t
acted k (installs vsn) t = effect no_outcome k
acted k (reboots_node vsn) t = rebooted k vsn t
acted k boots_node t = booted k t
acted k reports_start t = reports k t
acted k (calls c) t = effect no_outcome k

abbrev HasEffectOf : Kind → Transition.Action → Reply → Type 0
HasEffectOf k (installs vsn) a = HasInstallEffect k vsn a
HasEffectOf k does a = HasEffect (acted k does) a

acts : (p : DiskState) (does : Transition.Action) (a : Reply) → Transition.NodeReplies p does a → HasEffectOf (kind_of p) does a
acts p (answers text) a is = effect_as (acted (kind_of p) (answers text)) a _ is refl
acts p (makes_node found) a is = makes p found a is
acts (running events extent ps) (changes_node c) a is = changes events extent ps c (releases_after events) (c.files (releases_after events)) (commanded c.event (releases_after events)) (plain_list c.event (releases_after events)) a is
acts (unknown_bytes x) (changes_node c) a is = effect_as (changed of_bytes c) a _ is refl
acts (not_booted s) (changes_node c) a is = effect_as (changed at_rest c) a _ is refl
acts (dead s) (changes_node c) a is = effect_as (changed fails c) a _ is refl
acts (running events extent ps) (installs vsn) a is =
    each_reply (HasInstallEffect runs vsn) events extent ps vsn (releases_after events) (record {
      listed = λ why. without_restart (sym (ap (installing runs vsn) (plain_listed why))) refl;
      unmatched = without_restart refl refl;
      not_run = λ f. without_restart refl refl;
      over_full = without_restart refl refl;
      broken = λ f. without_restart refl refl;
      done_so = λ f r reach found comes. without_restart refl refl;
      restarted_so = λ f r reach b found comes boot.
          let stale = stale_modules (behind_run r).modules (libraries_at vsn (releases_after events)) in
          with_restart (installed_line f stale) b (installed_whole f.other f.descr stale) (λ more. refl) (boots_store at_rest (store_after_restart events reach vsn) b refl boot) refl;
      doubted_so = λ f restarts found. install_in_doubt vsn restarts (store_with_doubt events extent (installation_event restarts vsn) (install_size vsn (releases_after events)));
    }) a is
acts (unknown_bytes x) (installs vsn) a is = not_installed of_bytes vsn a _ is refl refl
acts (not_booted s) (installs vsn) a is = not_installed at_rest vsn a _ is refl refl
acts (dead s) (installs vsn) a is = not_installed fails vsn a _ is refl refl
acts (running events extent ps) (reboots_node vsn) a is = reboots events extent ps vsn (releases_after events) (commanded (reboot_old vsn) (releases_after events)) (plain_list (reboot_old vsn) (releases_after events)) a is
acts (unknown_bytes x) (reboots_node vsn) a is = effect_as (rebooted of_bytes vsn) a _ is refl
acts (not_booted s) (reboots_node vsn) a is = effect_as (rebooted at_rest vsn) a _ is refl
acts (dead s) (reboots_node vsn) a is = effect_as (rebooted fails vsn) a _ is refl
acts p boots_node a is = boots p a is
acts (running events extent ps) reports_start a (inl is) = effect_as (reports runs) a _ is refl
acts (running events extent ps) reports_start a (inr is) = effect_as (reports runs) a _ is refl
acts (unknown_bytes x) reports_start a is = effect_as (reports of_bytes) a _ is refl
acts (not_booted s) reports_start a is = effect_as (reports at_rest) a _ is refl
acts (dead s) reports_start a is = effect_as (reports fails) a _ is refl
acts (running events extent ps) (calls c) a is = effect_as (acted runs (calls c)) a _ is refl
acts (unknown_bytes x) (calls c) a is = effect_as (acted of_bytes (calls c)) a _ is refl
acts (not_booted s) (calls c) a is = effect_as (acted at_rest (calls c)) a _ is refl
acts (dead s) (calls c) a is = effect_as (acted fails (calls c)) a _ is refl

-- Two replies to one action with the same answer, from places of one kind.
same_effects : (k : Kind) (does : Transition.Action) (a b : Reply) → HasEffectOf k does a → HasEffectOf k does b → have_restart (events_of a.outcome) ≡ have_restart (events_of b.outcome) → a.answer ≡ b.answer → effect_of a ≡ effect_of b
same_effects k (installs vsn) a b is also alike same = same_install k vsn a b is also alike same
same_effects k (answers text) a b is also alike same = same_effect (acted k (answers text)) a b is also same
same_effects k (makes_node found) a b is also alike same = same_effect (acted k (makes_node found)) a b is also same
same_effects k (changes_node c) a b is also alike same = same_effect (acted k (changes_node c)) a b is also same
same_effects k (reboots_node vsn) a b is also alike same = same_effect (acted k (reboots_node vsn)) a b is also same
same_effects k boots_node a b is also alike same = same_effect (acted k boots_node) a b is also same
same_effects k reports_start a b is also alike same = same_effect (acted k reports_start) a b is also same
same_effects k (calls c) a b is also alike same = same_effect (acted k (calls c)) a b is also same

-- The line that reports that memory was refused to a call reports that nothing was done.
report_nothing : (p : DiskState) (c : Command) (line : List ℕ) → Transition.memory_report_at p c ≡ Some line → report_of line ≡ nothing_done
report_nothing = each_report (λ line. report_of line ≡ nothing_done) refl refl

-- A reply with that answer has done nothing, whatever its action.
did_nothing : (k : Kind) (does : Transition.Action) (a : Reply) → HasEffectOf k does a → report_of a.answer ≡ nothing_done → effect_of a ≡ effect no_outcome k
did_nothing k (answers text) a is none = is
did_nothing k (makes_node b) a is none = is ∙ ap (created k (bundle_brought b) (own_refusal b)) none
did_nothing of_bytes (changes_node c) a is none = is ∙ ap (changed of_bytes c) none
did_nothing at_rest (changes_node c) a is none = is ∙ ap (changed at_rest c) none
did_nothing runs (changes_node c) a is none = is ∙ ap (changed runs c) none
did_nothing fails (changes_node c) a is none = is ∙ ap (changed fails c) none
did_nothing of_bytes (installs vsn) a (without_restart is plain) none = is ∙ ap (installing of_bytes vsn) none
did_nothing at_rest (installs vsn) a (without_restart is plain) none = is ∙ ap (installing at_rest vsn) none
did_nothing runs (installs vsn) a (without_restart is plain) none = is ∙ ap (installing runs vsn) none
did_nothing fails (installs vsn) a (without_restart is plain) none = is ∙ ap (installing fails vsn) none
did_nothing k (installs vsn) a (with_restart line b whole ok has is) none =
    not_done a.answer none (ap (λ (r : Reply). reports_ok r.answer) is ∙ ok b.answer)
did_nothing k (installs vsn) a (restart_in_doubt has reported one) none = let lost : it_failed ≡ nothing_done = ap report_of (sym reported) ∙ none in absurd cc
did_nothing of_bytes (reboots_node vsn) a is none = is ∙ ap (rebooted of_bytes vsn) none
did_nothing at_rest (reboots_node vsn) a is none = is ∙ ap (rebooted at_rest vsn) none
did_nothing runs (reboots_node vsn) a is none = is ∙ ap (rebooted runs vsn) none
did_nothing fails (reboots_node vsn) a is none = is ∙ ap (rebooted fails vsn) none
did_nothing k boots_node a is none = is ∙ ap (booted k) none
did_nothing of_bytes reports_start a is none = is ∙ ap (reports of_bytes) none
did_nothing at_rest reports_start a is none = is ∙ ap (reports at_rest) none
did_nothing runs reports_start a is none = is ∙ ap (reports runs) none
did_nothing fails reports_start a is none = is ∙ ap (reports fails) none
did_nothing k (calls c) a is none = is

pub one_effect : (source : Source) → GivesOne source → (p q : DiskState) (c : Command) (a b : Reply) → kind_of p ≡ kind_of q → have_restart (events_of a.outcome) ≡ have_restart (events_of b.outcome) → a.answer ≡ b.answer
    → Transition.Transition source p c a → Transition.Transition source q c b → effect_of a ≡ effect_of b
one_effect source one p q c a b kinds alike same (x, inl comes, is) (y, inl comes_too, also) = go (one_action source one p q c x y (ap runs_node kinds) comes comes_too)
  where
    go : (x ≡ y) ⊎ AreReported p q x y → effect_of a ≡ effect_of b
    go (inl one) =
        same_effects (kind_of p) x a b (acts p x a is)
        (subst (λ k. HasEffectOf k x b) (sym kinds) (subst (λ z. HasEffectOf (kind_of q) z b) (sym one) (acts q y b also))) alike same
    go (inr (says, here, here_too)) =
        idle a b _ _ (subst (λ z. Transition.NodeReplies p z a) here is) (subst (λ z. Transition.NodeReplies q z b) here_too also) (ap (effect no_outcome) kinds)
one_effect source one p q c a b kinds alike same (x, inr (line, reports_it, answered), is) (y, comes_too, also) =
    let here = subst (λ z. Transition.NodeReplies p z a) answered is in
    let none = ap report_of (sym same ∙ ap (λ (r : Reply). r.answer) here) ∙ report_nothing p c line reports_it in
    ap effect_of here ∙ ap (effect no_outcome) kinds ∙ sym (did_nothing (kind_of q) y b (acts q y b also) none)
one_effect source one p q c a b kinds alike same (x, inl comes, is) (y, inr (line, reports_it, answered), also) =
    let there = subst (λ z. Transition.NodeReplies q z b) answered also in
    let none = ap report_of (same ∙ ap (λ (r : Reply). r.answer) there) ∙ report_nothing q c line reports_it in
    did_nothing (kind_of p) x a (acts p x a is) none ∙ ap (effect no_outcome) kinds ∙ sym (ap effect_of there)
