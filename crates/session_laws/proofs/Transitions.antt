-- What each reply does to the acknowledged events.
use Rattle.std.proofs.Common.{◌≡◌, ◌≢◌, ◌⊎◌, inl, inr, ⊎_elim, ℕ, Bool, true, false, List, [], ◌∷◌, ◌++◌, Option, None, Some, Result, Ok, Err, refl, sym, ap, ◌∙◌, subst, append-nil, append_assoc}
use Rattle.rel_list.specs.Releases.{Releases, libraries_at}
use Rattle.rel_list.specs.Event.{Event}
use Rattle.rel_list.specs.Event.Event.{restart_installed, reboot_old as rebooting, boot as booting}
use Rattle.node_command.specs.declared.error.HandlerError.{HandlerError}
use Rattle.node_store.specs.Events.{EventLog, Events, StoreState, BeginWith, MayHoldEvents, log_without_doubt, store_without_doubt, with_doubt, store_with_boot_in_doubt}
use Rattle.node_store.specs.Image.{Extent, holds_a_store}
use Rattle.node_store.proofs.Beginnings.{with_themselves, with_first, with_one_more}
use Rattle.node_command.specs.Files.{bundle_brought, made_size}
use Rattle.node_command.specs.Place.{own_refusal}
use Rattle.node_command.specs.Taking.{commanded}
use Rattle.session_input.specs.Commands.{Command}
use Rattle.rel_list.specs.Releases.{Bundle}
use Rattle.rel_unpack.specs.Refusal.{Refusal}
use Rattle.rel_unpack.specs.Unpacking.{Brought}
use Rattle.rel_unpack.specs.Source.{Source}
use Rattle.node_processes.specs.Processes.{Processes}
use Rattle.node_processes.specs.Scripts.{behind_run}
use Rattle.node_upgrade.specs.Stale.{stale_modules}
use Rattle.relup_file.specs.Search.{FoundForm}
use Rattle.node_answer.specs.Lines.{installed_line}
use Rattle.rel_session.specs.Installation.{store_after_restart, restarted_reply}
use Rattle.rel_session.specs.Node.{DiskState, Reply, reply, no_outcome, releases_after, after_commit, with_text}
use Rattle.rel_session.specs.Node.DiskState.{unknown_bytes, not_booted, running, dead}
use Rattle.rel_session.specs.Booting.{is_failure}
use Rattle.session_laws.specs.RunLaws.{MayBeEventsOf, known_at, acknowledged_at, ran_at, IsKnown, IsSettled, StartsFromEvents, ReplyKeepsEvents}
use Rattle.rel_session.specs.Transition
use Rattle.rel_session.specs.Transition.Action.{answers, makes_node, changes_node, installs, reboots_node, boots_node, reports_start, calls}
use Rattle.session_laws.proofs.InstallationLemmas.{each_reply}

same_known : (p : DiskState) (es : Events) → es ≡ [] → IsKnown p ⊎ (es ≢ []) → IsKnown p
same_known p es none (inl known) = known
same_known p es none (inr some) = absurd (some none)

found_there : (p : DiskState) → StartsFromEvents p (acknowledged_at p)
found_there (unknown_bytes bytes) = inl refl
found_there (not_booted s) = inl refl
found_there (running events extent ps) = refl
found_there (dead s) = inl refl

-- where the start record was right
right_there : (p : DiskState) → IsSettled p → ran_at p ≡ acknowledged_at p
right_there p settled = ap (λ (k : EventLog). k.ran) settled

-- a reply without an event, which leaves the disk where it stood
keeps_still : (p : DiskState) (a : Reply) → a.after ≡ p → a.outcome.acknowledged ≡ [] → ReplyKeepsEvents p a
keeps_still p a there none = record {
  found = acknowledged_at p;
  finds = found_there p;
  are = ap acknowledged_at there ∙ sym (append-nil (acknowledged_at p)) ∙ ap (λ (l : Events). acknowledged_at p ++ l) (sym none);
  known = λ k. subst IsKnown (sym there) (same_known p a.outcome.acknowledged none k);
  doubt = inl (none, ap known_at there);
  ran = subst (λ (q : DiskState). BeginWith (ran_at p) (ran_at q)) (sym there) (with_themselves (ran_at p));
  right = λ k. subst (λ (q : DiskState). ran_at q ≡ acknowledged_at q) (sym there) (⊎_elim (right_there p) (λ some. absurd (some none)) k);
}

-- one that is this
keeps_as : (p : DiskState) (a b : Reply) → a ≡ b → ReplyKeepsEvents p b → ReplyKeepsEvents p a
keeps_as p a b is keeps = subst (ReplyKeepsEvents p) (sym is) keeps

still_as : (p : DiskState) (answer : List ℕ) (a : Reply) → a ≡ reply answer no_outcome p → ReplyKeepsEvents p a
still_as p answer a is = keeps_as p a (reply answer no_outcome p) is (keeps_still p (reply answer no_outcome p) refl refl)

-- one after which the store is known, its start record is right, and at most an event of its own is in doubt
keeps_known : (p : DiskState) (a : Reply) (found : Events) → StartsFromEvents p found → acknowledged_at a.after ≡ found ++ a.outcome.acknowledged → IsKnown a.after
    → ((known_at a.after).in_doubt ≡ None) ⊎ ((known_at a.after).in_doubt ≡ a.outcome.in_doubt) → BeginWith (ran_at p) (ran_at a.after) → ran_at a.after ≡ acknowledged_at a.after → ReplyKeepsEvents p a
keeps_known p a found finds are known doubt ran right = record { found = found; finds = finds; are = are; known = λ k. known; doubt = inr doubt; ran = ran; right = λ k. right }

-- a commit, where the replies to what is committed keep them
commits : (events : Events) (extent : Extent) (ps : Processes) (e : Event) (size : ℕ) (o : Result Releases HandlerError) (P : Extent → Reply → Type 0) → ((x : Extent) (a : Reply) → P x a → ReplyKeepsEvents (running events extent ps) a)
    → (a : Reply) → Transition.IsCommit events extent ps e size o P a → ReplyKeepsEvents (running events extent ps) a
commits events extent ps e size (Err why) P keeps a is = still_as (running events extent ps) _ a is
commits events extent ps e size (Ok list) P keeps a (inl (fits, inl (x, reach, is))) = keeps x a is
commits events extent ps e size (Ok list) P keeps a (inl (fits, inr is)) = keeps_as (running events extent ps) a _ is (keeps_known (running events extent ps) _ events refl (sym (append-nil events)) tt (inr refl) (with_themselves events) refl)
commits events extent ps e size (Ok list) P keeps a (inr (over, is)) = still_as (running events extent ps) _ a is

changes : (events : Events) (extent : Extent) (ps : Processes) (c : Transition.ListChange) (l : Releases) (f : Option Refusal) (o : Result Releases HandlerError) (a : Reply) → Transition.RepliesToChange events extent ps c l f o a → ReplyKeepsEvents (running events extent ps) a
changes events extent ps c l (Some why) o a is = still_as (running events extent ps) _ a is
changes events extent ps c l None o a is = commits events extent ps c.event (c.size l) o _ (λ x a is. keeps_as (running events extent ps) a _ is (keeps_known (running events extent ps) _ events refl refl tt (inl refl) (c.event ∷ [], refl) refl)) a is

makes_with : (bytes : List ℕ) (p : Bundle) (size : ℕ) (why : Option Refusal) (a : Reply) → Transition.MakesWith bytes p size why a → ReplyKeepsEvents (unknown_bytes bytes) a
makes_with bytes p size (Some why) a is = still_as (unknown_bytes bytes) _ a is
makes_with bytes p size None a (inl (fits, inr is)) = keeps_as (unknown_bytes bytes) a _ is (keeps_known (unknown_bytes bytes) _ [] (inl refl) refl tt (inl refl) (_, refl) refl)
makes_with bytes p size None a (inl (fits, inl is)) = keeps_as (unknown_bytes bytes) a _ is (keeps_known (unknown_bytes bytes) _ [] (inl refl) refl tt (inl refl) (_, refl) refl)
makes_with bytes p size None a (inr (over, is)) = still_as (unknown_bytes bytes) _ a is

makes_on : (bytes : List ℕ) (b : Brought) (there : Bool) (a : Reply) → Transition.MakesOn bytes b there a → ReplyKeepsEvents (unknown_bytes bytes) a
makes_on bytes b true a is = still_as (unknown_bytes bytes) _ a is
makes_on bytes b false a is = makes_with bytes (bundle_brought b) (made_size b) (own_refusal b) a is

-- What is not done leaves other bytes, and nothing is known as before.
torn_as : (bytes torn answer : List ℕ) (doubt : Option Event) (fails : Bool) (a : Reply) → a ≡ reply answer (record { acknowledged = []; in_doubt = doubt; failed = fails }) (unknown_bytes torn) → ReplyKeepsEvents (unknown_bytes bytes) a
torn_as bytes torn answer doubt fails a is = keeps_as (unknown_bytes bytes) a _ is (record {
  found = [];
  finds = inl refl;
  are = refl;
  known = λ k. ⊎_elim (λ (never : ⊥). never) (λ (some : [] ≢ []). some refl) k;
  doubt = inl (refl, refl);
  ran = ([], refl);
  right = λ k. refl;
})

-- What is not done leaves a store without a node: as it was known, or with an event of the command in doubt.
failed_as : (s : StoreState) (answer : List ℕ) (doubt : Option Event) (fails : Bool) (p : DiskState) (a : Reply) → StartsFromEvents p s.known.acknowledged → (s.known ≡ known_at p) ⊎ (s.known.in_doubt ≡ doubt) → BeginWith (ran_at p) s.known.ran
    → (IsSettled p → s.known.ran ≡ s.known.acknowledged) → a ≡ reply answer (record { acknowledged = []; in_doubt = doubt; failed = fails }) (not_booted s) → ReplyKeepsEvents p a
failed_as s answer doubt fails p a finds known ran right is = keeps_as p a _ is (record {
  found = s.known.acknowledged;
  finds = finds;
  are = sym (append-nil s.known.acknowledged);
  known = λ k. tt;
  doubt = ⊎_elim (λ same. inl (refl, same)) (λ own. inr (inr own)) known;
  ran = ran;
  right = λ k. ⊎_elim right (λ (some : [] ≢ []). absurd (some refl)) k;
})

makes_fails : (bytes : List ℕ) (p : Bundle) (why : Option Refusal) (a : Reply) → Transition.FailsToMake bytes p why a → ReplyKeepsEvents (unknown_bytes bytes) a
makes_fails bytes p (Some why) a is = torn_as bytes bytes _ _ true a is
makes_fails bytes p None a (torn, kept, is) = torn_as bytes torn _ _ true a is

makes : (p : DiskState) (found : Brought) (a : Reply) → Transition.MakesNode p found a → ReplyKeepsEvents p a
makes (unknown_bytes bytes) found a (inl is) = makes_on bytes found (holds_a_store bytes) a is
makes (unknown_bytes bytes) found a (inr is) = makes_fails bytes (bundle_brought found) (own_refusal found) a is
makes (not_booted s) found a (inl is) = still_as (not_booted s) _ a is
makes (not_booted s) found a (inr is) = failed_as s _ _ true (not_booted s) a (inl refl) (inl refl) (with_themselves s.known.ran) (right_there (not_booted s)) is
makes (running events extent ps) found a is = still_as (running events extent ps) _ a is
makes (dead s) found a is = still_as (dead s) _ a is

booted : (p : DiskState) (events : Events) (extent : Extent) (a : Reply) → StartsFromEvents p events → BeginWith (ran_at p) events → Transition.AnswersBoot events extent a → ReplyKeepsEvents p a
booted p events extent a finds ran (list, after, is) = keeps_as p a _ is (keeps_known p _ events finds refl tt (inl refl) (with_one_more (ran_at p) events booting ran) refl)

-- the events that a store may have
pub may_have : (s : StoreState) (events : Events) (extent : Extent) → MayHoldEvents s events extent → MayBeEventsOf s events
may_have s events extent (since, inl (is, at)) = inl is
may_have s events extent (since, inr (is, at)) = inr is

-- where nothing is in doubt, a store has the acknowledged events, after which its start record is right
right_after : (s : StoreState) (events acknowledged : Events) → s.known ≡ log_without_doubt acknowledged → MayBeEventsOf s events → s.known.ran ≡ events
right_after s events acknowledged settled (inl is) = ap (λ (k : EventLog). k.ran) settled ∙ sym (is ∙ ap (λ (k : EventLog). k.acknowledged) settled)
right_after s events acknowledged settled (inr is) = ap (λ (k : EventLog). k.ran) settled ∙ sym (is ∙ ap (λ (k : EventLog). with_doubt k.acknowledged k.in_doubt) settled)

boots_store : (p : DiskState) (s : StoreState) (a : Reply) → s.known ≡ known_at p → ((events : Events) (extent : Extent) → MayHoldEvents s events extent → StartsFromEvents p events) → StartsFromEvents p s.known.acknowledged → BeginWith (ran_at p) s.known.ran
    → Transition.BootsStore s a → ReplyKeepsEvents p a
boots_store p s a same finds here ran (inl (events, extent, has, is)) = booted p events extent a (finds events extent has) (with_first (ran_at p) s.known.ran events ran has.0) is
boots_store p s a same finds here ran (inr (lack, inl is)) =
    failed_as s _ (Some booting) (is_failure lack) p a here (inl same) ran (λ settled. right_after s s.known.acknowledged (acknowledged_at p) (same ∙ settled) (inl refl)) is
boots_store p s a same finds here ran (inr (lack, inr (events, extent, has, is))) =
    failed_as (store_with_boot_in_doubt s.known.ran events extent) _ (Some booting) (is_failure lack) p a (finds events extent has) (inr refl) ran
    (λ settled. right_after s events (acknowledged_at p) (same ∙ settled) (may_have s events extent has)) is

-- after an event that was committed
keeps_behind : (events : Events) (extent : Extent) (ps : Processes) (then : Extent) (e : Event) (b : Reply) → ReplyKeepsEvents (not_booted (store_without_doubt (events ++ e ∷ []) then)) b → ReplyKeepsEvents (running events extent ps) (after_commit e b)
keeps_behind events extent ps then e b keeps =
    let found : keeps.found ≡ events ++ e ∷ [] = ⊎_elim (λ is. is) (λ is. is) keeps.finds in
    keeps_known (running events extent ps) (after_commit e b) events refl
    (keeps.are ∙ ap (λ (l : Events). l ++ b.outcome.acknowledged) found ∙ append_assoc events (e ∷ []) b.outcome.acknowledged) (keeps.known (inl tt))
    (⊎_elim (λ (still : (b.outcome.acknowledged ≡ []) × (known_at b.after ≡ log_without_doubt (events ++ e ∷ []))). inl (ap (λ (k : EventLog). k.in_doubt) still.1)) (λ own. own) keeps.doubt)
    (with_first events (events ++ e ∷ []) (ran_at b.after) (e ∷ [], refl) keeps.ran) (keeps.right (inl refl))

-- a reply keeps them too whose answer stands after a text
keeps_text : (p : DiskState) (text : List ℕ) (a : Reply) → ReplyKeepsEvents p a → ReplyKeepsEvents p (with_text text a)
keeps_text p text a keeps = record {
  found = keeps.found;
  finds = keeps.finds;
  are = keeps.are;
  known = keeps.known;
  doubt = keeps.doubt;
  ran = keeps.ran;
  right = keeps.right;
}

boots : (p : DiskState) (a : Reply) → Transition.Boots p a → ReplyKeepsEvents p a
boots (unknown_bytes bytes) a (inl (events, list, extent, after, image, is)) = booted (unknown_bytes bytes) events extent a (inr (list, after, image.image_of)) (events, refl) is
boots (unknown_bytes bytes) a (inr (inl (why, reported, is))) = still_as (unknown_bytes bytes) _ a is
boots (unknown_bytes bytes) a (inr (inr (lack, torn, left, is))) = torn_as bytes torn _ (Some booting) (is_failure lack) a is
boots (not_booted s) a is = boots_store (not_booted s) s a refl (may_have s) (inl refl) (with_themselves s.known.ran) is
boots (running events extent ps) a is = boots_store (running events extent ps) (store_without_doubt events extent) a refl (λ es n has. ⊎_elim (λ e. e) (λ e. e) (may_have (store_without_doubt events extent) es n has)) refl (with_themselves events) is
boots (dead s) a is = boots_store (dead s) s a refl (may_have s) (inl refl) (with_themselves s.known.ran) is

-- a boot after a commit keeps them
boots_rest : (s : StoreState) (b : Reply) → Transition.BootsStore s b → ReplyKeepsEvents (not_booted s) b
boots_rest s b boot = boots_store (not_booted s) s b refl (may_have s) (inl refl) (with_themselves s.known.ran) boot

reboots : (events : Events) (extent : Extent) (ps : Processes) (vsn : List ℕ) (l : Releases) (o : Result Releases HandlerError) (a : Reply) → Transition.Reboots events extent ps vsn l o a → ReplyKeepsEvents (running events extent ps) a
reboots events extent ps vsn l o =
    commits events extent ps (rebooting vsn) _ o _ (λ x a (b, boot, is).
    keeps_as (running events extent ps) a _ is (keeps_behind events extent ps x (rebooting vsn) b (boots_rest (Transition.store_after_reboot events x vsn) b boot)))

restarts : (events : Events) (extent : Extent) (ps : Processes) (x : Extent) (vsn : List ℕ) (l : Releases) (f : FoundForm) (qs : Processes) (b : Reply) → Transition.BootsStore (store_after_restart events x vsn) b
    → ReplyKeepsEvents (running events extent ps) (restarted_reply vsn l f qs b)
restarts events extent ps x vsn l f qs b boot =
    keeps_text (running events extent ps) (installed_line f (stale_modules qs.modules (libraries_at vsn l))) (after_commit (restart_installed vsn) b)
    (keeps_behind events extent ps x (restart_installed vsn) b (boots_rest (store_after_restart events x vsn) b boot))

acts : (p : DiskState) (does : Transition.Action) (a : Reply) → Transition.NodeReplies p does a → ReplyKeepsEvents p a
acts p (answers text) a is = still_as p _ a is
acts p (makes_node found) a is = makes p found a is
acts (unknown_bytes bytes) (changes_node c) a is = still_as (unknown_bytes bytes) _ a is
acts (not_booted s) (changes_node c) a is = still_as (not_booted s) _ a is
acts (running events extent ps) (changes_node c) a is = changes events extent ps c (releases_after events) (c.files (releases_after events)) (commanded c.event (releases_after events)) a is
acts (dead s) (changes_node c) a is = still_as (dead s) _ a is
acts (running events extent ps) (installs vsn) a is =
    let here = running events extent ps in
    each_reply (ReplyKeepsEvents here) events extent ps vsn (releases_after events) (record {
      listed = λ why. still_as here _ _ refl;
      unmatched = still_as here _ _ refl;
      not_run = λ f. still_as here _ _ refl;
      over_full = still_as here _ _ refl;
      broken = λ f. keeps_known here _ events refl (sym (append-nil events)) tt (inl refl) (with_themselves events) refl;
      done_so = λ f r reach found comes. keeps_known here _ events refl refl tt (inl refl) (_, refl) refl;
      restarted_so = λ f r reach b found comes boot. restarts events extent ps reach vsn (releases_after events) f (behind_run r) b boot;
      doubted_so = λ f restart found. keeps_known here _ events refl (sym (append-nil events)) tt (inr refl) (with_themselves events) refl;
    }) a is
acts (unknown_bytes bytes) (installs vsn) a is = still_as (unknown_bytes bytes) _ a is
acts (not_booted s) (installs vsn) a is = still_as (not_booted s) _ a is
acts (dead s) (installs vsn) a is = still_as (dead s) _ a is
acts (running events extent ps) (reboots_node vsn) a is = reboots events extent ps vsn (releases_after events) (commanded (rebooting vsn) (releases_after events)) a is
acts (unknown_bytes bytes) (reboots_node vsn) a is = still_as (unknown_bytes bytes) _ a is
acts (not_booted s) (reboots_node vsn) a is = still_as (not_booted s) _ a is
acts (dead s) (reboots_node vsn) a is = still_as (dead s) _ a is
acts p boots_node a is = boots p a is
acts (running events extent ps) reports_start a (inl is) = still_as (running events extent ps) _ a is
acts (running events extent ps) reports_start a (inr is) = keeps_as (running events extent ps) a _ is (keeps_known (running events extent ps) _ events refl (sym (append-nil events)) tt (inl refl) (with_themselves events) refl)
acts (unknown_bytes bytes) reports_start a is = still_as (unknown_bytes bytes) _ a is
acts (not_booted s) reports_start a is = still_as (not_booted s) _ a is
acts (dead s) reports_start a is = still_as (dead s) _ a is
acts (running events extent ps) (calls c) a is = keeps_as (running events extent ps) a _ is (keeps_known (running events extent ps) _ events refl (sym (append-nil events)) tt (inl refl) (with_themselves events) refl)
acts (unknown_bytes bytes) (calls c) a is = still_as (unknown_bytes bytes) _ a is
acts (not_booted s) (calls c) a is = still_as (not_booted s) _ a is
acts (dead s) (calls c) a is = still_as (dead s) _ a is

pub each_keeps : (source : Source) (p : DiskState) (c : Command) (a : Reply) → Transition.Transition source p c a → ReplyKeepsEvents p a
each_keeps source p c a (does, comes, is) = acts p does a is
