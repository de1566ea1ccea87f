-- Where the device does not fail, each command has one answer: at one place, where memory is refused to no compaction; and at
-- any two places with one list, where no answer is that a record does not fit.
use Rattle.std.proofs.Common.{◌≡◌, ◌≢◌, ◌⊎◌, inl, inr, ℕ, Bool, true, false, List, [], ◌∷◌, ◌++◌, Option, None, Some, Result, Ok, Err, refl, sym, ap, ◌∙◌, subst}
use Rattle.std.specs.Option.{option_map}
use Rattle.rel_list.specs.Releases.{Releases, has_current, has_one_shot, running as running_release, permanent}
use Rattle.rel_list.specs.Event.{list_after, booted, recorded}
use Rattle.rel_list.specs.Event.{Event}
use Rattle.rel_list.specs.Event.Event.{made, installed, restart_installed, reboot_old as rebooting, boot as booting}
use Rattle.rel_handler.specs.declared.error.BootError.{BootError}
use Rattle.node_command.specs.declared.error.HandlerError.{HandlerError}
use Rattle.node_store.specs.Events.{Events, booted_or_same, store_without_doubt}
use Rattle.node_store.specs.Compaction.{compacted_extent, MayReach}
use Rattle.node_store.specs.Image.{Extent, booted_extent, extent_after, extent_of, first_extent, HasSpace, holds_a_store, IsImageOf}
use Rattle.rel_handler.proofs.BootLists.{extent_of_none}
use Rattle.node_command.specs.Files.{bundle_brought, made_size}
use Rattle.node_command.specs.Place.{own_refusal}
use Rattle.rel_handler.specs.Refusals.{IsBootRefusal}
use Rattle.node_command.specs.Taking.{commanded}
use Rattle.session_input.specs.Commands.{Command}
use Rattle.session_input.specs.Commands.Command.{quit}
use Rattle.session_input.specs.Feed.{Feed}
use Rattle.session_input.specs.Feed.Feed.{over, cut, next}
use Rattle.rel_list.specs.Releases.{Bundle}
use Rattle.rel_unpack.specs.Refusal.{Refusal}
use Rattle.rel_unpack.specs.Unpacking.{Brought}
use Rattle.rel_unpack.specs.Source.{Source, GivesOne}
use Rattle.rel_session.specs.Files.{Files, files_behind, source_of}
use Rattle.node_processes.specs.Calls.{Calls, calls_line, left_by}
use Rattle.node_processes.specs.Fresh.{fresh_processes}
use Rattle.node_processes.specs.Processes.{Processes}
use Rattle.session_laws.specs.LawsBelow.{BootLaws}
use Rattle.rel_session.specs.Node.{DiskState, CommandOutcome, Reply, releases_after, list_or_none, after_commit, with_text}
use Rattle.rel_session.specs.Node.DiskState.{unknown_bytes, not_booted, running, dead}
use Rattle.rel_session.specs.Booting.{BootsStore, boot_line}
use Rattle.rel_session.specs.Run.{EndsInFull, AreReplies, Ending}
use Rattle.rel_session.specs.Run.Ending.{ended, cut_off}
use Rattle.session_laws.specs.AnswerLaws.{AreSame, HaveOneAnswer, IsCertain, IsCompact, IsMemoryLine, LeaveCompactStores, LeavesCompactStore, NoneLacksMemory, ReportsNoMemory, RunsOneShot}
use Rattle.session_laws.specs.RunLaws.{NoneFails}
use Rattle.rel_session.specs.Transition
use Rattle.rel_session.specs.Transition.Action.{answers, makes_node, changes_node, installs, reboots_node, boots_node, reports_start, calls}
use Rattle.session_laws.proofs.AcknowledgedEvents.{next_answered, none_left}
use Rattle.session_laws.proofs.SourceLemmas.{gives_one}
use Rattle.session_laws.proofs.ActionLemmas.{AreReported, has_record, HasRecordOf, kind_of, one_action, runs_node}
use Rattle.session_laws.proofs.IdlePlaces.{Found, IsFound, IsBooted, BootsAs, MakesAs, IsOfNode, Works, boot_failure, boots_as, boots_store, failure, makes_as, no_node, none_reports, none_runs, wanting}
use Rattle.session_laws.proofs.MemoryLines.{report_is}
use Rattle.session_laws.proofs.IdlePlaces.Found.{listed, unlisted}
use Rattle.rel_session.proofs.ExtentLemmas.{booted_reach, has_only, none_rebooted, one_reach, reach_beside_one_shot, releases-booted}
use Rattle.node_command.specs.Installing.{installation}
use Rattle.node_processes.specs.Scripts.{behind_run}
use Rattle.node_upgrade.specs.Failure.{Failure}
use Rattle.node_upgrade.specs.Upgrade.{script_failure}
use Rattle.relup_exec.specs.Alone as script
use Rattle.relup_file.specs.Search.{FoundForm}
use Rattle.node_upgrade.specs.Stale.{stale_modules}
use Rattle.rel_list.specs.Releases.{libraries_at}
use Rattle.node_answer.specs.Lines.{installed_line}
use Rattle.node_answer.specs.Refusals.{refusal_line}
use Rattle.node_answer.specs.Refusals.NodeRefusal.{full}
use Rattle.rel_session.specs.Installation.{BreaksForMemory, RunsUnless, Installs, IsInstallationReply, RepliesTo, store_after_restart, restarted_reply, upgrade_outcome}
use Rattle.rel_handler.specs.Installing.{install_room, install_size, installation_event, needs_restart}
use Rattle.rel_session.proofs.ListLemmas.{current-booted, same_list}

-- Two runs of one input, and what is asked of them: either their stores reach equally far, and memory is refused to no
-- compaction;
-- or no answer is that a record does not fit. The first are called exact.

-- what a boot finds in both
abbrev pub Near : Bool → Found → Found → Type 0
Near exact (listed list x) (listed then y) = (list ≡ then) × (exact ≡ true → x ≡ y)
Near exact (unlisted begun line) (unlisted began other) = (begun ≡ began) × (line ≡ other)
Near exact f g = ⊥

-- Two places that no such runs distinguish: the events may be any that have the list.
pub data Alike (exact : Bool) : DiskState → DiskState → Type 0 where
  both_idle : (p q : DiskState) (f g : Found) → IsFound p f → IsFound q g → Near exact f g → Alike exact p q
  both_run : (events others : Events) (extent stop : Extent) (ps qs : Processes) → list_after events ≡ list_after others → (exact ≡ true → extent ≡ stop) → ps ≡ qs
      → Alike exact (running events extent ps) (running others stop qs)

alike_itself : BootLaws → (exact : Bool) (p : DiskState) → IsCertain p → Alike exact p p
alike_itself laws exact (unknown_bytes x) sure = go (laws.either x)
  where
    go : ((es : Releases) × IsImageOf x es × (recorded es ≡ es)) ⊎ ((why : BootError) × IsBootRefusal x why) → Alike exact (unknown_bytes x) (unknown_bytes x)
    go (inl (es, image, still)) =
        let f : Found = listed (Some (booted es)) (booted_extent (extent_of x) es) in
        both_idle (unknown_bytes x) (unknown_bytes x) f f (es, image, refl, refl) (es, image, refl, refl) (refl, λ one. refl)
    go (inr (why, refuses)) =
        let f : Found = unlisted (holds_a_store x) (boot_line why) in
        both_idle (unknown_bytes x) (unknown_bytes x) f f (refl, (why, refuses, refl)) (refl, (why, refuses, refl)) (refl, refl)
alike_itself laws exact (not_booted s) sure =
    let f : Found = listed (option_map booted (list_after s.known.acknowledged)) (booted_or_same s.extent (list_after s.known.acknowledged)) in
    both_idle (not_booted s) (not_booted s) f f (sure.0, refl, refl) (sure.0, refl, refl) (refl, λ one. refl)
alike_itself laws exact (running events extent ps) sure = both_run events events extent extent ps ps refl (λ one. refl) refl
alike_itself laws exact (dead s) sure =
    let f : Found = listed (option_map booted (list_after s.known.acknowledged)) (booted_or_same s.extent (list_after s.known.acknowledged)) in
    both_idle (dead s) (dead s) f f (sure.0, refl, refl) (sure.0, refl, refl) (refl, λ one. refl)

-- Commands come to the same there.
same_action : (exact : Bool) (source : Source) → GivesOne source → (p q : DiskState) (c : Command) (x y : Transition.Action) → Alike exact p q → Transition.MeansAction source p c x → Transition.MeansAction source q c y → x ≡ y
same_action exact source one p q c x y alike comes comes_too = go (one_action source one p q c x y (both_or_none p q alike) comes comes_too)
  where
    both_or_none : (p q : DiskState) → Alike exact p q → runs_node (kind_of p) ≡ runs_node (kind_of q)
    both_or_none p q (both_idle r s f g here there near) = none_runs r f here ∙ sym (none_runs s g there)
    both_or_none p q (both_run events others extent stop ps qs same near one) = refl

    reported_same : (says : Releases → Processes → List ℕ) (p q : DiskState) → Alike exact p q → Transition.answer_of_node says p ≡ Transition.answer_of_node says q
    reported_same says p q (both_idle r s f g here there near) = none_reports says r f here ∙ sym (none_reports says s g there)
    reported_same says p q (both_run events others extent stop ps qs same near one) = ap (λ o. says (list_or_none o) ps) same ∙ ap (λ r. says (releases_after others) r) one

    go : (x ≡ y) ⊎ AreReported p q x y → x ≡ y
    go (inl one) = one
    go (inr (says, here, here_too)) = here ∙ ap answers (reported_same says p q alike) ∙ sym here_too

abbrev Same : Bool → Reply → Reply → Type 0
Same exact a b = (a.answer ≡ b.answer) × (a.outcome ≡ b.outcome) × Alike exact a.after b.after

-- where an event was committed, memory was not refused to a compaction
abbrev IsSmall : Reply → Type 0
IsSmall a = LeavesCompactStore a.outcome.acknowledged a.after

-- what is asked of a reply
abbrev pub Asks : Bool → Reply → Type 0
Asks exact a =
    (exact ≡ true → LeavesCompactStore a.outcome.acknowledged a.after) × (exact ≡ false → a.answer ≢ refusal_line full)
    × (ReportsNoMemory a.answer → ⊥)

-- Replies in which the device does not fail, and no memory is refused to a boot.
abbrev Fine : Reply → Reply → Type 0
Fine a b = Works a × Works b

-- And of which the rest is so.
abbrev Both : Bool → Reply → Reply → Type 0
Both exact a b = Works a × Works b × Asks exact a × Asks exact b

-- a reply in which the device does not fail, and that reports no want of memory
works_so : (a : Reply) → a.outcome.failed ≡ false → (ReportsNoMemory a.answer → ⊥) → Works a
works_so a fine had = (fine, λ is. had (inl (inr (inr (inl is)))))

small_as : (a x : Reply) → a ≡ x → IsSmall a → IsSmall x
small_as a x is small = subst IsSmall is small

as_these : (exact : Bool) (a b x y : Reply) → a ≡ x → b ≡ y → Same exact x y → Same exact a b
as_these exact a b x y is also same = subst (λ z. Same exact z b) (sym is) (subst (Same exact x) (sym also) same)

-- A record does not fit into one of the stores alone.
one_fits : {T : Type 0} (exact : Bool) (x y : Extent) (size : ℕ) (b : Reply) → (exact ≡ true → x ≡ y) → Asks exact b → HasSpace x size → (HasSpace y size → ⊥) → b.answer ≡ refusal_line full → T
one_fits true x y size b near asks fits over_it is = absurd (over_it (subst (λ z. HasSpace z size) (near refl) fits))
one_fits false x y size b near asks fits over_it is = absurd (asks.1 refl is)

-- After a commit stores reach equally far that did so before, where they are as short as a compaction leaves them.
reach_alike : (base other x y : Extent) (l m : Releases) → base ≡ other → l ≡ m → x ≡ compacted_extent base l → y ≡ compacted_extent other m → x ≡ y
reach_alike base other x y l m near same here there = let both : compacted_extent base l ≡ compacted_extent other m = λ k. compacted_extent (near k) (same k) in here ∙ (both ∙ sym there)

-- A boot of stores with one list finds the same.
near_stores : (exact : Bool) (events others : Events) (extent stop : Extent) → list_after events ≡ list_after others → (exact ≡ true → extent ≡ stop)
    → Near exact (listed (option_map booted (list_after events)) (booted_or_same extent (list_after events))) (listed (option_map booted (list_after others)) (booted_or_same stop (list_after others)))
near_stores exact events others extent stop same near = (ap (option_map booted) same, λ one k. booted_or_same (near one k) (same k))

module _ (exact : Bool) (a b : Reply) (both : Both exact a b) where
  -- a commit, where what is committed leaves one reply
  commits : (events others : Events) (extent stop : Extent) (ps qs : Processes) (e : Event) (size : ℕ) (o : Result Releases HandlerError) (P Q : Extent → Reply → Type 0) → list_after events ≡ list_after others → (exact ≡ true → extent ≡ stop)
      → (exact ≡ true → (x : Extent) → P x a → x ≡ compacted_extent x (releases_after (events ++ e ∷ []))) → (exact ≡ true → (x : Extent) → Q x b → x ≡ compacted_extent x (releases_after (others ++ e ∷ [])))
      → ((x y : Extent) → (exact ≡ true → x ≡ y) → P x a → Q y b → Same exact a b) → Alike exact (running events extent ps) (running others stop qs)
      → Transition.IsCommit events extent ps e size o P a → Transition.IsCommit others stop qs e size o Q b → Same exact a b
  commits events others extent stop ps qs e size (Err why) P Q same near small small_too one alike is also = as_these exact a b _ _ is also (refl, refl, alike)
  commits events others extent stop ps qs e size (Ok list) P Q same near small small_too one alike (inl (fits, inl (x, reach, is))) (inl (fits_too, inl (y, reach_too, also))) =
      let first = releases_after (events ++ e ∷ []) in
      let second = releases_after (others ++ e ∷ []) in
      let close : exact ≡ true → x ≡ y = λ sure. reach_alike (extent_after extent size) (extent_after stop size) x y first second (ap (λ z. extent_after z size) (near sure)) (ap list_or_none (same_list events others e same))
      (one_reach (extent_after extent size) x first reach (small sure x is)) (one_reach (extent_after stop size) y second reach_too (small_too sure y also)) in
      one x y close is also
  commits events others extent stop ps qs e size (Ok list) P Q same near small small_too one alike (inl (fits, inl is)) (inl (fits_too, inr also)) = failure b _ also refl both.1
  commits events others extent stop ps qs e size (Ok list) P Q same near small small_too one alike (inl (fits, inl is)) (inr (over_it, also)) = one_fits exact extent stop size b near both.3 fits over_it (ap (λ (r : Reply). r.answer) also)
  commits events others extent stop ps qs e size (Ok list) P Q same near small small_too one alike (inl (fits, inr is)) other = failure a _ is refl both.0
  commits events others extent stop ps qs e size (Ok list) P Q same near small small_too one alike (inr (over_it, is)) (inl (fits, also)) =
      one_fits exact stop extent size a (λ sure. sym (near sure)) both.2 fits over_it (ap (λ (r : Reply). r.answer) is)
  commits events others extent stop ps qs e size (Ok list) P Q same near small small_too one alike (inr (over_it, is)) (inr (over_too, also)) = as_these exact a b _ _ is also (refl, refl, alike)

  changes : (events others : Events) (extent stop : Extent) (ps qs : Processes) (c : Transition.ListChange) (l : Releases) (f : Option Refusal) (o : Result Releases HandlerError) → HasRecordOf (changes_node c) → list_after events ≡ list_after others → (exact ≡ true → extent ≡ stop)
      → ps ≡ qs → Transition.RepliesToChange events extent ps c l f o a → Transition.RepliesToChange others stop qs c l f o b → Same exact a b
  changes events others extent stop ps qs c l (Some why) o has same near one is also = as_these exact a b _ _ is also (refl, refl, both_run events others extent stop ps qs same near one)
  changes events others extent stop ps qs c l None o has same near one is also =
      commits events others extent stop ps qs c.event (c.size l) o (λ x r. r ≡ Transition.reply_to_change events x ps c l) (λ x r. r ≡ Transition.reply_to_change others x qs c l) same near
      (λ sure x is. has (Transition.reply_to_change events x ps c l).after (small_as a _ is (both.2.0 sure))) (λ sure x is. has (Transition.reply_to_change others x qs c l).after (small_as b _ is (both.3.0 sure)))
      (λ x y close is also. as_these exact a b _ _ is also (refl, refl, both_run (events ++ c.event ∷ []) (others ++ c.event ∷ []) x y ps qs (same_list events others c.event same) close one))
      (both_run events others extent stop ps qs same near one) is also

  makes_with : (x y : List ℕ) (p : Bundle) (size : ℕ) (why : Option Refusal) → Alike exact (unknown_bytes x) (unknown_bytes y) → Transition.MakesWith x p size why a → Transition.MakesWith y p size why b → Same exact a b
  makes_with x y p size (Some why) alike is also = as_these exact a b _ _ is also (refl, refl, alike)
  makes_with x y p size None alike (inl (fits, inr is)) other = wanting a _ is refl both.0
  makes_with x y p size None alike (inl (fits, inl is)) (inl (fits_too, inr also)) = wanting b _ also refl both.1
  makes_with x y p size None alike (inl (fits, inl is)) (inl (fits_too, inl also)) =
      let events = made p ∷ booting ∷ [] in
      let reach = extent_after first_extent size in
      as_these exact a b _ _ is also (refl, refl, both_run events events reach reach (fresh_processes (releases_after events)) (fresh_processes (releases_after events)) refl (λ sure. refl) refl)
  makes_with x y p size None alike (inl (fits, inl is)) (inr (over_it, also)) = absurd (over_it fits)
  makes_with x y p size None alike (inr (over_it, is)) (inl (fits, also)) = absurd (over_it fits)
  makes_with x y p size None alike (inr (over_it, is)) (inr (over_too, also)) = as_these exact a b _ _ is also (refl, refl, alike)

  makes_on : (x y : List ℕ) (found : Brought) (m : Bool) → Alike exact (unknown_bytes x) (unknown_bytes y) → Transition.MakesOn x found m a → Transition.MakesOn y found m b → Same exact a b
  makes_on x y found true alike is also = as_these exact a b _ _ is also (refl, refl, alike)
  makes_on x y found false alike is also = makes_with x y (bundle_brought found) (made_size found) (own_refusal found) alike is also

  makes_found : (r s : DiskState) (f g : Found) (found : Brought) → Alike exact r s → Near exact f g → MakesAs r f found a → MakesAs s g found b → Same exact a b
  makes_found r s (listed list x) (listed then y) found alike near is also = as_these exact a b _ _ is also (refl, refl, alike)
  makes_found r s (unlisted begun line) (unlisted began other) found alike (same, lines) (x, here, is) (y, there, also) =
      makes_on x y found began (subst (λ z. Alike exact z (unknown_bytes y)) here (subst (Alike exact r) there alike)) (subst (λ m. Transition.MakesOn x found m a) same is) also
  makes_found r s f g found alike near is also = absurd near

  makes : BootLaws → (p q : DiskState) (found : Brought) → Alike exact p q → Transition.MakesNode p found a → Transition.MakesNode q found b → Same exact a b
  makes laws p q found (both_idle r s f g here there near) is also = makes_found r s f g found (both_idle r s f g here there near) near (makes_as laws r f found a both.0 here is) (makes_as laws s g found b both.1 there also)
  makes laws p q found (both_run events others extent stop ps qs same near one) is also = as_these exact a b _ _ is also (refl, refl, both_run events others extent stop ps qs same near one)

module _ (exact : Bool) (a b : Reply) (both : Fine a b) where
  -- boots that have led to one list
  booted_alike : (list then : Option Releases) (x y : Extent) → list ≡ then → (exact ≡ true → x ≡ y) → IsBooted list x a → IsBooted then y b → Same exact a b
  booted_alike list then x y one near (events, after, is) (others, after_too, also) =
      let first = events ++ booting ∷ [] in
      let second = others ++ booting ∷ [] in
      let same : list_after first ≡ list_after second = after ∙ one ∙ sym after_too in
      as_these exact a b _ _ is also (
        ap (λ o. Transition.ok_line (Transition.version_of (running_release (list_or_none o)))) one,
        refl,
        both_run first second x y (fresh_processes (releases_after first)) (fresh_processes (releases_after second)) same near (ap (λ o. fresh_processes (list_or_none o)) same),
      )

  stores_alike : (events others : Events) (extent stop : Extent) → list_after events ≡ list_after others → (exact ≡ true → extent ≡ stop)
      → Transition.BootsStore (store_without_doubt events extent) a → Transition.BootsStore (store_without_doubt others stop) b → Same exact a b
  stores_alike events others extent stop same near is also =
      let (one, close) = near_stores exact events others extent stop same near in
      let here = boots_store (store_without_doubt events extent) (option_map booted (list_after events)) (booted_or_same extent (list_after events)) a both.0 (refl, refl, refl) is in
      let there = boots_store (store_without_doubt others stop) (option_map booted (list_after others)) (booted_or_same stop (list_after others)) b both.1 (refl, refl, refl) also in
      booted_alike (option_map booted (list_after events)) (option_map booted (list_after others)) (booted_or_same extent (list_after events)) (booted_or_same stop (list_after others)) one close here there

  boots_found : (r s : DiskState) (f g : Found) → Alike exact r s → Near exact f g → BootsAs r f a → BootsAs s g b → Same exact a b
  boots_found r s (listed list x) (listed then y) alike near is also = booted_alike list then x y near.0 near.1 is also
  boots_found r s (unlisted begun line) (unlisted began other) alike near is also = as_these exact a b _ _ is also (near.1, refl, alike)
  boots_found r s f g alike near is also = absurd near

  boots : BootLaws → (p q : DiskState) → Alike exact p q → Transition.Boots p a → Transition.Boots q b → Same exact a b
  boots laws p q (both_idle r s f g here there near) is also = boots_found r s f g (both_idle r s f g here there near) near (boots_as laws r f a both.0 here is) (boots_as laws s g b both.1 there also)
  boots laws p q (both_run events others extent stop ps qs same near one) is also = stores_alike events others extent stop same near is also

-- Two replies that are the same are the same after an event.
behind_same : (exact : Bool) (e : Event) (x y : Reply) → Same exact x y → Same exact (after_commit e x) (after_commit e y)
behind_same exact e x y (reported, outcomes, then) = (reported, ap (λ (o : CommandOutcome). (after_commit e (record { answer = []; outcome = o; after = x.after })).outcome) outcomes, then)

-- Two replies that are the same are the same with a line in front.
with_text_same : (exact : Bool) (line : List ℕ) (x y : Reply) → Same exact x y → Same exact (with_text line x) (with_text line y)
with_text_same exact line x y (reported, outcomes, then) = (ap (λ t. line ++ t) reported, outcomes, then)

-- A store that boots to one as short as a compaction leaves it, where the list has no one-shot, was as short before.
rests : (events : Events) (x : Extent) (r : Reply) → has_one_shot (releases_after events) ≡ false → Works r → IsCompact r.after → Transition.BootsStore (store_without_doubt events x) r → x ≡ compacted_extent x (releases_after events)
rests events x r free fine small (inl (es, n, has, (list, after, reported))) =
    let only = has_only events events es x n has in
    let none : has_one_shot (releases_after es) ≡ false = subst (λ l. has_one_shot (releases_after l) ≡ false) (sym only.0) free in
    let plain : has_one_shot list ≡ false = ap (λ o. has_one_shot (list_or_none o)) (sym after) ∙ none in
    let compact : n ≡ compacted_extent n (releases_after (es ++ booting ∷ [])) =
    subst (λ y. y ≡ compacted_extent y (releases_after (es ++ booting ∷ []))) (extent_of_none n list plain) (subst (λ (t : Reply). IsCompact t.after) reported small) in
    subst (λ l. x ≡ compacted_extent x (releases_after l)) only.0 (subst (λ y. y ≡ compacted_extent y (releases_after es)) only.1 (compact ∙ booted_reach n es none))
rests events x r free fine small (inr (lack, undone)) = boot_failure r _ lack undone fine

-- After a boot that starts no one-shot none is current.
none_runs_once : (events : Events) (x : Extent) (r : Reply) → has_one_shot (releases_after events) ≡ false → Works r → Transition.BootsStore (store_without_doubt events x) r → RunsOneShot r.after → ⊥
none_runs_once events x r free fine (inl (es, n, has, (list, after, reported))) once =
    let only = has_only events events es x n has in
    let none : has_one_shot (releases_after es) ≡ false = subst (λ l. has_one_shot (releases_after l) ≡ false) (sym only.0) free in
    let here : has_current (releases_after (es ++ booting ∷ [])) ≡ true = subst (λ (t : Reply). RunsOneShot t.after) reported once in
    let lost : true ≡ false = sym here ∙ ap has_current (releases-booted es) ∙ current-booted (releases_after es) ∙ none in cc
none_runs_once events x r free fine (inr (lack, undone)) once = boot_failure r _ lack undone fine

-- The boot after an installation works where that does.
works_behind : (r s : Reply) (vsn : List ℕ) (l : Releases) (f : FoundForm) (ps : Processes) → Works r → (ReportsNoMemory r.answer → ⊥) → r ≡ restarted_reply vsn l f ps s → Works s
works_behind r s vsn l f ps fine had is = (
  ap (λ (t : Reply). t.outcome.failed) (sym is) ∙ fine.0,
  λ lacks. had (inr (f.other, f.descr, stale_modules ps.modules (libraries_at vsn l), ap (λ (t : Reply). t.answer) is ∙ ap (λ t. installed_line f (stale_modules ps.modules (libraries_at vsn l)) ++ t) lacks)),
)

-- how far the store reaches after an installation with a restart, by the boot after it
restarted_reach : (r s : Reply) (events : Events) (base x : Extent) (vsn : List ℕ) (l : Releases) (f : FoundForm) (ps : Processes) → Works r → (ReportsNoMemory r.answer → ⊥) → IsSmall r → MayReach base (releases_after (events ++ restart_installed vsn ∷ [])) x
    → Transition.BootsStore (store_after_restart events x vsn) s → r ≡ restarted_reply vsn l f ps s → x ≡ compacted_extent base (releases_after (events ++ restart_installed vsn ∷ []))
restarted_reach r s events base x vsn l f ps fine had small reach boot is = by_one_shot (has_one_shot (releases_after all)) refl
  where
    all : Events
    all = events ++ restart_installed vsn ∷ []

    works : Works s
    works = works_behind r s vsn l f ps fine had is

    by_store : has_one_shot (releases_after all) ≡ false → RunsOneShot s.after ⊎ IsCompact s.after → x ≡ compacted_extent base (releases_after all)
    by_store none (inl once) = absurd (none_runs_once all x s none works boot once)
    by_store none (inr compact) = one_reach base x (releases_after all) reach (rests all x s none works compact boot)

    by_one_shot : (b : Bool) → has_one_shot (releases_after all) ≡ b → x ≡ compacted_extent base (releases_after all)
    by_one_shot true one = reach_beside_one_shot base x (releases_after all) reach one
    by_one_shot false none = by_store none (small_as r _ is small)

module _ (exact : Bool) (a b : Reply) (both : Both exact a b) where
  reboots : (events others : Events) (extent stop : Extent) (ps qs : Processes) (vsn : List ℕ) (l : Releases) (o : Result Releases HandlerError) → list_after events ≡ list_after others → (exact ≡ true → extent ≡ stop) → ps ≡ qs
      → Transition.Reboots events extent ps vsn l o a → Transition.Reboots others stop qs vsn l o b → Same exact a b
  reboots events others extent stop ps qs vsn l o same near one =
      let e = rebooting vsn in
      commits exact a b both events others extent stop ps qs e _ o (Rebooted events) (Rebooted others) same near
      (λ sure x r. rests_so events x a both.0 (both.2.0 sure) r) (λ sure x r. rests_so others x b both.1 (both.3.0 sure) r)
      (λ x y close (s, boot, is) (t, boot_too, also).
      as_these exact a b _ _ is also (behind_same exact e s t (stores_alike exact s t (works a s is both.0, works b t also both.1) (events ++ e ∷ []) (others ++ e ∷ []) x y (same_list events others e same) close boot boot_too)))
      (both_run events others extent stop ps qs same near one)
    where
      works : (r x : Reply) → r ≡ after_commit (rebooting vsn) x → Works r → Works x
      works r x is fine = (ap (λ (s : Reply). s.outcome.failed) (sym is) ∙ fine.0, λ lacks. fine.1 (ap (λ (s : Reply). s.answer) is ∙ lacks))

      Rebooted : Events → Extent → Reply → Type 0
      Rebooted events x r = (b : Reply) × Transition.BootsStore (Transition.store_after_reboot events x vsn) b × (r ≡ after_commit (rebooting vsn) b)

      rests_so : (events : Events) (x : Extent) (r : Reply) → Works r → IsSmall r → Rebooted events x r → x ≡ compacted_extent x (releases_after (events ++ rebooting vsn ∷ []))
      rests_so events x r fine small (s, boot, is) = rests (events ++ rebooting vsn ∷ []) x s (none_rebooted events vsn) (works r s is fine) (small_as r _ is small tt) boot

  -- where no node runs, none is asked
  none_asked : (p q : DiskState) (f g : Found) (does : Transition.Action) → IsOfNode does → IsFound p f → IsFound q g → Near exact f g → Transition.NodeReplies p does a → Transition.NodeReplies q does b → Same exact a b
  none_asked p q f g does asks here there near is also = as_these exact a b _ _ (no_node p f does a asks here is) (no_node q g does b asks there also) (refl, refl, both_idle p q f g here there near)

  changed : (p q : DiskState) (c : Transition.ListChange) → HasRecordOf (changes_node c) → Alike exact p q → Transition.NodeReplies p (changes_node c) a → Transition.NodeReplies q (changes_node c) b → Same exact a b
  changed p q c has (both_idle r s f g here there near) is also = none_asked r s f g (changes_node c) tt here there near is also
  changed p q c has (both_run events others extent stop ps qs same near one) is also =
      let then : releases_after others ≡ releases_after events = ap list_or_none (sym same) in
      changes exact a b both events others extent stop ps qs c (releases_after events) (c.files (releases_after events)) (commanded c.event (releases_after events)) has same near one is
      (subst (λ l. Transition.RepliesToChange others stop qs c l (c.files l) (commanded c.event l) b) then also)

  rebooted : (p q : DiskState) (vsn : List ℕ) → Alike exact p q → Transition.NodeReplies p (reboots_node vsn) a → Transition.NodeReplies q (reboots_node vsn) b → Same exact a b
  rebooted p q vsn (both_idle r s f g here there near) is also = none_asked r s f g (reboots_node vsn) tt here there near is also
  rebooted p q vsn (both_run events others extent stop ps qs same near one) is also =
      let then : releases_after others ≡ releases_after events = ap list_or_none (sym same) in
      reboots events others extent stop ps qs vsn (releases_after events) (commanded (rebooting vsn) (releases_after events)) same near one is
      (subst (λ l. Transition.Reboots others stop qs vsn l (commanded (rebooting vsn) l) b) then also)

  -- an installation that was committed
  installed_same : (events others : Events) (base other x y : Extent) (vsn : List ℕ) (l : Releases) (f : FoundForm) (ps : Processes) (restarts : Bool) → list_after events ≡ list_after others → (exact ≡ true → base ≡ other)
      → MayReach base (releases_after (events ++ installation_event restarts vsn ∷ [])) x → MayReach other (releases_after (others ++ installation_event restarts vsn ∷ [])) y
      → IsInstallationReply restarts events x vsn l f ps a → IsInstallationReply restarts others y vsn l f ps b → Same exact a b
  installed_same events others base other x y vsn l f ps false same near reach reach_too is also =
      let e = installed vsn in
      let first = releases_after (events ++ e ∷ []) in
      let second = releases_after (others ++ e ∷ []) in
      let close : exact ≡ true → x ≡ y = λ sure. reach_alike base other x y first second (near sure) (ap list_or_none (same_list events others e same))
      (one_reach base x first reach (small_as a _ is (both.2.0 sure) tt)) (one_reach other y second reach_too (small_as b _ also (both.3.0 sure) tt)) in
      as_these exact a b _ _ is also (refl, refl, both_run (events ++ e ∷ []) (others ++ e ∷ []) x y ps ps (same_list events others e same) close refl)
  installed_same events others base other x y vsn l f ps true same near reach reach_too (s, boot, is) (t, boot_too, also) =
      let e = restart_installed vsn in
      let close : exact ≡ true → x ≡ y = λ sure. reach_alike base other x y (releases_after (events ++ e ∷ [])) (releases_after (others ++ e ∷ [])) (near sure) (ap list_or_none (same_list events others e same))
      (restarted_reach a s events base x vsn l f ps both.0 both.2.2 (both.2.0 sure) reach boot is) (restarted_reach b t others other y vsn l f ps both.1 both.3.2 (both.3.0 sure) reach_too boot_too also) in
      let line = installed_line f (stale_modules ps.modules (libraries_at vsn l)) in
      let fine = works_behind a s vsn l f ps both.0 both.2.2 is in
      let fine_too = works_behind b t vsn l f ps both.1 both.3.2 also in
      as_these exact a b _ _ is also (with_text_same exact line (after_commit e s) (after_commit e t) (behind_same exact e s t
      (stores_alike exact s t (fine, fine_too) (events ++ e ∷ []) (others ++ e ∷ []) x y (same_list events others e same) close boot boot_too)))

  -- an installation
  leads : (events others : Events) (extent stop : Extent) (ps qs : Processes) (vsn : List ℕ) (l : Releases) (f : FoundForm) (o : script.Outcome) → list_after events ≡ list_after others → (exact ≡ true → extent ≡ stop) → ps ≡ qs
      → RepliesTo events extent ps vsn l f o a → RepliesTo others stop qs vsn l f o b → Same exact a b
  leads events others extent stop ps qs vsn l f (script.Outcome.refuses n c) same near one is also = as_these exact a b _ _ is also (refl, refl, both_run events others extent stop ps qs same near one)
  leads events others extent stop ps qs vsn l f (script.Outcome.breaks n c) same near one is also =
      as_these exact a b _ _ is also (
        refl,
        refl,
        both_idle (dead (store_without_doubt events extent)) (dead (store_without_doubt others stop))
            (listed (option_map booted (list_after events)) (booted_or_same extent (list_after events))) (listed (option_map booted (list_after others)) (booted_or_same stop (list_after others)))
            (refl, refl, refl) (refl, refl, refl) (near_stores exact events others extent stop same near),
      )
  leads events others extent stop ps qs vsn l f (script.Outcome.ends r) same near one (inl (x, reach, is)) (inl (y, reach_too, also)) =
      installed_same events others (extent_after extent (install_size vsn l)) (extent_after stop (install_size vsn l)) x y vsn l f (behind_run r) (needs_restart vsn l) same
      (λ sure. ap (λ z. extent_after z (install_size vsn l)) (near sure)) reach reach_too is also
  leads events others extent stop ps qs vsn l f (script.Outcome.ends r) same near one (inl is) (inr also) = failure b _ also refl both.1
  leads events others extent stop ps qs vsn l f (script.Outcome.ends r) same near one (inr is) other = failure a _ is refl both.0

  -- no script that memory stopped after its point of no return
  broken_for_memory : {T : Type 0} (r : Reply) (x : Extent) (es : Events) (f : FoundForm) → Asks exact r → BreaksForMemory es x f r → T
  broken_for_memory r x es f asks (n, late, is) = absurd (asks.2 (inl (inr (inr (inr (n, ap (λ (t : Reply). t.answer) is))))))

  begins : (events others : Events) (extent stop : Extent) (ps qs : Processes) (vsn : List ℕ) (l : Releases) (f : FoundForm) (o : Option Failure) → list_after events ≡ list_after others → (exact ≡ true → extent ≡ stop) → ps ≡ qs
      → RunsUnless events extent ps vsn l f o a → RunsUnless others stop qs vsn l f o b → Same exact a b
  begins events others extent stop ps qs vsn l f (Some why) same near one is also = as_these exact a b _ _ is also (refl, refl, both_run events others extent stop ps qs same near one)
  begins events others extent stop ps qs vsn l f None same near one (inl (fits, inr broke)) other = broken_for_memory a extent events f both.2 broke
  begins events others extent stop ps qs vsn l f None same near one (inl (fits, inl is)) (inl (fits_too, inr broke)) = broken_for_memory b stop others f both.3 broke
  begins events others extent stop ps qs vsn l f None same near one (inl (fits, inl is)) (inl (fits_too, inl also)) =
      leads events others extent stop ps qs vsn l f (upgrade_outcome vsn l f ps) same near one is (subst (λ o. RepliesTo others stop qs vsn l f o b) (ap (upgrade_outcome vsn l f) (sym one)) also)
  begins events others extent stop ps qs vsn l f None same near one (inl (fits, inl is)) (inr (over_it, also)) = one_fits exact extent stop (install_room vsn l) b near both.3 fits over_it (ap (λ (r : Reply). r.answer) also)
  begins events others extent stop ps qs vsn l f None same near one (inr (over_it, is)) (inl (fits, also)) =
      one_fits exact stop extent (install_room vsn l) a (λ sure. sym (near sure)) both.2 fits over_it (ap (λ (r : Reply). r.answer) is)
  begins events others extent stop ps qs vsn l f None same near one (inr (over_it, is)) (inr (over_too, also)) = as_these exact a b _ _ is also (refl, refl, both_run events others extent stop ps qs same near one)

  installs_so : (events others : Events) (extent stop : Extent) (ps qs : Processes) (vsn : List ℕ) (l : Releases) (o : Result FoundForm HandlerError) → list_after events ≡ list_after others → (exact ≡ true → extent ≡ stop) → ps ≡ qs
      → Installs events extent ps vsn l o a → Installs others stop qs vsn l o b → Same exact a b
  installs_so events others extent stop ps qs vsn l (Err why) same near one is also = as_these exact a b _ _ is also (refl, refl, both_run events others extent stop ps qs same near one)
  installs_so events others extent stop ps qs vsn l (Ok f) same near one is also = begins events others extent stop ps qs vsn l f (script_failure vsn l f) same near one is also

  installed_alike : (p q : DiskState) (vsn : List ℕ) → Alike exact p q → Transition.NodeReplies p (installs vsn) a → Transition.NodeReplies q (installs vsn) b → Same exact a b
  installed_alike p q vsn (both_idle r s f g here there near) is also = none_asked r s f g (installs vsn) tt here there near is also
  installed_alike p q vsn (both_run events others extent stop ps qs same near one) is also =
      let then : releases_after others ≡ releases_after events = ap list_or_none (sym same) in
      installs_so events others extent stop ps qs vsn (releases_after events) (installation vsn (releases_after events)) same near one is (subst (λ l. Installs others stop qs vsn l (installation vsn l) b) then also)

  reported : (p q : DiskState) → Alike exact p q → Transition.NodeReplies p reports_start a → Transition.NodeReplies q reports_start b → Same exact a b
  reported p q (both_idle r s f g here there near) is also = none_asked r s f g reports_start tt here there near is also
  reported p q (both_run events others extent stop ps qs same near one) (inl is) (inl also) =
      as_these exact a b _ _ is also (ap (λ o. Transition.ok_line (Transition.start_versions (permanent (list_or_none o)))) same, refl, both_run events others extent stop ps qs same near one)
  reported p q (both_run events others extent stop ps qs same near one) (inl is) (inr also) = failure b _ also refl both.1
  reported p q (both_run events others extent stop ps qs same near one) (inr is) other = failure a _ is refl both.0

  called_alike : (p q : DiskState) (c : Calls) → Alike exact p q → Transition.NodeReplies p (calls c) a → Transition.NodeReplies q (calls c) b → Same exact a b
  called_alike p q c (both_idle r s f g here there near) is also = none_asked r s f g (calls c) tt here there near is also
  called_alike p q c (both_run events others extent stop ps qs same near one) is also =
      as_these exact a b _ _ is also (ap (calls_line c) one, refl, both_run events others extent stop (left_by c ps) (left_by c qs) same near (ap (left_by c) one))

  acts : BootLaws → (p q : DiskState) (does : Transition.Action) → HasRecordOf does → Alike exact p q → Transition.NodeReplies p does a → Transition.NodeReplies q does b → Same exact a b
  acts laws p q (answers text) has alike is also = as_these exact a b _ _ is also (refl, refl, alike)
  acts laws p q (makes_node found) has alike is also = makes exact a b both laws p q found alike is also
  acts laws p q (changes_node c) has alike is also = changed p q c has alike is also
  acts laws p q (installs vsn) has alike is also = installed_alike p q vsn alike is also
  acts laws p q (reboots_node vsn) has alike is also = rebooted p q vsn alike is also
  acts laws p q boots_node has alike is also = boots exact a b (both.0, both.1) laws p q alike is also
  acts laws p q reports_start has alike is also = reported p q alike is also
  acts laws p q (calls c) has alike is also = called_alike p q c alike is also

  -- no reply that memory was refused
  lacking : {T : Type 0} (r : Reply) (p : DiskState) (c : Command) (does : Transition.Action) → Asks exact r → Transition.LacksMemory p c does → Transition.NodeReplies p does r → T
  lacking r p c does asks (line, reports, is) acts_so =
      let answer = ap (λ (t : Reply). t.answer) (subst (λ d. Transition.NodeReplies p d r) is acts_so) in
      absurd (asks.2 (inl (subst IsMemoryLine (sym answer) (report_is p c line reports))))

  one_reply : BootLaws → (source : Source) → GivesOne source → (p q : DiskState) (c : Command) → Alike exact p q → Transition.Transition source p c a → Transition.Transition source q c b → Same exact a b
  one_reply laws source single p q c alike (does, inr lacks, is) other = lacking a p c does both.2 lacks is
  one_reply laws source single p q c alike (does, inl comes, is) (again, inr lacks, also) = lacking b q c again both.3 lacks also
  one_reply laws source single p q c alike (does, inl comes, is) (again, inl comes_too, also) =
      let one = same_action exact source single p q c does again alike comes comes_too in
      acts laws p q does (has_record source p c does comes) alike is (subst (λ d. Transition.NodeReplies q d b) (sym one) also)

-- how a session ends where no reply is left
abbrev pub Ends : Feed Command → Ending → Type 0
Ends over ending = ending ≡ ended
Ends cut ending = ending ≡ cut_off
Ends (next c rest) ending = (c ≡ quit) × (ending ≡ ended)

pub ends : (base : Source) (files : Files) (p : DiskState) (commands : Feed Command) (ending : Ending) → EndsInFull ending → AreReplies base files p commands ending [] → Ends commands ending
ends base files p over ended whole right = right
ends base files p over cut_off whole right = right
ends base files p cut ended whole right = right
ends base files p cut cut_off whole right = right
ends base files p (next c rest) ended whole right = right
ends base files p (next c rest) cut_off whole right = right
ends base files p commands ending whole right = absurd whole

pub one_end : (commands : Feed Command) (a b : Ending) → Ends commands a → Ends commands b → a ≡ b
one_end over a b p q = p ∙ sym q
one_end cut a b p q = p ∙ sym q
one_end (next c rest) a b p q = p.1 ∙ sym q.1

never_reports : (p : DiskState) (line : List ℕ) → Transition.memory_report_at p quit ≡ Some line → ⊥
never_reports (unknown_bytes bytes) line is = cc is
never_reports (not_booted s) line is = cc is
never_reports (running events extent ps) line is = cc is
never_reports (dead s) line is = cc is

-- a session that ends does not go on
pub never_goes_on : (base : Source) (files : Files) (p : DiskState) (commands : Feed Command) (a b : Ending) (r : Reply) (more : List Reply) → EndsInFull b → Ends commands a → AreReplies base files p commands b (r ∷ more) → ⊥
never_goes_on base files p over a b r more whole end right = none_left base files p over b r more (inl refl) right
never_goes_on base files p cut a b r more whole end right = none_left base files p cut b r more (inr refl) right
never_goes_on base files p (next c rest) a b r more whole (quitting, end) right =
    go (subst (λ d. Transition.Transition (source_of base files) p d r) quitting (next_answered base files p c rest b r more whole right).0)
  where
    go : Transition.Transition (source_of base files) p quit r → ⊥
    go (does, inl comes, is) = comes
    go (does, inr (line, reports, same), is) = never_reports p line reports

-- Each of the replies is as is asked of one.
abbrev pub AreAsked : Bool → List Reply → Type 0
AreAsked exact [] = Unit {0}
AreAsked exact (a ∷ more) = Asks exact a × AreAsked exact more

pub one_run : BootLaws → (exact : Bool) (base : Source) → GivesOne base → (files : Files) (p q : DiskState) (commands : Feed Command) (a b : Ending) (first second : List Reply) → Alike exact p q → EndsInFull a → EndsInFull b → NoneFails first → NoneFails second
    → AreAsked exact first → AreAsked exact second → AreReplies base files p commands a first → AreReplies base files q commands b second → (a ≡ b) × AreSame first second
one_run laws exact base single files p q commands a b [] [] alike not_a not_b works works_too asked asked_too right right_too = (one_end commands a b (ends base files p commands a not_a right) (ends base files q commands b not_b right_too), tt)
one_run laws exact base single files p q commands a b [] (s ∷ second) alike not_a not_b works works_too asked asked_too right right_too = absurd (never_goes_on base files q commands a b s second not_b (ends base files p commands a not_a right) right_too)
one_run laws exact base single files p q commands a b (r ∷ first) [] alike not_a not_b works works_too asked asked_too right right_too = absurd (never_goes_on base files p commands b a r first not_a (ends base files q commands b not_b right_too) right)
one_run laws exact base single files p q over a b (r ∷ first) (s ∷ second) alike not_a not_b works works_too asked asked_too right right_too = absurd (none_left base files p over a r first (inl refl) right)
one_run laws exact base single files p q cut a b (r ∷ first) (s ∷ second) alike not_a not_b works works_too asked asked_too right right_too = absurd (none_left base files p cut a r first (inr refl) right)
one_run laws exact base single files p q (next c rest) a b (r ∷ first) (s ∷ second) alike not_a not_b (works, all) (works_too, all_too) (asked, others) (asked_too, others_too) right right_too =
    let (is, behind) = next_answered base files p c rest a r first not_a right in
    let (also, behind_too) = next_answered base files q c rest b s second not_b right_too in
    let (reported, outcomes, then) = one_reply exact r s (works_so r works asked.2, works_so s works_too asked_too.2, asked, asked_too) laws (source_of base files) (gives_one base files single) p q c alike is also in
    let (end, same) = one_run laws exact base single (files_behind files c) r.after s.after rest a b first second then not_a not_b all all_too others others_too behind behind_too in
    (end, (reported, outcomes, same))

-- Each of the replies is as is asked of one, where memory was refused to no compaction and none reports that it was refused.
asked_compact : (replies : List Reply) → LeaveCompactStores replies → NoneLacksMemory replies → AreAsked true replies
asked_compact [] small had = tt
asked_compact (a ∷ more) (small, rest) (here, later) = ((λ sure. small, (λ (never : true ≡ false). absurd cc), here), asked_compact more rest later)

pub have_one_answer : BootLaws → (base : Source) → HaveOneAnswer base
have_one_answer laws base single files p commands a b first second sure not_a not_b works works_too had had_too small small_too =
    one_run laws true base single files p p commands a b first second (alike_itself laws true p sure) not_a not_b works works_too (asked_compact first small had) (asked_compact second small_too had_too)
