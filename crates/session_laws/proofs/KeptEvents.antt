-- No moment of a session loses an acknowledged event, or has one that nobody asked for.
use Rattle.std.proofs.Common.{◌≡◌, ◌⊎◌, inl, inr, ⊎_elim, ℕ, zero, suc, List, [], ◌∷◌, ◌++◌, Option, Some, None, refl, sym, ap, ◌∙◌, subst, append-nil, append_assoc}
use Rattle.std.specs.Option.{option_and_then}
use Rattle.rel_disk.specs.Damage.{Only}
use Rattle.rel_list.specs.Releases.{Releases}
use Rattle.rel_list.specs.Event.{Event, list_from, list_after, step}
use Rattle.node_store.specs.Image.{first_extent}
use Rattle.node_store.specs.Events.{EventLog, Events, StoreState, store_without_doubt, with_doubt, BeginWith, HasRecentStart, IsPrefix, IsCrashImageOf}
use Rattle.node_store.proofs.Beginnings.{with_themselves, with_first, has_start_since}
use Rattle.rel_unpack.specs.Source.{Source}
use Rattle.session_input.specs.Commands.{Command}
use Rattle.session_input.specs.Feed.{Feed}
use Rattle.session_input.specs.Input.{most_bytes}
use Rattle.rel_session.specs.Device.{Device, LeavesOnly}
use Rattle.rel_session.specs.Files.{Files, files_behind, source_of}
use Rattle.rel_session.specs.Node.{DiskState, at_rest, CommandOutcome, Reply}
use Rattle.rel_session.specs.Node.DiskState.{unknown_bytes, not_booted, running, dead}
use Rattle.rel_session.specs.Run.{Starts, DiskIsIn, CrashSafeDuring, CommandsRun, AreReplies, Ending, StandsForPrefix, events_of}
use Rattle.rel_session.specs.Run.Ending.{going_on}
use Rattle.rel_session.proofs.DeviceLemmas.{IsDevice, joined, weakened}
use Rattle.rel_session.proofs.Prefixes.{prefix_of, prefix_is, reached, reached_sooner}
use Rattle.session_laws.specs.AnswerLaws.{IsOneOrNone, Shows, TellsEvents, broken_events}
use Rattle.session_laws.specs.RunLaws.{known_at, acknowledged_at, IsKnown, StartsFromEvents, ReplyKeepsEvents, place_after}
use Rattle.session_laws.specs.KeptEvents.{IsKnownAfter, IsKnownAfterAll, KeepsAcknowledged, IsUnderWay, store_after_crash, GoesOnAfterCrash, KeepsEvents, SessionsKeepEvents, AnswersKeepEvents, KeepsEventsOnceMade, SessionsKeepEventsOnceMade, SessionMayBegin, KeepEventsOver}
use Rattle.session_laws.proofs.Transitions.{each_keeps}
use Rattle.session_laws.proofs.AcknowledgedEvents.{first_answered, becomes_known, parts, rest_right, starts_at_rest}
use Rattle.session_laws.proofs.EmptyDisk.{first_event, becomes_known as once_acknowledged}

-- The first of some events have a list where all have.
list_of_first : (es : Releases) (first more : Events) (end : Releases) → list_from es (first ++ more) ≡ Some end → (list : Releases) × (list_from es first ≡ Some list)
list_of_first es [] more end after = (es, refl)
list_of_first es (e ∷ first) more end after = go (step e es) (λ l. list_of_first l first more end) after
  where
    go : (o : Option Releases) → ((l : Releases) → list_from l (first ++ more) ≡ Some end → (list : Releases) × (list_from l first ≡ Some list))
        → option_and_then (λ l. list_from l (first ++ more)) o ≡ Some end → (list : Releases) × (option_and_then (λ l. list_from l first) o ≡ Some list)
    go None rest after = absurd cc
    go (Some l) rest after = rest l after

-- What a command finds is a prefix of the accepted events, where it has a list.
prefix_of_found : (k : EventLog) (found : Events) (list : Releases) → (found ≡ k.acknowledged) ⊎ (found ≡ with_doubt k.acknowledged k.in_doubt) → list_after found ≡ Some list → IsPrefix k found
prefix_of_found k found list is after =
    let known : EventLog = record { ran = []; acknowledged = k.acknowledged; in_doubt = k.in_doubt } in
    let s : StoreState = record { known = known; extent = first_extent; appended = first_extent; compacted = first_extent } in
    let of = prefix_of s found first_extent list ((found, refl), ⊎_elim (λ e. inl (e, refl)) (λ e. inr (e, inl refl)) is) after in
    record { lacks = of.lacks; of_accepted = of.of_accepted; more = of.more; holds = of.holds }

found_there : (p : DiskState) (found : Events) → IsKnown p → StartsFromEvents p found → (found ≡ acknowledged_at p) ⊎ (found ≡ with_doubt (acknowledged_at p) (known_at p).in_doubt)
found_there (unknown_bytes bytes) found known finds = absurd known
found_there (not_booted s) found known finds = finds
found_there (running events extent ps) found known finds = inl finds
found_there (dead s) found known finds = finds

-- what is known after a reply that keeps the events
known_after : (p : DiskState) (a : Reply) (list : Releases) → IsKnown p → list_after (acknowledged_at a.after) ≡ Some list → ReplyKeepsEvents p a → IsKnownAfter (known_at p) a.outcome (known_at a.after)
known_after p a list known after keeps = go keeps.doubt
  where
    go : ((a.outcome.acknowledged ≡ []) × (known_at a.after ≡ known_at p)) ⊎ (((known_at a.after).in_doubt ≡ None) ⊎ ((known_at a.after).in_doubt ≡ a.outcome.in_doubt)) → IsKnownAfter (known_at p) a.outcome (known_at a.after)
    go (inl still) = inl still
    go (inr own) =
        let (before, has) = list_of_first [] keeps.found a.outcome.acknowledged list (ap list_after (sym keeps.are) ∙ after) in
        inr (record {
          found = keeps.found;
          prefix = prefix_of_found (known_at p) keeps.found before (found_there p keeps.found known keeps.finds) has;
          acknowledged = keeps.are;
          in_doubt = own;
          ran = keeps.ran;
          right = λ some. keeps.right (inr some);
        })

-- the store of a place
store_at : (p : DiskState) → IsKnown p → (s : StoreState) × (at_rest p ≡ not_booted s) × (s.known ≡ known_at p)
store_at (unknown_bytes bytes) known = absurd known
store_at (not_booted s) known = (s, refl, refl)
store_at (running events extent ps) known = (store_without_doubt events extent, refl, refl)
store_at (dead s) known = (s, refl, refl)

-- what is acknowledged stays so
pub keeps_acknowledged : KeepsAcknowledged
keeps_acknowledged k last [] is = subst (λ (l : EventLog). BeginWith k.acknowledged l.acknowledged) (sym is) (with_themselves k.acknowledged)
keeps_acknowledged k last (a ∷ more) (next, here, later) = go here (keeps_acknowledged next last more later)
  where
    go : IsKnownAfter k a.outcome next → BeginWith next.acknowledged last.acknowledged → BeginWith k.acknowledged last.acknowledged
    go (inl (none, same)) then = subst (λ (l : EventLog). BeginWith l.acknowledged last.acknowledged) same then
    go (inr adds) then =
        with_first k.acknowledged next.acknowledged last.acknowledged
        (adds.prefix.more ++ a.outcome.acknowledged, adds.acknowledged ∙ ap (λ (l : Events). l ++ a.outcome.acknowledged) adds.prefix.holds ∙ append_assoc k.acknowledged adds.prefix.more a.outcome.acknowledged) then

-- what is reached after a command is reached in it
abbrev own_events : (doubt : Option Event) → Events
own_events None = []
own_events (Some e) = e ∷ []

with_own : (events : Events) (doubt : Option Event) → events ++ own_events doubt ≡ with_doubt events doubt
with_own events None = append-nil events
with_own events (Some e) = refl

no_more : (more left : Events) → more ++ left ≡ [] → more ≡ []
no_more [] left is = refl
no_more (e ∷ more) left is = absurd cc

reached_after : (k next : EventLog) (o : CommandOutcome) (c : List ℕ) → IsKnownAfter k o next → StandsForPrefix next [] c → StandsForPrefix k (with_doubt o.acknowledged o.in_doubt) c
reached_after k next o c (inl (none, same)) of = reached_sooner k [] (with_doubt o.acknowledged o.in_doubt) c (subst (λ (l : EventLog). StandsForPrefix l [] c) same of)
reached_after k next o c (inr adds) of = ⊎_elim all (λ is. doubted is adds.in_doubt) (prefix_is next of.events of.prefix)
  where
    some : (begun left : Events) → begun ++ left ≡ with_doubt o.acknowledged o.in_doubt → of.events ≡ adds.found ++ begun → StandsForPrefix k (with_doubt o.acknowledged o.in_doubt) c
    some begun left own is =
        let same : of.events ++ of.more ≡ adds.found ++ begun = ap (λ (l : Events). of.events ++ l) (no_more of.more of.left of.begins) ∙ append-nil of.events ∙ is in
        record {
          events = adds.found;
          prefix = adds.prefix;
          more = begun;
          left = left;
          begins = own;
          list = of.list;
          after = ap list_after (sym same) ∙ of.after;
          image_of = of.image_of;
          start = subst (λ (l : Events). HasRecentStart k.ran l c) same (has_start_since k.ran next.ran (of.events ++ of.more) c adds.ran of.start);
        }

    all : of.events ≡ next.acknowledged → StandsForPrefix k (with_doubt o.acknowledged o.in_doubt) c
    all is = some o.acknowledged (own_events o.in_doubt) (with_own o.acknowledged o.in_doubt) (is ∙ adds.acknowledged)

    doubted : of.events ≡ with_doubt next.acknowledged next.in_doubt → (next.in_doubt ≡ None) ⊎ (next.in_doubt ≡ o.in_doubt) → StandsForPrefix k (with_doubt o.acknowledged o.in_doubt) c
    doubted is (inl none) = all (is ∙ ap (with_doubt next.acknowledged) none)
    doubted is (inr own) =
        some (with_doubt o.acknowledged o.in_doubt) [] (append-nil (with_doubt o.acknowledged o.in_doubt))
        (is ∙ (λ i. with_doubt (adds.acknowledged i) (own i)) ∙ sym (with_own (adds.found ++ o.acknowledged) o.in_doubt) ∙ append_assoc adds.found o.acknowledged (own_events o.in_doubt)
        ∙ ap (λ (l : Events). adds.found ++ l) (with_own o.acknowledged o.in_doubt))

-- where the disk stands after replies of which this is the last
place_after-last : (p : DiskState) (first : List Reply) (a : Reply) → place_after p (first ++ a ∷ []) ≡ a.after
place_after-last p [] a = refl
place_after-last p (b ∷ first) a = place_after-last b.after first a

-- what a crash leaves at a moment of these commands
abbrev IsReachedWithin : EventLog → List Reply → List ℕ → Type 0
IsReachedWithin k replies image = (at : EventLog) × (own : Events) × IsUnderWay k replies at own × StandsForPrefix at own image

module _ {D : Type 0} (v : Device D) (laws : IsDevice v) where
  -- each image where the disk stands, and at each moment of a command
  images : (p : DiskState) (own : Events) (disk : D) → IsKnown p → DiskIsIn v p disk → (c : List ℕ) → v.may_leave disk c → StandsForPrefix (known_at p) own c
  images (unknown_bytes bytes) own disk known holds c now = absurd known
  images (not_booted s) own disk known holds c now = reached s own c (holds c now)
  images (running events extent ps) own disk known holds c now = reached (store_without_doubt events extent) own c (holds c now)
  images (dead s) own disk known holds c now = reached s own c (holds c now)

  command_images : (p : DiskState) (a : Reply) (old new : D) → IsKnown p → CrashSafeDuring v p a.outcome old new → LeavesOnly v old new (StandsForPrefix (known_at p) (events_of a.outcome))
  command_images (unknown_bytes bytes) a old new known moments = absurd known
  command_images (not_booted s) a old new known moments = moments
  command_images (running events extent ps) a old new known moments = moments
  command_images (dead s) a old new known moments = moments

  -- the acknowledged events have a list
  list_at : (p : DiskState) (disk : D) → IsKnown p → DiskIsIn v p disk → (list : Releases) × (list_after (acknowledged_at p) ≡ Some list)
  list_at p disk known holds =
      let of = images p [] disk known holds (v.seen disk) (laws.reads_an_image disk) in
      let are : of.events ++ of.more ≡ acknowledged_at p ++ (of.prefix.more ++ of.more) = ap (λ (l : Events). l ++ of.more) of.prefix.holds ∙ append_assoc (acknowledged_at p) of.prefix.more of.more in
      list_of_first [] (acknowledged_at p) (of.prefix.more ++ of.more) of.list (ap list_after (sym are) ∙ of.after)

  begins_after_crash : (k : EventLog) (own : Events) (image : List ℕ) (disk : D) (of : StandsForPrefix k own image) → Only image (v.may_leave disk) → SessionMayBegin v (store_after_crash k own image of) disk
  begins_after_crash k own image disk of only = λ c now. subst (IsCrashImageOf (store_after_crash k own image of)) (sym (only c now)) (record {
    events = of.events ++ of.more;
    has = (with_first k.ran of.start.before (of.events ++ of.more) of.start.since (of.start.later, of.start.is), inl (refl, refl));
    list = of.list;
    after = of.after;
    image_of = of.image_of;
    start = of.start;
  })

  -- what a crash leaves in a command is left within the commands from it on, and so is what a crash leaves after it
  in_both : (k : EventLog) (a : Reply) (more : List Reply) (next : EventLog) → IsKnownAfter k a.outcome next → (old mid new : D) → LeavesOnly v old mid (StandsForPrefix k (events_of a.outcome)) → LeavesOnly v mid new (IsReachedWithin next more)
      → LeavesOnly v old new (IsReachedWithin k (a ∷ more))
  in_both k a more next known old mid new moments later =
      joined v old mid new (IsReachedWithin k (a ∷ more))
      (weakened v old mid (StandsForPrefix k (events_of a.outcome)) (IsReachedWithin k (a ∷ more)) (λ c of. (k, events_of a.outcome, inl (refl, refl), of)) moments)
      (weakened v mid new (IsReachedWithin next more) (IsReachedWithin k (a ∷ more)) (λ c (at, own, under_way, of). (at, own, inr (next, known, under_way), of)) later)

  module _ (Next : StoreState → D → Type 0) (begins : (s : StoreState) (disk : D) → SessionMayBegin v s disk → Next s disk) where
    -- at each moment from here to the end
    within : (k : EventLog) (replies : List Reply) (old new : D) → KeepsEvents v Next k replies old new → LeavesOnly v old new (IsReachedWithin k replies)
    within k [] old new (moments, goes_on, back) = weakened v old new (StandsForPrefix k []) (IsReachedWithin k []) (λ c of. (k, [], (refl, refl), of)) moments
    within k (a ∷ more) old new (mid, next, moments, known, goes_on, keeps) = in_both k a more next known old mid new moments (within next more mid new keeps)

    goes_on_after : (k : EventLog) (replies : List Reply) (old new : D) → LeavesOnly v old new (IsReachedWithin k replies) → GoesOnAfterCrash v Next k replies old new
    goes_on_after k replies old new moments image disk left only =
        let (at, own, under_way, of) = moments.each image left in
        (at, own, under_way, of, begins (store_after_crash at own image of) disk (begins_after_crash at own image disk of only))

    keeps_events : (base : Source) (files : Files) (p : DiskState) (commands : Feed Command) (ending : Ending) (replies : List Reply) (old new : D) → AreReplies base files p commands ending replies
        → IsKnown p → DiskIsIn v p old → CommandsRun v p replies old new → KeepsEvents v Next (known_at p) replies old new
    keeps_events base files p commands ending [] old new right known holds (leaves, then, counted) =
        let (s, rests, same) = store_at p known in
        let moments = weakened v old new (v.may_leave old) (StandsForPrefix (known_at p) []) (images p [] old known holds) leaves in (
          moments,
          goes_on_after (known_at p) [] old new (weakened v old new (StandsForPrefix (known_at p) []) (IsReachedWithin (known_at p) []) (λ c of. (known_at p, [], (refl, refl), of)) moments),
          record {
            images = images p [] new known then;
            store = s;
            known = same;
            next = begins s new (subst (λ q. Starts v q new) rests (starts_at_rest v laws p new then));
          },
        )
    keeps_events base files p commands ending (a ∷ more) old new right known holds (mid, happens, leads) =
        let n = first_answered base files p commands ending a more right in
        let keeps = each_keeps (source_of base files) p n.command a n.is in
        let known_then = keeps.known (inl known) in
        let (list, after) = list_at a.after mid known_then happens.holds in
        let next_known = known_after p a list known after keeps in
        let moments = command_images p a old mid known happens.moments in
        let rest = keeps_events base (files_behind files n.command) a.after n.rest ending more mid new n.right known_then happens.holds leads in
        let all = in_both (known_at p) a more (known_at a.after) next_known old mid new moments (within (known_at a.after) more mid new rest) in
        (mid, known_at a.after, moments, next_known, goes_on_after (known_at p) (a ∷ more) old new all, rest)

    -- what is known after the first of these commands, and what is left on the disk after at most one more
    tells_events : (k : EventLog) (whole broken : List Reply) (old new : D) → IsOneOrNone broken → KeepsEvents v Next k (whole ++ broken) old new
        → (last : EventLog) × IsKnownAfterAll k whole last × ((c : List ℕ) → v.may_leave new c → StandsForPrefix last (broken_events broken) c)
    tells_events k [] [] old new one (moments, goes_on, back) = (k, refl, back.images)
    tells_events k [] (a ∷ more) old new one (mid, next, moments, after, goes_on, keeps) =
        let (later, goes_on_then, back) = subst (λ l. KeepsEvents v Next next l mid new) one keeps in
        (k, refl, λ c now. reached_after k next a.outcome c after (back.images c now))
    tells_events k (a ∷ whole) broken old new one (mid, next, moments, after, goes_on, keeps) =
        let (last, known, left) = tells_events next whole broken mid new one keeps in
        (last, (next, after, known), left)

    shown_events : (k : EventLog) (text : List ℕ) (replies : List Reply) (old new : D) → KeepsEvents v Next k replies old new → (shown : Shows text replies)
        → (last : EventLog) × IsKnownAfterAll k shown.whole last × ((c : List ℕ) → v.may_leave new c → StandsForPrefix last (broken_events shown.broken) c)
    shown_events k text replies old new keeps shown = tells_events k shown.whole shown.broken old new shown.one (subst (λ l. KeepsEvents v Next k l old new) shown.are keeps)

    pub sessions_keep_events : (base : Source) (s : StoreState) (old : D) → SessionMayBegin v s old → SessionsKeepEvents v base Next s old
    sessions_keep_events base s old starts ending taken input written written_then new session =
        let (commands, are, (text, appends, run)) = session (not_booted s) starts in
        (commands, are, (text, appends, (run, keeps_events base _ (not_booted s) commands ending run.replies old new run.right tt starts run.leads)))

    pub answers_keep_events : (base : Source) (s : StoreState) (old : D) → SessionMayBegin v s old → AnswersKeepEvents v base Next s old
    answers_keep_events base s old starts input written disk text session = sessions_keep_events base s old starts going_on most_bytes input written text disk session

    keeps_events_once_made : (base : Source) (files : Files) (commands : Feed Command) (ending : Ending) (replies : List Reply) (old new : D) → AreReplies base files (unknown_bytes []) commands ending replies
        → v.seen old ≡ [] → CommandsRun v (unknown_bytes []) replies old new → KeepsEventsOnceMade v Next replies old new
    keeps_events_once_made base files commands ending replies old new right empty leads first a rest are works none some =
        let all : replies ≡ (first ++ a ∷ []) ++ rest = are ∙ sym (append_assoc first (a ∷ []) rest) in
        let right_here = subst (AreReplies base files (unknown_bytes []) commands ending) all right in
        let of = first_event base files (unknown_bytes []) commands ending first a rest refl (subst (AreReplies base files (unknown_bytes []) commands ending) are right) works none some in
        let (mid, before, behind, then) = parts v laws (unknown_bytes []) (first ++ a ∷ []) rest old new empty (subst (λ l. CommandsRun v (unknown_bytes []) l old new) all leads) in
        let (fs, left, right_then) = rest_right base files (unknown_bytes []) commands ending (first ++ a ∷ []) rest right_here in
        let known_then = becomes_known base files (unknown_bytes []) commands ending (first ++ a ∷ []) rest right_here (once_acknowledged (unknown_bytes []) first a some) in (
          of.bundle,
          mid,
          of.acknowledged,
          before,
          subst (λ k. KeepsEvents v Next k rest mid new) (ap known_at (place_after-last (unknown_bytes []) first a) ∙ of.after) (keeps_events base fs (place_after (unknown_bytes []) (first ++ a ∷ [])) left ending rest mid new right_then known_then then behind),
        )

    pub sessions_keep_events_once_made : (base : Source) (old : D) → v.seen old ≡ [] → SessionsKeepEventsOnceMade v base Next old
    sessions_keep_events_once_made base old empty ending taken input written written_then new session =
        let (commands, are, (text, appends, run)) = session (unknown_bytes []) empty in
        (commands, are, (text, appends, (run, keeps_events_once_made base _ commands ending run.replies old new run.right empty run.leads)))

  pub text_tells_events : (base : Source) → TellsEvents v base
  text_tells_events base ending taken input written written_then old new s session starts =
      let (commands, are, (text, appends, run)) = session (not_booted s) starts in
      let keeps = keeps_events (SessionMayBegin v) (λ t disk begins. begins) base _ (not_booted s) commands ending run.replies old new run.right tt starts run.leads in
      (commands, are, (text, appends, (run, shown_events (SessionMayBegin v) (λ t disk begins. begins) s.known text run.replies old new keeps)))

  pub keep_events_over : {F : Type 0} (gives : F → Source) (n : ℕ) (s : StoreState) (disk : D) → SessionMayBegin v s disk → KeepEventsOver v gives n s disk
  keep_events_over gives zero s disk starts = starts
  keep_events_over gives (suc n) s disk starts =
      (starts, λ files. sessions_keep_events (λ t later. KeepEventsOver v gives n t later) (λ t later begins. keep_events_over gives n t later begins) (gives files) s disk starts)
