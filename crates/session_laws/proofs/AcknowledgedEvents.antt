-- No moment of a session loses an acknowledged event, or has one that no command asked for.
use Rattle.std.proofs.Common.{◌≡◌, ◌≢◌, ◌⊎◌, inl, inr, ⊎_elim, ℕ, zero, suc, List, [], ◌∷◌, ◌++◌, Option, Some, None, refl, sym, ap, ◌∙◌, subst, append-nil, append_assoc, arith}
use Rattle.rel_list.specs.Event.{Event}
use Rattle.node_store.specs.Image.{extent_of}
use Rattle.node_store.proofs.Beginnings.{with_themselves, with_first, has_start_since}
use Rattle.node_store.specs.Events.{EventLog, Events, StoreState, log_without_doubt, store_without_doubt, with_doubt, IsPrefix, BeginWith, IsCrashImageOf}
use Rattle.session_input.specs.Commands.{Command}
use Rattle.rel_session.specs.Device.{Device, LeavesOnly}
use Rattle.session_input.specs.Feed.{Feed}
use Rattle.session_input.specs.Feed.Feed.{over, cut, next}
use Rattle.rel_unpack.specs.Source.{Source}
use Rattle.rel_session.specs.Files.{Files, files_behind, source_of}
use Rattle.rel_session.specs.Node.{DiskState, at_rest, Reply}
use Rattle.rel_session.specs.Node.DiskState.{unknown_bytes, not_booted, running, dead}
use Rattle.rel_session.specs.Run.{EndsInFull, Starts, DiskIsIn, CrashSafeDuring, CommandsRun, AreReplies, Ending, StandsForPrefix, events_of}
use Rattle.rel_session.specs.Run.Ending.{ended, cut_off, unread, unwritten, out_of_memory, going_on}
use Rattle.session_laws.specs.RunLaws.{acknowledged_at, ran_at, IsKnown, MayBeEventsOf, StartsFromEvents, ReplyKeepsEvents, place_after, AreAcknowledgedAfter, StandsForAll, BecomesKnown, LosesNothing, IsOfAccepted, BeginsWhereOneEnded, store_left, BeginsBehindACrash, IsHandedBack, GoesOn, Lasts, LosesNothingEver}
use Rattle.rel_session.specs.Transition.{Transition}
use Rattle.rel_session.proofs.Prefixes.{prefix_of, prefix_is}
use Rattle.rel_session.proofs.DeviceLemmas.{IsDevice, weakened, joined, still}
use Rattle.session_laws.proofs.Transitions.{may_have, each_keeps}

-- the first of some replies is that to the first command, and the others are those to the commands after it
pub next_answered : (base : Source) (files : Files) (p : DiskState) (c : Command) (rest : Feed Command) (ending : Ending) (a : Reply) (more : List Reply) → EndsInFull ending → AreReplies base files p (next c rest) ending (a ∷ more)
    → Transition (source_of base files) p c a × AreReplies base (files_behind files c) a.after rest ending more
next_answered base files p c rest ending a more full right = right

-- where no command is left there is none
pub none_left : (base : Source) (files : Files) (p : DiskState) (commands : Feed Command) (ending : Ending) (a : Reply) (more : List Reply) → (commands ≡ over) ⊎ (commands ≡ cut) → AreReplies base files p commands ending (a ∷ more) → ⊥
none_left base files p over ended a more none right = right
none_left base files p over cut_off a more none right = right
none_left base files p over unread a more none right = right
none_left base files p over unwritten a more none right = right
none_left base files p over out_of_memory a more none right = right
none_left base files p over going_on a more none right = right
none_left base files p cut ended a more none right = right
none_left base files p cut cut_off a more none right = right
none_left base files p cut unread a more none right = right
none_left base files p cut unwritten a more none right = right
none_left base files p cut out_of_memory a more none right = right
none_left base files p cut going_on a more none right = right
none_left base files p (next c rest) ending a more (inl none) right = cc none
none_left base files p (next c rest) ending a more (inr none) right = cc none

pub record Answered (base : Source) (files : Files) (p : DiskState) (a : Reply) (ending : Ending) (more : List Reply) : Type 0 where
  pub command : Command
  pub rest : Feed Command
  pub is : Transition (source_of base files) p command a
  pub right : AreReplies base (files_behind files command) a.after rest ending more

pub first_answered : (base : Source) (files : Files) (p : DiskState) (commands : Feed Command) (ending : Ending) (a : Reply) (more : List Reply) → AreReplies base files p commands ending (a ∷ more) → Answered base files p a ending more
first_answered base files p over ending a more right = absurd (none_left base files p over ending a more (inl refl) right)
first_answered base files p cut ending a more right = absurd (none_left base files p cut ending a more (inr refl) right)
first_answered base files p (next c rest) ending a more right =
    record { command = c; rest = rest; is = right.0; right = right.1 }

-- with the one in doubt or without, the events begin with the acknowledged ones
doubt_more : (events : Events) (doubt : Option Event) (found : Events) → (found ≡ events) ⊎ (found ≡ with_doubt events doubt) → (more : Events) × (found ≡ events ++ more)
doubt_more events doubt found (inl is) = ([], is ∙ sym (append-nil events))
doubt_more events None found (inr is) = ([], is ∙ sym (append-nil events))
doubt_more events (Some e) found (inr is) = (e ∷ [], is)

finds_more : (p : DiskState) (found : Events) → StartsFromEvents p found → (more : Events) × (found ≡ acknowledged_at p ++ more)
finds_more (unknown_bytes bytes) found finds = (found, refl)
finds_more (not_booted s) found finds = doubt_more s.known.acknowledged s.known.in_doubt found finds
finds_more (running events extent ps) found finds = ([], finds ∙ sym (append-nil events))
finds_more (dead s) found finds = doubt_more s.known.acknowledged s.known.in_doubt found finds

-- The acknowledged events after a reply begin with those before it.
keeps_more : (p : DiskState) (a : Reply) → ReplyKeepsEvents p a → (between : Events) × (acknowledged_at a.after ≡ acknowledged_at p ++ (between ++ a.outcome.acknowledged))
keeps_more p a keeps =
    let (more, is) = finds_more p keeps.found keeps.finds in
    (more, keeps.are ∙ ap (λ (l : Events). l ++ a.outcome.acknowledged) is ∙ append_assoc (acknowledged_at p) more a.outcome.acknowledged)

-- what is left after a reply is left by the command or after it
stands_for_later : (p : DiskState) (a : Reply) (more : List Reply) (image : List ℕ) → ReplyKeepsEvents p a → StandsForAll a.after more image → StandsForAll p (a ∷ more) image
stands_for_later p a more image keeps of = record {
  events = of.events;
  within = inr of.within;
  begins = let (between, is) = keeps_more p a keeps in with_first (acknowledged_at p) (acknowledged_at a.after) of.events (between ++ a.outcome.acknowledged, is) of.begins;
  list = of.list;
  after = of.after;
  image_of = of.image_of;
  start = has_start_since (ran_at p) (ran_at a.after) of.events image keeps.ran of.start;
}

-- the events of all the replies
have_all : (base : Source) (files : Files) (p : DiskState) (commands : Feed Command) (ending : Ending) (first rest : List Reply) → AreReplies base files p commands ending (first ++ rest)
    → AreAcknowledgedAfter p first (acknowledged_at (place_after p first))
have_all base files p commands ending [] rest right = refl
have_all base files p commands ending (a ∷ first) rest right =
    let n = first_answered base files p commands ending a (first ++ rest) right in
    let keeps = each_keeps (source_of base files) p n.command a n.is in
    (keeps.found, keeps.finds, keeps.are, have_all base (files_behind files n.command) a.after n.rest ending first rest n.right)

known_first : (p : DiskState) (replies : List Reply) → IsKnown p → BecomesKnown p replies
known_first p [] known = known
known_first p (a ∷ more) known = inl (inl known)

-- a store that is known stays known, and one that becomes known is so
pub becomes_known : (base : Source) (files : Files) (p : DiskState) (commands : Feed Command) (ending : Ending) (first rest : List Reply) → AreReplies base files p commands ending (first ++ rest)
    → BecomesKnown p first → IsKnown (place_after p first)
becomes_known base files p commands ending [] rest right known = known
becomes_known base files p commands ending (a ∷ first) rest right known =
    let n = first_answered base files p commands ending a (first ++ rest) right in
    let keeps = each_keeps (source_of base files) p n.command a n.is in
    becomes_known base (files_behind files n.command) a.after n.rest ending first rest n.right (go keeps known)
  where
    go : ReplyKeepsEvents p a → (IsKnown p ⊎ (a.outcome.acknowledged ≢ [])) ⊎ BecomesKnown a.after first → BecomesKnown a.after first
    go keeps (inl here) = known_first a.after first (keeps.known here)
    go keeps (inr later) = later

-- the replies that are left
pub rest_right : (base : Source) (files : Files) (p : DiskState) (commands : Feed Command) (ending : Ending) (first rest : List Reply) → AreReplies base files p commands ending (first ++ rest)
    → (behind : Files) × (left : Feed Command) × AreReplies base behind (place_after p first) left ending rest
rest_right base files p commands ending [] rest right = (files, commands, right)
rest_right base files p commands ending (a ∷ first) rest right =
    let n = first_answered base files p commands ending a (first ++ rest) right in
    rest_right base (files_behind files n.command) a.after n.rest ending first rest n.right

-- after replies from a known store it is known, its events begin with those before, and a node ran no sooner
abbrev IsStill : DiskState → List Reply → Type 0
IsStill p replies =
    IsKnown (place_after p replies) × (more : Events) × (acknowledged_at (place_after p replies) ≡ acknowledged_at p ++ more)
    × BeginWith (ran_at p) (ran_at (place_after p replies))

stays_known : (base : Source) (files : Files) (p : DiskState) (commands : Feed Command) (ending : Ending) (replies : List Reply) → AreReplies base files p commands ending replies → IsKnown p → IsStill p replies
stays_known base files p commands ending [] right known = (known, [], sym (append-nil (acknowledged_at p)), with_themselves (ran_at p))
stays_known base files p commands ending (a ∷ more) right known =
    let n = first_answered base files p commands ending a more right in
    let keeps = each_keeps (source_of base files) p n.command a n.is in
    let (between, is) = keeps_more p a keeps in
    let (then, others, are, ran) = stays_known base (files_behind files n.command) a.after n.rest ending more n.right (keeps.known (inl known)) in (
      then,
      (between ++ a.outcome.acknowledged) ++ others,
      are ∙ ap (λ (l : Events). l ++ others) is ∙ append_assoc (acknowledged_at p) (between ++ a.outcome.acknowledged) others,
      with_first (ran_at p) (ran_at a.after) (ran_at (place_after a.after more)) keeps.ran ran,
    )

pub of_accepted : IsOfAccepted
of_accepted s image of = record { events = of.events; prefix = prefix_of s of.events (extent_of image) of.list of.has of.after; list = of.list; after = of.after; image_of = of.image_of }

-- what a crash leaves between two commands
stands_for : (p : DiskState) (s : StoreState) (image : List ℕ) → ((found : Events) → MayBeEventsOf s found → StartsFromEvents p found) → BeginWith (acknowledged_at p) s.known.acknowledged → BeginWith (ran_at p) s.known.ran → IsCrashImageOf s image
    → StandsForAll p [] image
stands_for p s image finds known ran of =
    let prefix = prefix_of s of.events (extent_of image) of.list of.has of.after in
    record {
      events = of.events;
      within = finds of.events (may_have s of.events (extent_of image) of.has);
      begins = with_first (acknowledged_at p) s.known.acknowledged of.events known (prefix.more, prefix.holds);
      list = of.list;
      after = of.after;
      image_of = of.image_of;
      start = has_start_since (ran_at p) s.known.ran of.events image ran of.start;
    }

-- what a crash leaves within a command
stands_for_reached : (p : DiskState) (a : Reply) (more : List Reply) (k : EventLog) (image : List ℕ) → ((found : Events) → IsPrefix k found → StartsFromEvents p found) → BeginWith (acknowledged_at p) k.acknowledged → BeginWith (ran_at p) k.ran
    → StandsForPrefix k (events_of a.outcome) image → StandsForAll p (a ∷ more) image
stands_for_reached p a more k image finds known ran of = record {
  events = of.events ++ of.more;
  within = inl (of.events, of.more, of.left, finds of.events of.prefix, of.begins, refl);
  begins = with_first (acknowledged_at p) k.acknowledged (of.events ++ of.more) known
      (of.prefix.more ++ of.more, ap (λ (l : Events). l ++ of.more) of.prefix.holds ∙ append_assoc k.acknowledged of.prefix.more of.more);
  list = of.list;
  after = of.after;
  image_of = of.image_of;
  start = has_start_since (ran_at p) k.ran (of.events ++ of.more) image ran of.start;
}

module _ {D : Type 0} (v : Device D) (laws : IsDevice v) where
  -- Each image that a crash may leave where the disk stands is of events that the disk may have there.
  held_images : (p : DiskState) (disk : D) → IsKnown p → DiskIsIn v p disk → (c : List ℕ) → v.may_leave disk c → StandsForAll p [] c
  held_images (unknown_bytes bytes) disk known holds c now = absurd known
  held_images (not_booted s) disk known holds c now = stands_for (not_booted s) s c (λ found is. is) (with_themselves s.known.acknowledged) (with_themselves s.known.ran) (holds c now)
  held_images (running events extent ps) disk known holds c now =
      stands_for (running events extent ps) (store_without_doubt events extent) c (λ found. ⊎_elim (λ is. is) (λ is. is)) (with_themselves events) (with_themselves events) (holds c now)
  held_images (dead s) disk known holds c now = stands_for (dead s) s c (λ found is. is) (with_themselves s.known.acknowledged) (with_themselves s.known.ran) (holds c now)

  -- Each image that a crash may leave at a moment of a command is of the events of a moment of the replies.
  command_images : (p : DiskState) (a : Reply) (more : List Reply) (old new : D) → IsKnown p → CrashSafeDuring v p a.outcome old new → LeavesOnly v old new (StandsForAll p (a ∷ more))
  command_images (unknown_bytes bytes) a more old new known moments = absurd known
  command_images (not_booted s) a more old new known moments =
      weakened v old new (StandsForPrefix s.known (events_of a.outcome)) (StandsForAll (not_booted s) (a ∷ more))
      (λ c. stands_for_reached (not_booted s) a more s.known c (prefix_is s.known) (with_themselves s.known.acknowledged) (with_themselves s.known.ran)) moments
  command_images (running events extent ps) a more old new known moments =
      weakened v old new (StandsForPrefix (log_without_doubt events) (events_of a.outcome)) (StandsForAll (running events extent ps) (a ∷ more))
      (λ c. stands_for_reached (running events extent ps) a more (log_without_doubt events) c (λ found prefix. ⊎_elim (λ is. is) (λ is. is) (prefix_is (log_without_doubt events) found prefix)) (with_themselves events) (with_themselves events)) moments
  command_images (dead s) a more old new known moments =
      weakened v old new (StandsForPrefix s.known (events_of a.outcome)) (StandsForAll (dead s) (a ∷ more))
      (λ c. stands_for_reached (dead s) a more s.known c (prefix_is s.known) (with_themselves s.known.acknowledged) (with_themselves s.known.ran)) moments

  -- Each image that a crash may leave at a moment of a session is of the events of a moment of its replies.
  pub session_images : (base : Source) (files : Files) (p : DiskState) (commands : Feed Command) (ending : Ending) (replies : List Reply) (old new : D) → AreReplies base files p commands ending replies
      → IsKnown p → DiskIsIn v p old → CommandsRun v p replies old new → LeavesOnly v old new (StandsForAll p replies)
  session_images base files p commands ending [] old new right known holds (leaves, then, counted) =
      weakened v old new (v.may_leave old) (StandsForAll p []) (held_images p old known holds) leaves
  session_images base files p commands ending (a ∷ more) old new right known holds (mid, happens, leads) =
      let n = first_answered base files p commands ending a more right in
      let keeps = each_keeps (source_of base files) p n.command a n.is in
      joined v old mid new (StandsForAll p (a ∷ more)) (command_images p a more old mid known happens.moments)
      (weakened v mid new (StandsForAll a.after more) (StandsForAll p (a ∷ more)) (λ c. stands_for_later p a more c keeps)
      (session_images base (files_behind files n.command) a.after n.rest ending more mid new n.right (keeps.known (inl known)) happens.holds leads))

  -- a session in two parts
  pub parts : (p : DiskState) (first rest : List Reply) (old new : D) → DiskIsIn v p old → CommandsRun v p (first ++ rest) old new
      → (mid : D) × CommandsRun v p first old mid × CommandsRun v (place_after p first) rest mid new × DiskIsIn v (place_after p first) mid
  parts p [] rest old new holds leads = (old, (still v laws old, holds, omega arith), leads, holds)
  parts p (a ∷ first) rest old new holds (here, happens, leads) =
      let (mid, before, behind, then) = parts a.after first rest here new happens.holds leads in
      (mid, (here, happens, before), behind, then)

  pub loses_nothing : (base : Source) → LosesNothing v base
  loses_nothing base files p commands ending first rest old new right holds leads known =
      let (mid, before, behind, then) = parts p first rest old new holds leads in
      let (fs, left, right_then) = rest_right base files p commands ending first rest right in
      let known_then = becomes_known base files p commands ending first rest right known in
      record {
        mid = mid;
        before = before;
        behind = behind;
        known = known_then;
        have_all = have_all base files p commands ending first rest right;
        moments = session_images base fs (place_after p first) left ending rest mid new right_then known_then then behind;
      }

  -- the disk after a session
  pub handed_back : (p : DiskState) (replies : List Reply) (old new : D) → CommandsRun v p replies old new → DiskIsIn v (place_after p replies) new
  handed_back p [] old new (leaves, then, counted) = then
  handed_back p (a ∷ more) old new (mid, happens, leads) = handed_back a.after more mid new leads

  pub starts_at_rest : (p : DiskState) (disk : D) → DiskIsIn v p disk → Starts v (at_rest p) disk
  starts_at_rest (unknown_bytes bytes) disk holds = holds
  starts_at_rest (not_booted s) disk holds = holds
  starts_at_rest (running events extent ps) disk holds = holds
  starts_at_rest (dead s) disk holds = holds

  pub begins_where_one_ended : BeginsWhereOneEnded v
  begins_where_one_ended p replies old new leads = starts_at_rest (place_after p replies) new (handed_back p replies old new leads)

  pub begins_behind_a_crash : BeginsBehindACrash v
  begins_behind_a_crash p replies image disk of only = λ c now. subst (IsCrashImageOf (store_left p replies image of)) (sym (only c now)) (record {
    events = of.events;
    has = (with_first (ran_at p) of.start.before of.events of.start.since (of.start.later, of.start.is), inl (refl, refl));
    list = of.list;
    after = of.after;
    image_of = of.image_of;
    start = of.start;
  })

  known_at_rest : (p : DiskState) → IsKnown p → (s : StoreState) × (at_rest p ≡ not_booted s) × (s.known.acknowledged ≡ acknowledged_at p) × (s.known.ran ≡ ran_at p)
  known_at_rest (unknown_bytes bytes) known = absurd known
  known_at_rest (not_booted s) known = (s, refl, refl, refl)
  known_at_rest (running events extent ps) known = (store_without_doubt events extent, refl, refl, refl)
  known_at_rest (dead s) known = (s, refl, refl, refl)

  is_handed_back : (p : DiskState) (replies : List Reply) → IsStill p replies → (s : StoreState) × IsHandedBack p replies s
  is_handed_back p replies (known, more, is, ran) =
      let (s, rests, are, last) = known_at_rest (place_after p replies) known in
      (s, record { is = sym rests; begins = (more, are ∙ is); ran = subst (BeginWith (ran_at p)) (sym last) ran })

  -- a next session goes on so, where each that begins with a store does
  goes_on : (p : DiskState) (replies : List Reply) (old new : D) (Next : StoreState → D → Type 0) → LeavesOnly v old new (StandsForAll p replies) → IsStill p replies → DiskIsIn v (place_after p replies) new
      → ((s : StoreState) (disk : D) → Starts v (not_booted s) disk → Next s disk) → GoesOn v p replies old new Next
  goes_on p replies old new Next moments stays holds begins =
      let (s, back) = is_handed_back p replies stays in (
        (s, back, begins s new (subst (λ q. Starts v q new) (sym back.is) (starts_at_rest (place_after p replies) new holds))),
        λ image later left only.
            let of = moments.each image left in
            (of, begins (store_left p replies image of) later (begins_behind_a_crash p replies image later of only)),
      )

  pub loses_nothing_ever : (base : Source) → LosesNothingEver v base
  loses_nothing_ever base zero s disk starts = starts
  loses_nothing_ever base (suc n) s disk starts = (
    starts,
    λ files commands ending first rest mid new right before behind.
        let (fs, left, right_then) = rest_right base files (not_booted s) commands ending first rest right in
        let known = becomes_known base files (not_booted s) commands ending first rest right (known_first (not_booted s) first tt) in
        let then = place_after (not_booted s) first in
        let moments = session_images base fs then left ending rest mid new right_then known (handed_back (not_booted s) first disk mid before) behind in (
          have_all base files (not_booted s) commands ending first rest right,
          goes_on then rest mid new (λ t later. Lasts v base n t later) moments (stays_known base fs then left ending rest right_then known) (handed_back then rest mid new behind)
              (λ t later begins. loses_nothing_ever base n t later begins),
        ),
  )
