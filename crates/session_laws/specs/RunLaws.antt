-- What is so of whole sessions at each of their moments, and of sessions one after another.
use Rattle.std.specs.Prelude.{◌≡◌, ◌≢◌, ◌⊎◌, ℕ, zero, suc, false, List, [], ◌∷◌, ◌++◌, None, Some}
use Rattle.rel_disk.specs.Damage.{Only}
use Rattle.rel_list.specs.Releases.{Bundle, Releases}
use Rattle.rel_list.specs.Event.{list_after}
use Rattle.rel_list.specs.Event.Event.{made, boot as booting}
use Rattle.node_store.specs.Events.{EventLog, Events, StoreState, log_without_doubt, with_doubt, at_rest_since, BeginWith, HasRecentStart, IsCrashImageOf, IsOfPrefix}
use Rattle.node_store.specs.Image.{extent_of, IsImageOf}
use Rattle.session_input.specs.Commands.{Command}
use Rattle.rel_session.specs.Device.{Device, LeavesOnly}
use Rattle.session_input.specs.Feed.{Feed}
use Rattle.rel_unpack.specs.Source.{Source}
use Rattle.rel_session.specs.Files.{Files}
use Rattle.rel_session.specs.Node.{DiskState, at_rest, Reply}
use Rattle.rel_session.specs.Node.DiskState.{unknown_bytes, not_booted, running, dead}
use Rattle.rel_session.specs.Run.{Starts, DiskIsIn, CommandsRun, AreReplies, Ending, events_of}
use Rattle.rel_session.specs.Transition.{Transition}

-- what is known of the events where the disk stands; of bytes that are no known store there are none
abbrev pub known_at : DiskState → EventLog
known_at (unknown_bytes bytes) = log_without_doubt []
known_at (not_booted s) = s.known
known_at (running events extent ps) = log_without_doubt events
known_at (dead s) = s.known

-- the acknowledged events of the store where the disk stands
abbrev pub acknowledged_at : DiskState → Events
acknowledged_at p = (known_at p).acknowledged

-- the events after which the start record was last sure to be right, where the disk stands
abbrev pub ran_at : DiskState → Events
ran_at p = (known_at p).ran

-- Where the disk stands nothing is in doubt, and the start record is right.
abbrev pub IsSettled : DiskState → Type 0
IsSettled p = known_at p ≡ log_without_doubt (acknowledged_at p)

-- The disk stands at a store that is known.
abbrev pub IsKnown : DiskState → Type 0
IsKnown (unknown_bytes bytes) = ⊥
IsKnown p = Unit {0}

-- The events are those of the store: the acknowledged ones, or those with the one in doubt.
abbrev pub MayBeEventsOf : StoreState → Events → Type 0
MayBeEventsOf s events =
    (events ≡ s.known.acknowledged) ⊎ (events ≡ with_doubt s.known.acknowledged s.known.in_doubt)

-- A command finds these events where the disk stands. Of bytes it finds none, or at a boot some that have their list.
abbrev pub StartsFromEvents : DiskState → Events → Type 0
StartsFromEvents (unknown_bytes bytes) events =
    (events ≡ []) ⊎ ((list : Releases) × (list_after events ≡ Some list) × IsImageOf bytes list)
StartsFromEvents (not_booted s) events = MayBeEventsOf s events
StartsFromEvents (running events extent ps) found = found ≡ events
StartsFromEvents (dead s) events = MayBeEventsOf s events

-- A command did nothing to the events; or at most its own last one is in doubt after it.
abbrev pub DoubtsOwnAlone : DiskState → Reply → Type 0
DoubtsOwnAlone p a =
    ((a.outcome.acknowledged ≡ []) × (known_at a.after ≡ known_at p))
    ⊎ (((known_at a.after).in_doubt ≡ None) ⊎ ((known_at a.after).in_doubt ≡ a.outcome.in_doubt))

-- After a reply the acknowledged events are those that it found, with its own at the end. A store that is known stays
-- so, and one with an acknowledged event is known. The start record was right no sooner than before, and is right where an
-- event was acknowledged.
pub record ReplyKeepsEvents (p : DiskState) (a : Reply) : Type 0 where
  pub found : Events
  pub finds : StartsFromEvents p found
  pub are : acknowledged_at a.after ≡ found ++ a.outcome.acknowledged
  pub known : IsKnown p ⊎ (a.outcome.acknowledged ≢ []) → IsKnown a.after
  pub doubt : DoubtsOwnAlone p a
  pub ran : BeginWith (ran_at p) (ran_at a.after)
  pub right : IsSettled p ⊎ (a.outcome.acknowledged ≢ []) → ran_at a.after ≡ acknowledged_at a.after

-- Each reply keeps the acknowledged events.
abbrev pub EachKeeps : Source → Type 0
EachKeeps source = (p : DiskState) (c : Command) (a : Reply) → Transition source p c a → ReplyKeepsEvents p a

-- where the disk stands after these replies
abbrev pub place_after : DiskState → List Reply → DiskState
place_after p [] = p
place_after p (a ∷ more) = place_after a.after more

-- The acknowledged events after the replies are these: after each reply they are those that its command found, with its own at
-- the end. No others are acknowledged.
abbrev pub AreAcknowledgedAfter : DiskState → List Reply → Events → Type 0
AreAcknowledgedAfter p [] events = events ≡ acknowledged_at p
AreAcknowledgedAfter p (a ∷ more) events =
    (found : Events) × StartsFromEvents p found × (acknowledged_at a.after ≡ found ++ a.outcome.acknowledged) × AreAcknowledgedAfter a.after more events

-- The store may have these events at a moment of the replies: those that a command finds, with none, some or all of its own at
-- the end, in order; or those that are found after the replies.
abbrev pub MayBeEventsDuring : DiskState → List Reply → Events → Type 0
MayBeEventsDuring p [] events = StartsFromEvents p events
MayBeEventsDuring p (a ∷ more) events =
    ((found begun left : Events) × StartsFromEvents p found × (begun ++ left ≡ events_of a.outcome) × (events ≡ found ++ begun))
    ⊎ MayBeEventsDuring a.after more events

-- The bytes stand for the list of events of a moment of the replies, which begin with all that were acknowledged before them.
-- They have a start record of those events that is no older than when it was last right.
pub record StandsForAll (p : DiskState) (replies : List Reply) (image : List ℕ) : Type 0 where
  pub events : Events
  pub within : MayBeEventsDuring p replies events
  pub begins : BeginWith (acknowledged_at p) events
  pub list : Releases
  pub after : list_after events ≡ Some list
  pub image_of : IsImageOf image list
  pub start : HasRecentStart (ran_at p) events image

-- the store is known before the replies, or one of them acknowledges an event
abbrev pub BecomesKnown : DiskState → List Reply → Type 0
BecomesKnown p [] = IsKnown p
BecomesKnown p (a ∷ more) = (IsKnown p ⊎ (a.outcome.acknowledged ≢ [])) ⊎ BecomesKnown a.after more

-- After the first replies of a session the acknowledged events are those before it with those of these replies. At each moment
-- from there on a crash leaves the list of events that begin with all of them. After these stand only what was in doubt, and
-- what the other replies add. And it leaves a start record that is no older than when it was last right, as it is where a node
-- runs.
pub record KeepsAll {D : Type 0} (v : Device D) (p : DiskState) (first rest : List Reply) (old new : D) : Type 0 where
  pub mid : D
  pub before : CommandsRun v p first old mid
  pub behind : CommandsRun v (place_after p first) rest mid new
  pub known : IsKnown (place_after p first)
  pub have_all : AreAcknowledgedAfter p first (acknowledged_at (place_after p first))
  pub moments : LeavesOnly v mid new (StandsForAll (place_after p first) rest)

-- No moment of a session loses an acknowledged event, or has one that no command asked for.
abbrev pub LosesNothing : {D : Type 0} → Device D → Source → Type 0
LosesNothing {D} v base =
    (files : Files) (p : DiskState) (commands : Feed Command) (ending : Ending) (first rest : List Reply) (old new : D)
    → AreReplies base files p commands ending (first ++ rest) → DiskIsIn v p old → CommandsRun v p (first ++ rest) old new
    → BecomesKnown p first → KeepsAll v p first rest old new

-- An image of a store stands for the list of a prefix of the accepted events, with every acknowledged one.
abbrev pub IsOfAccepted : Type 0
IsOfAccepted = (s : StoreState) (image : List ℕ) → IsCrashImageOf s image → IsOfPrefix s.known image

-- A session begins on the disk that another handed back.
abbrev pub BeginsWhereOneEnded : {D : Type 0} → Device D → Type 0
BeginsWhereOneEnded {D} v =
    (p : DiskState) (replies : List Reply) (old new : D)
    → CommandsRun v p replies old new → Starts v (at_rest (place_after p replies)) new

-- the store of such bytes after a crash: their events are acknowledged then, and none is in doubt
abbrev pub store_left : (p : DiskState) (replies : List Reply) (image : List ℕ) → StandsForAll p replies image → StoreState
store_left p replies image of = at_rest_since (ran_at p) of.events (extent_of image)

-- A session begins on a disk that holds nothing but what a crash left, and just the events of these bytes are acknowledged
-- then.
abbrev pub BeginsBehindACrash : {D : Type 0} → Device D → Type 0
BeginsBehindACrash {D} v =
    (p : DiskState) (replies : List Reply) (image : List ℕ) (disk : D) (of : StandsForAll p replies image)
    → Only image (v.may_leave disk) → Starts v (not_booted (store_left p replies image of)) disk

-- This store is handed back after the replies. It has all events that were acknowledged before them, and its start record is no
-- older than it was then.
pub record IsHandedBack (p : DiskState) (replies : List Reply) (s : StoreState) : Type 0 where
  pub is : not_booted s ≡ at_rest (place_after p replies)
  pub begins : BeginWith (acknowledged_at p) s.known.acknowledged
  pub ran : BeginWith (ran_at p) s.known.ran

-- `Next` holds where a next session begins: on the disk that was handed back, with its store; and on each that has what a crash
-- left at a moment of the replies, with the store of just its events.
abbrev pub GoesOn : {D : Type 0} → Device D → DiskState → List Reply → D → D → (StoreState → D → Type 0) → Type 0
GoesOn {D} v p replies old new Next =
    ((s : StoreState) × IsHandedBack p replies s × Next s new)
    × ((image : List ℕ) (later : D) → v.left_since new (v.moment old) image → Only image (v.may_leave later)
    → (of : StandsForAll p replies image) × Next (store_left p replies image of) later)

-- A session may begin with this store on the disk, and so over as many sessions. After its replies the acknowledged events are
-- those of the store with those of the replies. After any of them a crash may come, or its end, and then a next session.
abbrev pub Lasts : {D : Type 0} → Device D → Source → ℕ → StoreState → D → Type 0
Lasts v base zero s disk = Starts v (not_booted s) disk
Lasts {D} v base (suc n) s disk =
    Starts v (not_booted s) disk
    × ((files : Files) (commands : Feed Command) (ending : Ending) (first rest : List Reply) (mid new : D)
    → AreReplies base files (not_booted s) commands ending (first ++ rest) → CommandsRun v (not_booted s) first disk mid
    → CommandsRun v (place_after (not_booted s) first) rest mid new
    → AreAcknowledgedAfter (not_booted s) first (acknowledged_at (place_after (not_booted s) first))
    × GoesOn v (place_after (not_booted s) first) rest mid new (λ t later. Lasts v base n t later))

-- Where a store is known, no number of sessions and crashes loses an acknowledged event, adds one that no command asked for, or
-- brings back a start record from before it was last right.
abbrev pub LosesNothingEver : {D : Type 0} → Device D → Source → Type 0
LosesNothingEver {D} v base = (n : ℕ) (s : StoreState) (disk : D) → Starts v (not_booted s) disk → Lasts v base n s disk

-- the device fails in none of the replies
abbrev pub NoneFails : List Reply → Type 0
NoneFails [] = Unit {0}
NoneFails (a ∷ more) = (a.outcome.failed ≡ false) × NoneFails more

-- None of the replies acknowledges an event.
abbrev pub NoneAcknowledged : List Reply → Type 0
NoneAcknowledged [] = Unit {0}
NoneAcknowledged (a ∷ more) = (a.outcome.acknowledged ≡ []) × NoneAcknowledged more

-- On an empty disk the first reply that acknowledges events is that a release was made, where the device did not fail
-- before, and from that reply on no moment loses an acknowledged event, or has one that no command asked for.
abbrev pub BeginsWithAMaking : {D : Type 0} → Device D → Source → Type 0
BeginsWithAMaking {D} v base =
    (files : Files) (commands : Feed Command) (ending : Ending)
    (first : List Reply) (a : Reply) (rest : List Reply) (old new : D)
    → AreReplies base files (unknown_bytes []) commands ending (first ++ a ∷ rest)
    → v.seen old ≡ [] → CommandsRun v (unknown_bytes []) (first ++ a ∷ rest) old new
    → NoneFails first → NoneAcknowledged first → a.outcome.acknowledged ≢ []
    → (p : Bundle) × (a.outcome.acknowledged ≡ made p ∷ booting ∷ [])
    × (acknowledged_at a.after ≡ made p ∷ booting ∷ []) × KeepsAll v (unknown_bytes []) (first ++ a ∷ []) rest old new
