-- Crash safety of whole sessions: which events the store of a node has at each moment of a session, and of any number of
-- sessions and crashes.
use Rattle.std.specs.Prelude.{◌≡◌, ◌≢◌, ◌⊎◌, ℕ, zero, suc, List, [], ◌∷◌, ◌++◌, Option, None}
use Rattle.rel_disk.specs.Damage.{Only}
use Rattle.rel_list.specs.Releases.{Bundle}
use Rattle.rel_list.specs.Event.Event.{made, boot as booting}
use Rattle.node_store.specs.Events.{EventLog, Events, StoreState, log_without_doubt, at_rest_since, BeginWith, IsPrefix}
use Rattle.node_store.specs.Image.{extent_of}
use Rattle.rel_unpack.specs.Source.{Source}
use Rattle.session_input.specs.Commands.{Command}
use Rattle.session_input.specs.Feed.{Feed}
use Rattle.session_input.specs.Input.{most_bytes}
use Rattle.rel_session.specs.Device.{Device, LeavesOnly}
use Rattle.rel_session.specs.Files.{no_files}
use Rattle.rel_session.specs.Node.{DiskState, CommandOutcome, Reply}
use Rattle.rel_session.specs.Node.DiskState.{unknown_bytes, not_booted}
use Rattle.rel_session.specs.Output.{Writes}
use Rattle.rel_session.specs.Run.{Starts, CommandsRun, Ending, StandsForPrefix, IsRun, events_of}
use Rattle.rel_session.specs.Run.Ending.{going_on}
use Rattle.rel_session.specs.Session.{AllowsTrueAnswersOnly, AreCommands, IsSession, bytes_followed}
use Rattle.session_laws.specs.RunLaws.{NoneFails, NoneAcknowledged}

-- A command has added its events: it found a prefix of the accepted ones with every acknowledged one, and those that it
-- acknowledges itself stand after that prefix. At most its own last one is in doubt then. The start record is no older than
-- before, and right where the command acknowledges an event.
pub record AddsItsEvents (k : EventLog) (o : CommandOutcome) (next : EventLog) : Type 0 where
  pub found : Events
  pub prefix : IsPrefix k found
  pub acknowledged : next.acknowledged ≡ found ++ o.acknowledged
  pub in_doubt : (next.in_doubt ≡ None) ⊎ (next.in_doubt ≡ o.in_doubt)
  pub ran : BeginWith k.ran next.ran
  pub right : o.acknowledged ≢ [] → next.ran ≡ next.acknowledged

-- What is known of the events after a command: the same as before, where the command acknowledges nothing; or what is known
-- since it has added its events.
abbrev pub IsKnownAfter : EventLog → CommandOutcome → EventLog → Type 0
IsKnownAfter k o next = ((o.acknowledged ≡ []) × (next ≡ k)) ⊎ AddsItsEvents k o next

-- A command of those with these replies is under way, before which `at` is known and whose events are `own`; or none is,
-- after the last.
abbrev pub IsUnderWay : EventLog → List Reply → EventLog → Events → Type 0
IsUnderWay k [] at own = (at ≡ k) × (own ≡ [])
IsUnderWay k (a ∷ more) at own =
    ((at ≡ k) × (own ≡ events_of a.outcome))
    ⊎ ((next : EventLog) × IsKnownAfter k a.outcome next × IsUnderWay next more at own)

-- the store of the bytes that a crash left: it has just their events, and none is in doubt
abbrev pub store_after_crash : (k : EventLog) (own : Events) (image : List ℕ) → StandsForPrefix k own image → StoreState
store_after_crash k own image of = at_rest_since k.ran (of.events ++ of.more) (extent_of image)

-- After a crash at any moment of the commands with these replies another session may go on: where a disk holds just what the
-- crash left, `Next` holds of the store of just the events of these bytes, and of that disk.
abbrev pub GoesOnAfterCrash : {D : Type 0} → Device D → (StoreState → D → Type 0) → EventLog → List Reply → D → D → Type 0
GoesOnAfterCrash {D} v Next k replies old new =
    (image : List ℕ) (disk : D) → v.left_since new (v.moment old) image → Only image (v.may_leave disk)
    → (at : EventLog) × (own : Events) × IsUnderWay k replies at own
    × (of : StandsForPrefix at own image) × Next (store_after_crash at own image of) disk

-- Each image of a disk that is handed back stands for the list of a prefix of the accepted events with every acknowledged one,
-- and `Next` holds of its store, of which the same is known, and of the disk.
pub record HandsBack {D : Type 0} (v : Device D) (Next : StoreState → D → Type 0) (k : EventLog) (disk : D) : Type 0 where
  pub images : (c : List ℕ) → v.may_leave disk c → StandsForPrefix k [] c
  pub store : StoreState
  pub known : store.known ≡ k
  pub next : Next store disk

-- No moment of the commands with these replies loses an acknowledged event, or has one that nobody asked for. At each moment of
-- a command a crash leaves what was known before the command, with what the command has added by then. After the last one it
-- leaves what is known then, on the disk that is handed back too. `Next` holds of each store and disk with which another
-- session may begin: after a crash at any moment from before a command on, and after the end.
abbrev pub KeepsEvents : {D : Type 0} → Device D → (StoreState → D → Type 0) → EventLog → List Reply → D → D → Type 0
KeepsEvents v Next k [] old new =
    LeavesOnly v old new (StandsForPrefix k []) × GoesOnAfterCrash v Next k [] old new × HandsBack v Next k new
KeepsEvents {D} v Next k (a ∷ more) old new =
    (mid : D) × (next : EventLog) × LeavesOnly v old mid (StandsForPrefix k (events_of a.outcome)) × IsKnownAfter k a.outcome next
    × GoesOnAfterCrash v Next k (a ∷ more) old new × KeepsEvents v Next next more mid new

-- What is known of the events after commands with these replies, one after another.
abbrev pub IsKnownAfterAll : EventLog → List Reply → EventLog → Type 0
IsKnownAfterAll k [] last = last ≡ k
IsKnownAfterAll k (a ∷ more) last = (next : EventLog) × IsKnownAfter k a.outcome next × IsKnownAfterAll next more last

-- The acknowledged events after commands begin with those that were acknowledged before.
abbrev pub KeepsAcknowledged : Type 0
KeepsAcknowledged =
    (k last : EventLog) (replies : List Reply) → IsKnownAfterAll k replies last → BeginWith k.acknowledged last.acknowledged

-- A session that began where the disk stands so was a run over the commands of its input, whose answers are what was written,
-- and `P` holds of that text and of the replies.
abbrev pub RunsWith : {D : Type 0} → Device D → Source → Ending → ℕ → DiskState → Option (List ℕ) → D → D
    → Option (List ℕ) → Option (List ℕ) → (List ℕ → List Reply → Type 0) → Type 0
RunsWith v base ending taken p input old new written written_then P =
    (commands : Feed Command) × AreCommands (bytes_followed ending taken) input commands
    × Writes written written_then (λ text. (run : IsRun v base no_files p commands ending old new text) × P text run.replies)

-- A session that began on a disk with this store keeps its events, however it ended. The premise is what `session` ensures.
abbrev pub SessionsKeepEvents : {D : Type 0} → Device D → Source → (StoreState → D → Type 0) → StoreState → D → Type 0
SessionsKeepEvents {D} v base Next s old =
    (ending : Ending) (taken : ℕ) (input written written_then : Option (List ℕ)) (new : D)
    → IsSession v base no_files ending taken input old new written written_then
    → RunsWith v base ending taken (not_booted s) input old new written written_then
    (λ text replies. KeepsEvents v Next s.known replies old new)

-- A session on such a disk may be given a writer that accepts an answer only where the disk, as it is when the answer is
-- written, keeps the events of all answers so far.
abbrev pub AnswersKeepEvents : {D : Type 0} → Device D → Source → (StoreState → D → Type 0) → StoreState → D → Type 0
AnswersKeepEvents {D} v base Next s old =
    (input written : Option (List ℕ)) → AllowsTrueAnswersOnly v base input old written (λ disk text.
    RunsWith v base going_on most_bytes (not_booted s) input old disk written text (λ answers replies. KeepsEvents v Next s.known replies old disk))

-- On an empty disk the first reply that acknowledges an event, where the device did not fail before it, acknowledges that a
-- release was made and booted. No moment after it loses an acknowledged event, or has one that nobody asked for.
abbrev pub KeepsEventsOnceMade : {D : Type 0} → Device D → (StoreState → D → Type 0) → List Reply → D → D → Type 0
KeepsEventsOnceMade {D} v Next replies old new =
    (first : List Reply) (a : Reply) (rest : List Reply)
    → replies ≡ first ++ a ∷ rest → NoneFails first → NoneAcknowledged first → a.outcome.acknowledged ≢ []
    → (p : Bundle) × (mid : D) × (a.outcome.acknowledged ≡ made p ∷ booting ∷ [])
    × CommandsRun v (unknown_bytes []) (first ++ a ∷ []) old mid
    × KeepsEvents v Next (log_without_doubt (made p ∷ booting ∷ [])) rest mid new

-- A session that began on an empty disk keeps its events once a release was made, however it ended.
abbrev pub SessionsKeepEventsOnceMade : {D : Type 0} → Device D → Source → (StoreState → D → Type 0) → D → Type 0
SessionsKeepEventsOnceMade {D} v base Next old =
    (ending : Ending) (taken : ℕ) (input written written_then : Option (List ℕ)) (new : D)
    → IsSession v base no_files ending taken input old new written written_then
    → RunsWith v base ending taken (unknown_bytes []) input old new written written_then
    (λ text replies. KeepsEventsOnceMade v Next replies old new)

-- A session may begin with this store on the disk.
abbrev pub SessionMayBegin : {D : Type 0} → Device D → StoreState → D → Type 0
SessionMayBegin v s disk = Starts v (not_booted s) disk

-- Over so many sessions no acknowledged event is lost, and none is there that nobody asked for. The first one begins with this
-- store on the disk, and each other one on the disk that the one before it handed back, or on one that holds what a crash left
-- at a moment of that one.
abbrev pub KeepEventsOver : {D F : Type 0} → Device D → (F → Source) → ℕ → StoreState → D → Type 0
KeepEventsOver v gives zero s disk = SessionMayBegin v s disk
KeepEventsOver {D} {F} v gives (suc n) s disk =
    SessionMayBegin v s disk
    × ((files : F) → SessionsKeepEvents v (gives files) (λ t later. KeepEventsOver v gives n t later) s disk)
