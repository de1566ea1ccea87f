-- A session as a run: the commands of its input lead its disk, one after another, from one place to the next.
use Rattle.std.specs.Prelude.{◌≡◌, ◌⊎◌, ℕ, ◌≤◌, true, List, [], ◌∷◌, ◌++◌, Option, None, Some}
use Rattle.rel_list.specs.Releases.{Releases}
use Rattle.rel_list.specs.Event.{Event, list_after}
use Rattle.rel_list.specs.Event.Event.{made}
use Rattle.node_store.specs.Events.{EventLog, Events, log_without_doubt, IsPrefix, with_doubt, HasRecentStart, IsCrashImageOf, store_without_doubt}
use Rattle.node_store.specs.Image.{holds_a_store, IsImageOf, IsLeftByBoot}
use Rattle.rel_handler.specs.Moments.{Begins, BeginsAt}
use Rattle.node_store.specs.Events.{log_with_doubt}
use Rattle.session_input.specs.Commands.{Command, commands_of}
use Rattle.session_input.specs.Commands.Command.{quit}
use Rattle.rel_session.specs.Device.{Device, LeavesOnly, HasFailed}
use Rattle.session_input.specs.Feed.{Feed, bytes_within}
use Rattle.session_input.specs.Feed.Feed.{over, cut, next}
use Rattle.rel_unpack.specs.Source.{Source}
use Rattle.rel_session.specs.Files.{Files, files_behind, source_of}
use Rattle.session_input.specs.Input.{most_bytes}
use Rattle.session_input.specs.Lines.{lines_of}
use Rattle.rel_session.specs.Node.{DiskState, CommandOutcome, Reply}
use Rattle.rel_session.specs.Node.DiskState.{unknown_bytes, not_booted, running, dead}
use Rattle.rel_session.specs.Transition.{Transition}

-- The disk is that of a node between two commands: a read gives the bytes of the place, or whatever a crash leaves of it is the
-- store of the place. So, where a node runs, the start record is that of the permanent release.
abbrev pub DiskIsIn : {D : Type 0} → Device D → DiskState → D → Type 0
DiskIsIn v (unknown_bytes bytes) disk = v.seen disk ≡ bytes
DiskIsIn v (not_booted s) disk = (c : List ℕ) → v.may_leave disk c → IsCrashImageOf s c
DiskIsIn v (running events extent ps) disk = (c : List ℕ) → v.may_leave disk c → IsCrashImageOf (store_without_doubt events extent) c
DiskIsIn v (dead s) disk = (c : List ℕ) → v.may_leave disk c → IsCrashImageOf s c

-- A session begins on a disk on which no node runs.
abbrev pub Starts : {D : Type 0} → Device D → DiskState → D → Type 0
Starts v (unknown_bytes bytes) disk = DiskIsIn v (unknown_bytes bytes) disk
Starts v (not_booted s) disk = DiskIsIn v (not_booted s) disk
Starts v p disk = ⊥

-- the events of a command, the one in doubt last
abbrev pub events_of : CommandOutcome → Events
events_of o = with_doubt o.acknowledged o.in_doubt

-- The bytes stand for the list of a prefix of the events so far that holds every acknowledged one, and have a start record of
-- that prefix. The events so far are those that were known of the node before the command, and then, in order, the command's
-- own.
pub record StandsForPrefix (k : EventLog) (command : Events) (image : List ℕ) : Type 0 where
  pub events : Events
  pub prefix : IsPrefix k events
  pub more : Events
  pub left : Events
  pub begins : more ++ left ≡ command
  pub list : Releases
  pub after : list_after (events ++ more) ≡ Some list
  pub image_of : IsImageOf image list
  pub start : HasRecentStart k.ran (events ++ more) image

-- What a crash may leave at each moment of a command on a disk on which no node is known. A creation leaves no store, or one
-- with its event, after a moment up to which no more than the first byte was written; one in doubt may have had no such moment,
-- and leaves nothing new on a store. A boot that is done or that the device failed leaves nothing new but what it has written;
-- any other command nothing at all.
abbrev pub CrashSafeOnUnknownDisk : {D : Type 0} → Device D → Events → Option Event → D → D → Type 0
CrashSafeOnUnknownDisk {D} v (made p ∷ more) doubt old new =
    (at : D) × BeginsAt v (log_with_doubt [] (made p)) old new at
CrashSafeOnUnknownDisk v [] (Some (made p)) old new =
    Begins v (log_with_doubt [] (made p)) old new
    × (holds_a_store (v.seen old) ≡ true → LeavesOnly v old new (v.may_leave old))
CrashSafeOnUnknownDisk v [] None old new = LeavesOnly v old new (v.may_leave old)
CrashSafeOnUnknownDisk v acknowledged doubt old new = LeavesOnly v old new (λ c. v.may_leave old c ⊎ IsLeftByBoot (v.seen old) c)

-- What a crash may leave at each moment of a command with this outcome: a prefix of the events so far, with the command's own.
abbrev pub CrashSafeDuring : {D : Type 0} → Device D → DiskState → CommandOutcome → D → D → Type 0
CrashSafeDuring v (unknown_bytes bytes) o old new = CrashSafeOnUnknownDisk v o.acknowledged o.in_doubt old new
CrashSafeDuring v (not_booted s) o old new = LeavesOnly v old new (StandsForPrefix s.known (events_of o))
CrashSafeDuring v (running events extent ps) o old new = LeavesOnly v old new (StandsForPrefix (log_without_doubt events) (events_of o))
CrashSafeDuring v (dead s) o old new = LeavesOnly v old new (StandsForPrefix s.known (events_of o))

-- A command with this reply led from the one disk to the other.
pub record CommandRuns {D : Type 0} (v : Device D) (p : DiskState) (a : Reply) (old new : D) : Type 0 where
  pub moments : CrashSafeDuring v p a.outcome old new
  pub holds : DiskIsIn v a.after new
  pub cause : a.outcome.failed ≡ true → HasFailed v old new
  pub counted : v.failures old ≤ v.failures new

-- Commands with these replies led, one after another, from the one disk to the other. Memory may be refused to a further
-- one, which then leaves nothing new.
abbrev pub CommandsRun : {D : Type 0} → Device D → DiskState → List Reply → D → D → Type 0
CommandsRun v p [] old new = LeavesOnly v old new (v.may_leave old) × DiskIsIn v p new × (v.failures old ≤ v.failures new)
CommandsRun {D} v p (a ∷ more) old new = (mid : D) × CommandRuns v p a old mid × CommandsRun v a.after more mid new

-- How a session ends: at the end of its input or `quit`, or where its input is cut off; or early, where a read of it failed, an
-- answer was not written, or memory was refused. Or it goes on.
pub data Ending : Type 0 where
  ended : Ending
  cut_off : Ending
  unread : Ending
  unwritten : Ending
  out_of_memory : Ending
  going_on : Ending

-- The session ended at the end of what it may read.
abbrev pub EndsInFull : Ending → Type 0
EndsInFull ended = Unit {0}
EndsInFull cut_off = Unit {0}
EndsInFull ending = ⊥

-- The replies to the commands, in order, over a source of files: to each command up to the end or `quit`, and so where a read
-- failed; or only to the first of them, where an answer was not written or memory was refused.
abbrev pub AreReplies : Source → Files → DiskState → Feed Command → Ending → List Reply → Type 0
AreReplies base files p (next c commands) ending (a ∷ more) =
    Transition (source_of base files) p c a × AreReplies base (files_behind files c) a.after commands ending more
AreReplies base files p commands unwritten [] = Unit {0}
AreReplies base files p commands out_of_memory [] = Unit {0}
AreReplies base files p commands going_on [] = Unit {0}
AreReplies base files p cut unread [] = Unit {0}
AreReplies base files p over ending [] = ending ≡ ended
AreReplies base files p cut ending [] = ending ≡ cut_off
AreReplies base files p (next c commands) ending [] = (c ≡ quit) × (ending ≡ ended)
AreReplies base files p commands ending replies = ⊥

-- the answers of these replies, one after another
abbrev pub answers_of : List Reply → List ℕ
answers_of [] = []
answers_of (a ∷ more) = a.answer ++ answers_of more

-- What is written for these replies: their answers, one after another. Where an answer was not written, that is the last one,
-- and a part of it stands there. Where memory was refused, the last one may have none.
abbrev pub IsTextOf : Ending → List Reply → List ℕ → Type 0
IsTextOf unwritten replies text = (first : List Reply) × (last : Reply) × (part left : List ℕ)
    × (replies ≡ first ++ last ∷ []) × (part ++ left ≡ last.answer) × (text ≡ answers_of first ++ part)
IsTextOf out_of_memory replies text = (text ≡ answers_of replies)
    ⊎ ((first : List Reply) × (last : Reply) × (replies ≡ first ++ last ∷ []) × (text ≡ answers_of first))
IsTextOf ending replies text = text ≡ answers_of replies

-- the commands of an input of which so many bytes are read at most
abbrev pub commands_within : ℕ → List ℕ → Feed Command
commands_within most input = commands_of (lines_of (bytes_within most input))

-- the commands of an input
abbrev pub commands_in : List ℕ → Feed Command
commands_in input = commands_within most_bytes input

-- A session with these commands ended so, on this disk and over these files, and this was written.
pub record IsRun {D : Type 0} (v : Device D) (base : Source) (files : Files) (p : DiskState) (commands : Feed Command)
    (ending : Ending) (old new : D) (text : List ℕ) : Type 0 where
  pub replies : List Reply
  pub right : AreReplies base files p commands ending replies
  pub leads : CommandsRun v p replies old new
  pub written : IsTextOf ending replies text
