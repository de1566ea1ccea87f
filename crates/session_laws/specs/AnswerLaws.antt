-- What is so of the answers of whole sessions.
use Rattle.std.specs.Prelude.{◌≡◌, ◌≢◌, ◌⊎◌, Bool, true, false, ℕ, List, [], ◌∷◌, ◌++◌, Option, None, Some}
use Rattle.std.specs.List.{AllByRecursion}
use Rattle.erl_term.specs.Lines.{is_one_line}
use Rattle.erl_term.specs.Value.{Value}
use Rattle.rel_files.specs.File.{HasVersions}
use Rattle.library.specs.Library.{IsLibrary}
use Rattle.rel_list.specs.Releases.{Bundle, Entry, Releases, bundle_in, has_current}
use Rattle.rel_list.specs.Event.{Event, booted, list_after}
use Rattle.rel_list.specs.Event.Event.{restart_installed, boot as booting}
use Rattle.node_processes.specs.ModuleVersions.{HaveModuleVersions}
use Rattle.node_store.specs.Compaction.{compacted_extent}
use Rattle.node_store.specs.Image.{holds_a_store, IsImageOf}
use Rattle.rel_handler.specs.Refusals.{IsBootRefusal}
use Rattle.rel_handler.specs.declared.error.BootError.{BootError}
use Rattle.rel_handler.specs.declared.error.BootError.TheVariants as boot_error
use Rattle.node_store.specs.Events.{EventLog, Events, StoreState, at_rest_since, BeginWith}
use Rattle.session_input.specs.Commands.{Command}
use Rattle.session_input.specs.Commands.Command.{create, set_unpacked, relup}
use Rattle.relup_command.specs.Answer.{AreLinePaths}
use Rattle.rel_session.specs.Device.{Device, HasFailed}
use Rattle.session_input.specs.Feed.{Feed}
use Rattle.session_input.specs.Feed.Feed.{next}
use Rattle.rel_unpack.specs.Source.{Source, GivesOne, GivesEach}
use Rattle.rel_session.specs.Files.{Files, no_files}
use Rattle.node_answer.specs.Lines.{installed_text}
use Rattle.rel_session.specs.Node.{DiskState, Reply, releases_after}
use Rattle.rel_session.specs.Node.DiskState.{unknown_bytes, not_booted, running, dead}
use Rattle.node_answer.specs.Refusals.{refusal_line}
use Rattle.rel_session.specs.Booting.{boot_line}
use Rattle.node_answer.specs.Refusals.NodeRefusal.{device, full, must_reboot}
use Rattle.node_upgrade.specs.Failure.{failure}
use Rattle.node_upgrade.specs.Failure.Why.{fails}
use Rattle.script_progress.specs.Fault.Cause.{no_memory}
use Rattle.rel_session.specs.Run.{EndsInFull, Starts, DiskIsIn, CommandsRun, AreReplies, Ending, StandsForPrefix, IsTextOf, answers_of, commands_in, events_of, IsRun}
use Rattle.rel_session.specs.Session.{IsSession}
use Rattle.session_laws.specs.KeptEvents.{IsKnownAfterAll, SessionMayBegin, RunsWith}
use Rattle.session_laws.specs.RunLaws.{MayBeEventsOf, NoneFails}
use Rattle.rel_session.specs.Transition.{Transition, memory_line, relup_memory_line}

-- the answer of a boot after that of an installation, whose own line stands before it
abbrev pub ReportsBootBehind : BootError → List ℕ → Type 0
ReportsBootBehind why answer =
    (other : List ℕ) × (descr : Value) × (stale : List (List ℕ))
    × (answer ≡ installed_text other descr stale ++ boot_line why)

-- The answer reports that a boot was refused so, by the boot's line alone or after an installation's.
abbrev pub ReportsBoot : BootError → List ℕ → Type 0
ReportsBoot why answer = (answer ≡ boot_line why) ⊎ ReportsBootBehind why answer

-- The answer reports that the device failed, in a command or in a boot.
abbrev pub ReportsFailure : List ℕ → Type 0
ReportsFailure answer = (answer ≡ refusal_line device) ⊎ ReportsBoot boot_error.Device answer

-- The lines report that memory was refused: to a call of the node, to a relup, to a boot, or to a script after its point of
-- no return.
abbrev pub IsMemoryLine : List ℕ → Type 0
IsMemoryLine line =
    (line ≡ memory_line)
    ⊎ ((line ≡ relup_memory_line)
    ⊎ ((line ≡ boot_line boot_error.NoMemory)
    ⊎ ((n : ℕ) × (line ≡ refusal_line (must_reboot (failure n (fails no_memory)))))))

-- The answer reports that memory was refused.
abbrev pub ReportsNoMemory : List ℕ → Type 0
ReportsNoMemory answer = IsMemoryLine answer ⊎ ReportsBootBehind boot_error.NoMemory answer

-- none of the replies reports that
abbrev pub NoneLacksMemory : List Reply → Type 0
NoneLacksMemory [] = Unit {0}
NoneLacksMemory (a ∷ more) = (ReportsNoMemory a.answer → ⊥) × NoneLacksMemory more

-- a boot is in doubt, which had no memory
abbrev pub DoubtsBoot : Reply → Type 0
DoubtsBoot a = (a.outcome.in_doubt ≡ Some booting) × ReportsBoot boot_error.NoMemory a.answer

-- The replies leave nothing in doubt but boots that had no memory.
abbrev pub DoubtBootsAlone : List Reply → Type 0
DoubtBootsAlone [] = Unit {0}
DoubtBootsAlone (a ∷ more) = ((a.outcome.in_doubt ≡ None) ⊎ DoubtsBoot a) × DoubtBootsAlone more

-- Where the disk's count of failures did not rise, none of the replies is a failure, and nothing is in doubt but boots that had
-- no memory.
abbrev pub FailsOnlyWithTheDevice : {D : Type 0} → Device D → Source → Type 0
FailsOnlyWithTheDevice {D} v base =
    (files : Files) (p : DiskState) (commands : Feed Command) (ending : Ending) (replies : List Reply) (old new : D)
    → AreReplies base files p commands ending replies → CommandsRun v p replies old new → (HasFailed v old new → ⊥)
    → NoneFails replies × DoubtBootsAlone replies

-- The answer of a reply with an event in doubt reports that the device failed; or it is a boot, and memory was refused to it.
abbrev pub ReportsDoubt : Source → Type 0
ReportsDoubt source =
    (p : DiskState) (c : Command) (a : Reply) (e : Event)
    → Transition source p c a → a.outcome.in_doubt ≡ Some e
    → ((a.outcome.failed ≡ true) × ReportsFailure a.answer)
    ⊎ ((e ≡ booting) × (a.outcome.failed ≡ false) × ReportsBoot boot_error.NoMemory a.answer)

-- Nothing is in doubt of the store, and its start record was last right after some of its events.
abbrev pub HasNoDoubt : StoreState → Type 0
HasNoDoubt s = (s ≡ at_rest_since s.known.ran s.known.acknowledged s.extent) × BeginWith s.known.ran s.known.acknowledged

-- A device that does not fail leaves no choice there: bytes, or a store with nothing in doubt.
abbrev pub IsCertain : DiskState → Type 0
IsCertain (unknown_bytes bytes) = Unit {0}
IsCertain (not_booted s) = HasNoDoubt s
IsCertain (running events extent ps) = Unit {0}
IsCertain (dead s) = HasNoDoubt s

-- The store of a node is as short as a compaction leaves it.
abbrev pub IsCompact : DiskState → Type 0
IsCompact (running events extent ps) = extent ≡ compacted_extent extent (releases_after events)
IsCompact p = Unit {0}

-- One of the events has a record after which a long store is compacted: each has but a boot.
abbrev pub HaveRecord : Events → Type 0
HaveRecord [] = ⊥
HaveRecord (booting ∷ events) = HaveRecord events
HaveRecord (e ∷ events) = Unit {0}

-- a boot has started a one-shot there, for which the store wasn't compacted
abbrev pub RunsOneShot : DiskState → Type 0
RunsOneShot (running events extent ps) = has_current (releases_after events) ≡ true
RunsOneShot p = ⊥

-- Where these events were committed, a compact store was left; after a restart, unless its boot has started a one-shot.
abbrev pub LeavesCompactStore : Events → DiskState → Type 0
LeavesCompactStore (restart_installed v ∷ events) p = RunsOneShot p ⊎ IsCompact p
LeavesCompactStore events p = HaveRecord events → IsCompact p

-- Each command left a compact store: memory was refused to no compaction.
abbrev pub LeaveCompactStores : List Reply → Type 0
LeaveCompactStores [] = Unit {0}
LeaveCompactStores (a ∷ more) = LeavesCompactStore a.outcome.acknowledged a.after × LeaveCompactStores more

-- The replies give the same answers, and the same events, acknowledged and in doubt.
abbrev pub AreSame : List Reply → List Reply → Type 0
AreSame [] [] = Unit {0}
AreSame (a ∷ first) (b ∷ second) = (a.answer ≡ b.answer) × (a.outcome ≡ b.outcome) × AreSame first second
AreSame first second = ⊥

-- Where neither the device fails nor memory is refused, not to a compaction either, and a read of a file has one answer, all
-- the commands of an input have one answer each, and the session one ending, where it came to its end.
abbrev pub HaveOneAnswer : Source → Type 0
HaveOneAnswer base =
    GivesOne base → (files : Files) (p : DiskState) (commands : Feed Command) (a b : Ending) (first second : List Reply)
    → IsCertain p → EndsInFull a → EndsInFull b → NoneFails first → NoneFails second
    → NoneLacksMemory first → NoneLacksMemory second → LeaveCompactStores first → LeaveCompactStores second
    → AreReplies base files p commands a first → AreReplies base files p commands b second → (a ≡ b) × AreSame first second

-- none of the lines that report that memory was refused stands in the text
abbrev pub HasNoMemoryLine : List ℕ → Type 0
HasNoMemoryLine text = (front line back : List ℕ) → IsMemoryLine line → text ≢ front ++ (line ++ back)

-- Two sessions over the same commands from one place, in which no disk failed and no compaction was refused memory, have
-- written the same text, on whatever disks, where neither text has such a line.
abbrev pub HaveOneText : {D : Type 0} → Device D → Source → Type 0
HaveOneText {D} v base =
    GivesOne base → (files : Files) (p : DiskState) (commands : Feed Command) (a b : Ending) (old new other later : D) (text written : List ℕ)
    → IsCertain p → EndsInFull a → EndsInFull b → (HasFailed v old new → ⊥) → (HasFailed v other later → ⊥)
    → HasNoMemoryLine text → HasNoMemoryLine written
    → (run : IsRun v base files p commands a old new text) (again : IsRun v base files p commands b other later written)
    → LeaveCompactStores run.replies → LeaveCompactStores again.replies
    → (a ≡ b) × (text ≡ written)

-- A store with nothing in doubt, whose list a boot leads to this one.
abbrev pub StoreBootsTo : StoreState → Releases → Type 0
StoreBootsTo s list =
    HasNoDoubt s × ((before : Releases) × (list_after s.known.acknowledged ≡ Some before) × (booted before ≡ list))

-- No node runs where the disk stands, and a boot leads to this list.
abbrev pub BootsToList : DiskState → Releases → Type 0
BootsToList (unknown_bytes bytes) list = (before : Releases) × IsImageOf bytes before × (booted before ≡ list)
BootsToList (not_booted s) list = StoreBootsTo s list
BootsToList (running events extent ps) list = ⊥
BootsToList (dead s) list = StoreBootsTo s list

-- A boot refuses the bytes of both disks by the same line, and a node may be made on both or on neither.
abbrev pub AreRefusedAlike : DiskState → DiskState → Type 0
AreRefusedAlike (unknown_bytes x) (unknown_bytes y) =
    (why other : BootError) × IsBootRefusal x why × IsBootRefusal y other × (boot_line why ≡ boot_line other)
    × (holds_a_store x ≡ holds_a_store y)
AreRefusedAlike p q = ⊥

-- No node runs on either disk, and a boot leads to one list on both, or is refused alike. Their bytes, their events and how far
-- their stores reach may differ.
abbrev pub HaveOneList : DiskState → DiskState → Type 0
HaveOneList p q = ((list : Releases) × BootsToList p list × BootsToList q list) ⊎ AreRefusedAlike p q

-- None of the answers is that a record does not fit.
abbrev pub NoneIsFull : List Reply → Type 0
NoneIsFull [] = Unit {0}
NoneIsFull (a ∷ more) = (a.answer ≢ refusal_line full) × NoneIsFull more

-- Where the device does not fail, no record is too large for what is left of a store, memory is refused to no answer, and a
-- read of a file has one answer, the list of a disk decides what is answered, with which events, and how the session ends.
abbrev pub ListDecidesAnswers : Source → Type 0
ListDecidesAnswers base =
    GivesOne base → (files : Files) (p q : DiskState) (commands : Feed Command) (a b : Ending) (first second : List Reply)
    → HaveOneList p q → EndsInFull a → EndsInFull b → NoneFails first → NoneFails second → NoneIsFull first → NoneIsFull second
    → NoneLacksMemory first → NoneLacksMemory second
    → AreReplies base files p commands a first → AreReplies base files q commands b second → (a ≡ b) × AreSame first second

-- None of the lines that report a lack stands in the text: that a record does not fit, or that memory was refused.
abbrev pub HasNoLackLine : List ℕ → Type 0
HasNoLackLine text =
    ((front back : List ℕ) → text ≢ front ++ (refusal_line full ++ back)) × HasNoMemoryLine text

-- Two sessions over the same commands on disks with one list, of whatever kinds, have written the same text, where neither text
-- has such a line.
abbrev pub ListDecidesText : {D E : Type 0} → Device D → Device E → Source → Type 0
ListDecidesText {D} {E} v w base =
    GivesOne base → (files : Files) (p q : DiskState) (commands : Feed Command) (a b : Ending) (old new : D) (other later : E)
    (text written : List ℕ)
    → HaveOneList p q → EndsInFull a → EndsInFull b → (HasFailed v old new → ⊥) → (HasFailed w other later → ⊥)
    → HasNoLackLine text → HasNoLackLine written
    → IsRun v base files p commands a old new text → IsRun w base files q commands b other later written
    → (a ≡ b) × (text ≡ written)

-- the events of the place have a list
abbrev pub HasList : DiskState → Type 0
HasList (unknown_bytes bytes) = Unit {0}
HasList (not_booted s) = (list : Releases) × (list_after s.known.acknowledged ≡ Some list)
HasList (running events extent ps) = (list : Releases) × (list_after events ≡ Some list)
HasList (dead s) = (list : Releases) × (list_after s.known.acknowledged ≡ Some list)

-- The commands have answers in which neither the device fails nor memory is refused to a compaction.
pub record HasAnswer (base : Source) (files : Files) (p : DiskState) (commands : Feed Command) : Type 0 where
  pub ending : Ending
  pub whole : EndsInFull ending
  pub replies : List Reply
  pub works : NoneFails replies
  pub compact : LeaveCompactStores replies
  pub right : AreReplies base files p commands ending replies

-- Each input has such answers, where each read of a file has an answer.
abbrev pub EachHasAnAnswer : Source → Type 0
EachHasAnAnswer base =
    GivesEach base → (files : Files) (p : DiskState) (commands : Feed Command)
    → IsCertain p → HasList p → HasAnswer base files p commands

-- the paths of a command that names some in its answer
abbrev pub HasLinePath : Command → Type 0
HasLinePath (create path) = is_one_line path ≡ true
HasLinePath (set_unpacked path) = is_one_line path ≡ true
HasLinePath (relup new ups downs) = (is_one_line new ≡ true) × AreLinePaths ups × AreLinePaths downs
HasLinePath c = Unit {0}

-- each path of these commands is one
abbrev pub HaveLinePaths : Feed Command → Type 0
HaveLinePaths (next c rest) = HasLinePath c × HaveLinePaths rest
HaveLinePaths commands = Unit {0}

-- a release that has the versions of a file, and libraries that are what files say
abbrev pub IsFromFiles : Bundle → Type 0
IsFromFiles p = HasVersions p.release × AllByRecursion IsLibrary p.libraries

abbrev pub AreFromFiles : Releases → Type 0
AreFromFiles list = AllByRecursion (λ (e : Entry). IsFromFiles (bundle_in e)) list

-- each release of each list that the store there may have is such a one
abbrev pub HasVersionsAt : DiskState → Type 0
HasVersionsAt (unknown_bytes bytes) = Unit {0}
HasVersionsAt (not_booted s) =
    (events : Events) (list : Releases) → MayBeEventsOf s events → list_after events ≡ Some list → AreFromFiles list
HasVersionsAt (running events extent ps) = (list : Releases) → list_after events ≡ Some list → AreFromFiles list
HasVersionsAt (dead s) =
    (events : Events) (list : Releases) → MayBeEventsOf s events → list_after events ≡ Some list → AreFromFiles list

-- the module of each process there has a version
abbrev pub HasModuleVersionsAt : DiskState → Type 0
HasModuleVersionsAt (running events extent ps) = HaveModuleVersions ps
HasModuleVersionsAt p = Unit {0}

-- whether one of the events is an installation that ends with a restart
abbrev pub have_restart : Events → Bool
have_restart [] = false
have_restart (restart_installed v ∷ events) = true
have_restart (e ∷ events) = have_restart events

-- The same of the commands, one after another, installed with a restart, those whose event is in doubt too.
abbrev pub RestartAlike : List Reply → List Reply → Type 0
RestartAlike (a ∷ first) (b ∷ second) = (have_restart (events_of a.outcome) ≡ have_restart (events_of b.outcome)) × RestartAlike first second
RestartAlike first second = Unit {0}

-- A text determines one run, where a read of a file has one answer and it is known which installations end with a restart: two
-- over the same commands that came to their end, whether the device fails or not, and which write the same have the same
-- answers and the same events, acknowledged and in doubt, command by command. It has to be known: an installation with a
-- restart answers the line of one without, and then a second line, which might be that of the next command; and a failure in
-- its commit is reported as that of one without.
abbrev pub DeterminesOneRun : Source → Type 0
DeterminesOneRun base =
    GivesOne base → (files : Files) (p : DiskState) (commands : Feed Command) (a b : Ending) (first second : List Reply)
    → HasVersionsAt p → HasModuleVersionsAt p → HaveLinePaths commands → EndsInFull a → EndsInFull b → RestartAlike first second
    → AreReplies base files p commands a first → AreReplies base files p commands b second → answers_of first ≡ answers_of second
    → (a ≡ b) × AreSame first second

-- There is no reply, or one.
abbrev pub IsOneOrNone : List Reply → Type 0
IsOneOrNone [] = Unit {0}
IsOneOrNone (a ∷ more) = more ≡ []

-- A text shows these replies: their answers stand whole in it, one after another, but for that of the last one where the
-- session broke off within that answer or its command. A part of that one stands at the end, or nothing.
pub record Shows (text : List ℕ) (replies : List Reply) : Type 0 where
  pub whole : List Reply
  pub broken : List Reply
  pub are : replies ≡ whole ++ broken
  pub one : IsOneOrNone broken
  pub part : List ℕ
  pub left : List ℕ
  pub written : text ≡ answers_of whole ++ part
  pub answer : answers_of broken ≡ part ++ left
  pub not_whole : left ≡ [] → part ≡ []

-- A text determines the events of the answers that stand whole in it, wherever its session broke off. Two runs over the same
-- commands from one place which have written the same, however they ended, have the same whole answers, as many, and the same
-- events with them, acknowledged and in doubt, command by command. Each has followed at most one command more. The premises
-- are those of `DeterminesOneRun`, but for an end.
abbrev pub ShowsOneRun : Source → Type 0
ShowsOneRun base =
    GivesOne base → (files : Files) (p : DiskState) (commands : Feed Command) (a b : Ending) (first second : List Reply) (text : List ℕ)
    → HasVersionsAt p → HasModuleVersionsAt p → HaveLinePaths commands → RestartAlike first second
    → AreReplies base files p commands a first → AreReplies base files p commands b second → IsTextOf a first text → IsTextOf b second text
    → (one : Shows text first) × (two : Shows text second) × AreSame one.whole two.whole

-- The text that a session has written shows its replies.
abbrev pub EachTextShows : Source → Type 0
EachTextShows base =
    (files : Files) (p : DiskState) (commands : Feed Command) (ending : Ending) (replies : List Reply) (text : List ℕ)
    → AreReplies base files p commands ending replies → IsTextOf ending replies text → Shows text replies

-- the events of the command within which a session broke off, or none
abbrev pub broken_events : List Reply → Events
broken_events [] = []
broken_events (a ∷ more) = events_of a.outcome

-- The answers that stand whole in a text tell what is known of the events on the disk that its session has handed back. A crash
-- leaves there the list of a prefix of these with every acknowledged one, and of none, some or all of the events of one command
-- more after them, in order: that within which the session broke off.
abbrev pub TellsEvents : {D : Type 0} → Device D → Source → Type 0
TellsEvents {D} v base =
    (ending : Ending) (taken : ℕ) (input written written_then : Option (List ℕ)) (old new : D) (s : StoreState)
    → IsSession v base no_files ending taken input old new written written_then → SessionMayBegin v s old
    → RunsWith v base ending taken (not_booted s) input old new written written_then (λ text replies.
    (shown : Shows text replies) → (k : EventLog) × IsKnownAfterAll s.known shown.whole k
    × ((c : List ℕ) → v.may_leave new c → StandsForPrefix k (broken_events shown.broken) c))

-- The commands of an input have such paths.
abbrev pub ReadsLinePaths : Type 0
ReadsLinePaths = (input : List ℕ) → HaveLinePaths (commands_in input)

-- A store with nothing in doubt has such versions.
abbrev pub KeepsVersions : {D : Type 0} → Device D → Type 0
KeepsVersions {D} v = (p : DiskState) (disk : D) → IsCertain p → DiskIsIn v p disk → HasVersionsAt p

-- Where a session begins there are no processes, and each reply keeps the versions of the modules and of the releases.
pub record RepliesKeepVersions {D : Type 0} (v : Device D) (source : Source) : Type 0 where
  pub first : (p : DiskState) (disk : D) → Starts v p disk → HasModuleVersionsAt p
  pub modules : (p : DiskState) (c : Command) (a : Reply)
      → HasVersionsAt p → HasModuleVersionsAt p → Transition source p c a → HasModuleVersionsAt a.after
  pub releases : (p : DiskState) (c : Command) (a : Reply)
      → HasLinePath c → HasVersionsAt p → HasModuleVersionsAt p → Transition source p c a → HasVersionsAt a.after
