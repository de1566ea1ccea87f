-- A session's node in memory, and what its functions do to it.
use Rattle.std.specs.Prelude.{◌≡◌, ◌≢◌, ◌⊎◌, ℕ, ◌≤◌, true, false, List, ◌++◌, Option, None, Some, Result, Ok, Err, IfOk, String, string_bytes}
use Rattle.std.specs.declared.alloc.Global.{Global}
use Rattle.std.specs.declared.alloc.AllocError.{AllocError}
use Rattle.rel_unpack.specs.Source.{Source}
use Rattle.rel_unpack.specs.declared.error.UnpackError.{UnpackError}
use Rattle.rel_unpack.specs.declared.error.UnpackError.TheVariants as unpack
use Rattle.node_command.specs.Files.{reported_files}
use Rattle.rel_list.specs.Releases.{Releases, running as running_release}
use Rattle.rel_list.specs.Event.{list_after}
use Rattle.node_store.specs.declared.node_store.NodeStore.{NodeStore}
use Rattle.node_store.specs.Commits.{IsDone}
use Rattle.node_store.specs.Image.{HasSpace}
use Rattle.rel_handler.specs.Installing.{install_event, install_room, install_size, needs_restart, IsInstalledBy}
use Rattle.node_store.specs.State.{disk_in, extent_in, list_in, is_dead, HasStarted, IsSound}
use Rattle.loaded_modules.specs.Loaded.{listed_in}
use Rattle.session_input.specs.declared.error.SessionError.{SessionError}
use Rattle.session_input.specs.declared.error.SessionError.TheVariants as session_error
use Rattle.node_processes.specs.Fresh.{fresh_processes}
use Rattle.node_processes.specs.InMemory.{processes_in, AreSound}
use Rattle.node_start.specs.Begun.{HaveJustBegun, fresh_beginnings}
use Rattle.rel_session.specs.declared.booted_node.BootedNode.{BootedNode}
use Rattle.rel_session.specs.declared.node.SessionNode.{SessionNode}
use Rattle.rel_session.specs.declared.place.Place.{Place as PlaceInMemory}
use Rattle.rel_session.specs.declared.place.Place.TheVariants as memory
use Rattle.rel_session.specs.declared.unanswered.Unanswered.{Unanswered}
use Rattle.rel_session.specs.declared.unanswered.Unanswered.TheVariants as unanswered
use Rattle.session_input.specs.Commands.{Command}
use Rattle.session_input.specs.Commands.Command.{set_unpacked, check, permanent, remove, start, procs, modules, peek, call, flood, quit}
use Rattle.session_input.specs.declared.command.Command.{Command as CommandInMemory}
use Rattle.session_input.specs.declared.command.Command.TheVariants as asked
use Rattle.session_input.specs.declared.given.GivenFile.{GivenFile}
use Rattle.rel_session.specs.Device.{Device, LeavesOnly}
use Rattle.rel_session.specs.Files.{files_of, files_behind, source_of}
use Rattle.rel_session.specs.Node.{DiskState, Reply, refusal_reply}
use Rattle.rel_session.specs.Node.DiskState.{unknown_bytes, not_booted, running, dead}
use Rattle.erl_term.specs.Value.{value_of}
use Rattle.node_upgrade.specs.declared.error.InstallError.{InstallError}
use Rattle.node_upgrade.specs.declared.error.InstallError.TheVariants as install_error
use Rattle.node_upgrade.specs.declared.upgrade.Installed.{Installed}
use Rattle.node_upgrade.specs.Failure.{failure_of}
use Rattle.node_upgrade.specs.Running.{NodeState, state}
use Rattle.node_answer.specs.Lines.{installed_text}
use Rattle.node_answer.specs.Refusals.{refusal_of, refusal_line}
use Rattle.node_answer.specs.Refusals.NodeRefusal.{must_reboot, no_memory, script_refused}
use Rattle.rel_session.specs.Run.{DiskIsIn, CommandRuns}
use Rattle.node_processes.specs.Processes.{Processes}
use Rattle.node_answer.specs.Lines.{ok_line}
use Rattle.rel_handler.specs.declared.error.BootError.TheVariants as boot_error
use Rattle.rel_session.specs.Booting.{boot_line}
use Rattle.rel_session.specs.Transition.{Action, NodeReplies, relup_memory_line, answer_of_node, Transition, version_of}
use Rattle.rel_session.specs.Transition.Action.{answers}

abbrev pub disk_at : {D : Type 0} → PlaceInMemory D → D
disk_at (memory.Idle disk) = disk
disk_at (memory.Made node) = disk_in node.handler

-- the handler of a node is sound, and so are its processes
abbrev pub IsSoundNode : {D : Type 0} → (D → List ℕ) → (D → List ℕ → Type 0) → BootedNode D → Type 0
IsSoundNode seen may_leave node = IsSound seen may_leave node.handler × AreSound node.processes

-- the node of a place is sound
abbrev pub IsSoundPlace : {D : Type 0} → (D → List ℕ) → (D → List ℕ → Type 0) → PlaceInMemory D → Type 0
IsSoundPlace seen may_leave (memory.Idle disk) = Unit {0}
IsSoundPlace seen may_leave (memory.Made node) = IsSoundNode seen may_leave node

-- The place in memory stands for this place of the disk.
abbrev pub IsAt : {D : Type 0} → Device D → PlaceInMemory D → DiskState → Type 0
IsAt v (memory.Idle disk) (unknown_bytes bytes) = DiskIsIn v (unknown_bytes bytes) disk
IsAt v (memory.Idle disk) (not_booted s) = DiskIsIn v (not_booted s) disk
IsAt v (memory.Idle disk) p = ⊥
IsAt v (memory.Made node) (running events extent ps) =
    DiskIsIn v (running events extent ps) (disk_in node.handler) × (is_dead node.handler ≡ false)
    × (list_after events ≡ Some (list_in node.handler)) × (extent_in node.handler ≡ extent)
    × (processes_in node.processes ≡ ps)
IsAt v (memory.Made node) (dead s) = DiskIsIn v (dead s) (disk_in node.handler) × (is_dead node.handler ≡ true)
IsAt v (memory.Made node) p = ⊥

-- A command with a reply of which P holds led from the one place to the other.
pub record Replied {D : Type 0} (v : Device D) (p : DiskState) (P : Reply → Type 0) (old new : PlaceInMemory D) : Type 0 where
  pub given : Reply
  pub right : P given
  pub at : IsAt v new given.after
  pub happens : CommandRuns v p given (disk_at old) (disk_at new)

-- The last command of a session, with a reply of which P holds, led from the one disk to the other. After it no place in memory
-- matters.
pub record Leads {D : Type 0} (v : Device D) (p : DiskState) (P : Reply → Type 0) (old new : PlaceInMemory D) : Type 0 where
  pub given : Reply
  pub right : P given
  pub happens : CommandRuns v p given (disk_at old) (disk_at new)

-- Memory was refused, and nothing was done.
pub record NothingDone {D : Type 0} (v : Device D) (p : DiskState) (old new : PlaceInMemory D) : Type 0 where
  pub nothing_new : LeavesOnly v (disk_at old) (disk_at new) (v.may_leave (disk_at old))
  pub holds : DiskIsIn v p (disk_at new)
  pub counted : v.failures (disk_at old) ≤ v.failures (disk_at new)

-- A command ended in the session's own want of memory, for its answer or before it began: it was done, or nothing was.
abbrev pub EndsUnanswered : {D : Type 0} → Device D → (DiskState → Reply → Type 0) → PlaceInMemory D → PlaceInMemory D → Type 0
EndsUnanswered v P old new = (p : DiskState) → IsAt v old p → Leads v p (P p) old new ⊎ NothingDone v p old new

-- A command gave this result, wherever it began: its answer, or why it was refused, or no memory for its answer. P says which
-- replies are right.
abbrev pub Answers : {D : Type 0} → Device D → (DiskState → Reply → Type 0) → Result (String Global) Unanswered
    → PlaceInMemory D → PlaceInMemory D → Type 0
Answers v P (Ok text) old new =
    (p : DiskState) → IsAt v old p → Replied v p (λ a. P p a × (a.answer ≡ string_bytes text)) old new
Answers v P (Err (unanswered.Refused why)) old new =
    (p : DiskState) → IsAt v old p → Replied v p (λ a. P p a × (a.answer ≡ refusal_line (refusal_of why))) old new
Answers v P (Err unanswered.NoMemory) old new = EndsUnanswered v P old new

-- A command was done, and gave this line, in which its answer stands after a text, unless there was no memory for that.
abbrev pub AnswersAfter : {D : Type 0} → Device D → List ℕ → (DiskState → Reply → Type 0) → Result (String Global) AllocError
    → PlaceInMemory D → PlaceInMemory D → Type 0
AnswersAfter v text P (Ok line) old new =
    (p : DiskState) → IsAt v old p → Replied v p (λ a. P p a × (text ++ a.answer ≡ string_bytes line)) old new
AnswersAfter v text P (Err e) old new = (p : DiskState) → IsAt v old p → Leads v p (P p) old new

-- What a node replies to an action, or, where it runs, that memory was refused to the call of its handler: nothing was done.
abbrev pub ActsOrLacks : Action → DiskState → Reply → Type 0
ActsOrLacks does (running events extent ps) a =
    NodeReplies (running events extent ps) does a ⊎ (a ≡ refusal_reply no_memory (running events extent ps))
ActsOrLacks does p a = NodeReplies p does a

-- An action gave this result.
abbrev pub AnswersAction : {D : Type 0} → Device D → Action → Result (String Global) Unanswered
    → PlaceInMemory D → PlaceInMemory D → Type 0
AnswersAction v does result old new = Answers v (ActsOrLacks does) result old new

-- A node was asked for a text about its releases and its processes, and gave this result.
abbrev pub AnswersReported : {D : Type 0} → Device D → (Releases → Processes → List ℕ) → Result (String Global) Unanswered
    → PlaceInMemory D → PlaceInMemory D → Type 0
AnswersReported v says result old new = Answers v (λ p a. NodeReplies p (answers (answer_of_node says p)) a) result old new

-- A node was asked for a text about its processes alone, and gave this result.
abbrev pub AnswersAsked : {D : Type 0} → Device D → (Processes → List ℕ) → Result (String Global) Unanswered
    → PlaceInMemory D → PlaceInMemory D → Type 0
AnswersAsked v says result old new = AnswersReported v (λ list ps. says ps) result old new

-- The handler of a node that has just booted is at this place, with its processes, which have begun in the node's table, where
-- nothing else has happened. This line reports, after a text, the version that runs, unless there was no memory for it.
abbrev pub IsNodeStarted : {D : Type 0} → NodeStore D → List ℕ → Result (String Global) AllocError → PlaceInMemory D → Type 0
IsNodeStarted h text line (memory.Made node) =
    (node.handler ≡ h) × (processes_in node.processes ≡ fresh_processes (list_in h))
    × IfOk line (λ whole. string_bytes whole ≡ text ++ ok_line (version_of (running_release (list_in h))))
    × HaveJustBegun (fresh_beginnings (list_in h)) node.processes.seat.view
IsNodeStarted h text line (memory.Idle disk) = ⊥

-- The node has started so, or memory was refused to the processes: the disk of the handler alone is left, and this line reports
-- that.
abbrev pub IsStartedOrNot : {D : Type 0} → NodeStore D → List ℕ → Result (String Global) AllocError → PlaceInMemory D → Type 0
IsStartedOrNot h text line (memory.Made node) = IsNodeStarted h text line (memory.Made node)
IsStartedOrNot h text line (memory.Idle disk) =
    (disk ≡ disk_in h) × IfOk line (λ whole. string_bytes whole ≡ text ++ boot_line boot_error.NoMemory)

-- what a handler sees of the processes of a node
abbrev pub state_in : {D : Type 0} → BootedNode D → NodeState
state_in n = state n.processes.seat.view n.processes.tree (listed_in n.processes.loaded)

-- A node has installed the release of this version, and the handler is dead where the script ended with a restart.
pub record HasInstalled {D : Type 0} (v : Device D) (vsn : List ℕ) (old new : BootedNode D) (i : Installed) : Type 0 where
  pub restarts : is_dead new.handler ≡ needs_restart vsn (list_in old.handler)
  pub is_done : IsDone v (install_event vsn (list_in old.handler)) (install_size vsn (list_in old.handler)) old.handler new.handler
  pub fits : HasSpace (extent_in old.handler) (install_room vsn (list_in old.handler))
  pub started : HasStarted v.may_leave new.handler
  pub by_script : IsInstalledBy vsn (list_in old.handler) (state_in old) i (state_in new)

-- what is asked of the node: all but to keep a file and to end the session
abbrev pub AsksNode : CommandInMemory → Type 0
AsksNode command =
    ((path : String Global) (given : GivenFile) → command ≢ asked.File path given) × (command ≢ asked.Quit)

-- what only a node that runs does, but for `releases` and what may boot it
abbrev pub NeedsNode : Command → Type 0
NeedsNode (set_unpacked path) = Unit {0}
NeedsNode (check vsn) = Unit {0}
NeedsNode (permanent vsn) = Unit {0}
NeedsNode (remove vsn) = Unit {0}
NeedsNode start = Unit {0}
NeedsNode procs = Unit {0}
NeedsNode modules = Unit {0}
NeedsNode (peek app id) = Unit {0}
NeedsNode (call app id input) = Unit {0}
NeedsNode (flood app id input times) = Unit {0}
NeedsNode command = ⊥

-- A command gave this result by its transition, over a source of files.
abbrev pub AnswersCommand : {D : Type 0} → Device D → Source → Command → Result (String Global) Unanswered
    → PlaceInMemory D → PlaceInMemory D → Type 0
AnswersCommand v source command result old new = Answers v (λ p a. Transition source p command a) result old new

-- A command was followed, over a source of files. Its text is its answer; there is none where the session ends.
abbrev pub FollowsCommand : {D : Type 0} → Device D → Source → Command → Result (Option (String Global)) SessionError
    → SessionNode D → SessionNode D → Type 0
FollowsCommand v base command (Ok (Some text)) old new =
    let source = source_of base (files_of old.files) in
    (files_of new.files ≡ files_behind (files_of old.files) command)
    × ((p : DiskState) → IsAt v old.place p
    → Replied v p (λ a. Transition source p command a × (a.answer ≡ string_bytes text)) old.place new.place)
FollowsCommand v base command (Ok None) old new = (command ≡ quit) × (new.place ≡ old.place)
FollowsCommand v base command (Err e) old new =
    let source = source_of base (files_of old.files) in
    EndsUnanswered v (λ p a. Transition source p command a) old.place new.place

abbrev pub disk_of : {D : Type 0} → SessionNode D → D
disk_of n = disk_at n.place

-- This is the line that reports what a command has done, or why it was refused, or that memory was refused to its answer.
abbrev pub IsLine : Result (String Global) Unanswered → Result (Option (String Global)) SessionError → Type 0
IsLine (Ok answer) (Ok (Some text)) = string_bytes text ≡ string_bytes answer
IsLine (Err (unanswered.Refused why)) (Ok (Some text)) = string_bytes text ≡ refusal_line (refusal_of why)
IsLine done (Ok line) = ⊥
IsLine (Ok answer) (Err e) = ⊥
IsLine done (Err e) = e ≡ session_error.NoMemory

-- There is a text, and it has these bytes.
abbrev pub IsText : Option (String Global) → List ℕ → Type 0
IsText None bytes = ⊥
IsText (Some text) bytes = string_bytes text ≡ bytes

-- What is answered of an installation: what was done, or why it wasn't; or memory was refused to the answer.
abbrev pub ReportsInstallation : Result Installed InstallError → Result (String Global) Unanswered → Type 0
ReportsInstallation (Err (install_error.Command why)) r = r ≡ Err (unanswered.Refused why)
ReportsInstallation (Ok i) (Ok text) = string_bytes text ≡ installed_text (string_bytes i.other) (value_of i.descr) i.stale.items
ReportsInstallation (Err (install_error.Refused f)) (Ok text) = string_bytes text ≡ refusal_line (script_refused (failure_of f))
ReportsInstallation (Err (install_error.MustReboot f)) (Ok text) = string_bytes text ≡ refusal_line (must_reboot (failure_of f))
ReportsInstallation done (Err why) = why ≡ unanswered.NoMemory

-- What is answered to the request of a relup: what the files gave, or why they are refused, or that there was no memory.
abbrev pub ReportsRelup : Result (String Global) UnpackError → Result (String Global) Unanswered → Type 0
ReportsRelup (Ok text) r = r ≡ Ok text
ReportsRelup (Err unpack.NoMemory) (Ok text) = string_bytes text ≡ relup_memory_line
ReportsRelup (Err unpack.NoMemory) (Err why) = why ≡ unanswered.NoMemory
ReportsRelup (Err why) r = r ≡ Err (unanswered.Refused (reported_files why))
