-- What a node replies to a command: what the command comes to, and what the node does then.
use Rattle.std.specs.Prelude.{◌≡◌, ◌⊎◌, ℕ, Bool, true, false, List, [], ◌∷◌, ◌++◌, codes, Option, None, Some, Result, Ok, Err}
use Rattle.rel_files.specs.Release.{Release}
use Rattle.rel_list.specs.Releases.{Bundle, Releases, permanent as permanent_release}
use Rattle.rel_list.specs.Event.{Event}
use Rattle.rel_list.specs.Event.Event.{made, unpacked, made_permanent, removed, reboot_old as rebooting, boot as booting}
use Rattle.node_command.specs.declared.error.HandlerError.{HandlerError}
use Rattle.node_command.specs.Files.{bundle_brought, made_size, unpacked_size, Brings}
use Rattle.node_store.specs.Events.{Events, StoreState, store_without_doubt, store_with_doubt}
use Rattle.node_store.specs.Compaction.{MayReach}
use Rattle.node_store.specs.Image.{Extent, extent_after, first_extent, HasSpace, holds_a_store}
use Rattle.node_command.specs.Installing.{installation}
use Rattle.node_command.specs.Taking.{commanded, change_size}
use Rattle.node_command.specs.Place.{files_refusal, own_refusal}
pub use Rattle.node_store.specs.State.{version_of}
use Rattle.rel_unpack.specs.Refusal.{Refusal as FilesRefusal}
use Rattle.rel_unpack.specs.Source.{Source}
use Rattle.rel_unpack.specs.Unpacking.{Brought}
use Rattle.session_input.specs.Commands.{Command}
use Rattle.relup_command.specs.Answer.{AnswerAt}
use Rattle.session_input.specs.Commands.Command.{file, create, set_unpacked, check, install, permanent, remove, reboot_old, boot, start, releases, procs, modules, peek, call, flood, relup, quit, bad}
use Rattle.node_listing.specs.Listing.{listing}
use Rattle.node_processes.specs.Answers.{processes_line, modules_line, peek_line}
use Rattle.node_processes.specs.Calls.{Calls, calls_line, left_by}
use Rattle.node_processes.specs.Calls.Calls.{once, often}
use Rattle.node_processes.specs.Processes.{Processes}
pub use Rattle.rel_session.specs.Booting.{AnswersBoot, boot_line, boot_undone, BootsBytes, IsUndone, BootsStore, Boots}
use Rattle.rel_session.specs.Booting.{store_behind}
use Rattle.rel_handler.specs.declared.error.BootError.TheVariants as boot_error
use Rattle.rel_session.specs.Node.{DiskState, releases_after, just_booted, Reply, reply, refusal_reply, failure_reply, no_outcome, commit_outcome, after_commit}
use Rattle.rel_session.specs.Node.DiskState.{unknown_bytes, not_booted, running, dead}
use Rattle.rel_session.specs.Installation.{Installs}
pub use Rattle.node_answer.specs.Lines.{check_line, done_line, ok_line}
use Rattle.node_answer.specs.Refusals.{NodeRefusal, refusal_of, refusal_line, refusal_for}
use Rattle.node_answer.specs.Refusals.NodeRefusal.{full, exists, no_memory, dead as dead_node}

-- what a node that runs answers by its releases and its processes
abbrev pub answer_of_node : (Releases → Processes → List ℕ) → DiskState → List ℕ
answer_of_node says (running events extent ps) = says (releases_after events) ps
answer_of_node says p = refusal_line dead_node

-- the answer to `releases`
abbrev pub releases_answer : DiskState → List ℕ
releases_answer p = answer_of_node (λ list ps. listing list) p

-- the answer to a command that asks the processes alone
abbrev pub processes_answer : (Processes → List ℕ) → DiskState → List ℕ
processes_answer says p = answer_of_node (λ list ps. says ps) p

-- An event that a command brings to a node; and, of the list that it changes, why its files are refused, how many bytes the
-- body of its record has, and the details of the answer where it is done.
pub record ListChange : Type 0 where
  pub event : Event
  pub files : Releases → Option FilesRefusal
  pub size : Releases → ℕ
  pub details : Releases → List ℕ

-- What a command comes to, once its words and its files are known: an answer alone, or one of seven things that a node does.
pub data Action : Type 0 where
  answers : List ℕ → Action
  makes_node : Brought → Action
  changes_node : ListChange → Action
  installs : List ℕ → Action
  reboots_node : List ℕ → Action
  boots_node : Action
  reports_start : Action
  calls : Calls → Action

abbrev pub refuses : NodeRefusal → Action
refuses why = answers (refusal_line why)

-- `create`, by what the path brings
abbrev pub creation : Result Brought FilesRefusal → Action
creation (Err why) = refuses (refusal_for why)
creation (Ok brought) = makes_node brought

-- a release comes in as unpacked
abbrev pub unpacked_change : Brought → ListChange
unpacked_change b = record {
  event = unpacked (bundle_brought b);
  files = files_refusal b;
  size = unpacked_size b;
  details = λ list. codes " " ++ b.found.release.vsn;
}

-- what brings no release is refused for no files
abbrev pub no_refusal : Releases → Option FilesRefusal
no_refusal list = None

-- a release becomes the permanent one, or leaves
abbrev pub permanence : List ℕ → ListChange
permanence vsn = record {
  event = made_permanent vsn;
  files = no_refusal;
  size = change_size (made_permanent vsn);
  details = λ list. [];
}

abbrev pub removal : List ℕ → ListChange
removal vsn = record {
  event = removed vsn;
  files = no_refusal;
  size = change_size (removed vsn);
  details = λ list. [];
}

-- `set_unpacked`, by what the path brings
abbrev pub unpack_action : Result Brought FilesRefusal → Action
unpack_action (Err why) = refuses (refusal_for why)
unpack_action (Ok brought) = changes_node (unpacked_change brought)

-- `relup`, by what is answered or the first file that isn't taken
abbrev pub relup_telling : Result (List ℕ) FilesRefusal → Action
relup_telling (Err why) = refuses (refusal_for why)
relup_telling (Ok text) = answers text

-- a command that reads its files only where a node runs
abbrev pub OnNode : DiskState → (Action → Type 0) → Action → Type 0
OnNode (running events extent ps) P does = P does
OnNode p P does = does ≡ refuses dead_node

-- What each command comes to where the disk stands; `quit` comes to nothing.
abbrev pub MeansAction : Source → DiskState → Command → Action → Type 0
MeansAction source p (file path f) does = does ≡ answers (codes "ok\n")
MeansAction source p (create path) does =
    (brought : Result Brought FilesRefusal) × Brings source path brought × (does ≡ creation brought)
MeansAction source p (set_unpacked path) does =
    OnNode p (λ does. (brought : Result Brought FilesRefusal) × Brings source path brought × (does ≡ unpack_action brought)) does
MeansAction source p (check vsn) does = does ≡ answers (answer_of_node (λ list ps. check_line vsn list) p)
MeansAction source p (install vsn) does = does ≡ installs vsn
MeansAction source p (permanent vsn) does = does ≡ changes_node (permanence vsn)
MeansAction source p (remove vsn) does = does ≡ changes_node (removal vsn)
MeansAction source p (reboot_old vsn) does = does ≡ reboots_node vsn
MeansAction source p boot does = does ≡ boots_node
MeansAction source p start does = does ≡ reports_start
MeansAction source p releases does = does ≡ answers (releases_answer p)
MeansAction source p procs does = does ≡ answers (processes_answer processes_line p)
MeansAction source p modules does = does ≡ answers (processes_answer modules_line p)
MeansAction source p (peek app id) does = does ≡ answers (processes_answer (peek_line app id) p)
MeansAction source p (call app id input) does = does ≡ calls (once app id input)
MeansAction source p (flood app id input times) does = does ≡ calls (often app id input times)
MeansAction source p (relup new ups downs) does =
    (found : Result (List ℕ) FilesRefusal) × AnswerAt source new ups downs found × (does ≡ relup_telling found)
MeansAction source p bad does = does ≡ answers (codes "error session 1 BadCommand\n")
MeansAction source p quit does = ⊥

-- the line that reports that memory was refused to a call of the node's handler: nothing has changed
abbrev pub memory_line : List ℕ
memory_line = refusal_line no_memory

-- the line that reports that memory was refused to the making of a relup
abbrev pub relup_memory_line : List ℕ
relup_memory_line = codes "error relup 7 NoMemory\n"

-- How a command reports that memory was refused to its call, where a node runs. Those that only ask have no such call.
abbrev pub memory_report : Command → Option (List ℕ)
memory_report (set_unpacked path) = Some memory_line
memory_report (install vsn) = Some memory_line
memory_report (permanent vsn) = Some memory_line
memory_report (remove vsn) = Some memory_line
memory_report (reboot_old vsn) = Some memory_line
memory_report start = Some memory_line
memory_report c = None

-- The same wherever the disk stands.
abbrev pub memory_report_at : DiskState → Command → Option (List ℕ)
memory_report_at p (create path) = Some memory_line
memory_report_at p (relup new ups downs) = Some relup_memory_line
memory_report_at (running events extent ps) c = memory_report c
memory_report_at p c = None

-- Memory was refused to the call of a command, which comes to the answer that reports it.
abbrev pub LacksMemory : DiskState → Command → Action → Type 0
LacksMemory p c does = (line : List ℕ) × (memory_report_at p c ≡ Some line) × (does ≡ answers line)

-- What a command comes to, or that memory was refused to it.
abbrev pub ComesToOrLacks : Source → DiskState → Command → Action → Type 0
ComesToOrLacks source p c does = MeansAction source p c does ⊎ LacksMemory p c does

-- An event, whose record has a body of so many bytes, is committed where the list takes it, its record fits, and the device
-- does not fail. P says what is replied then, by how far the store reaches after it.
abbrev pub IsCommit : Events → Extent → Processes → Event → ℕ → Result Releases HandlerError → (Extent → Reply → Type 0) → Reply → Type 0
IsCommit events extent ps e size (Err why) P a = a ≡ refusal_reply (refusal_of why) (running events extent ps)
IsCommit events extent ps e size (Ok next) P a =
    (HasSpace extent size
    × (((x : Extent) × MayReach (extent_after extent size) (releases_after (events ++ e ∷ [])) x × P x a)
    ⊎ (a ≡ failure_reply (Some e) (dead (store_with_doubt events extent e size)))))
    ⊎ ((HasSpace extent size → ⊥) × (a ≡ refusal_reply full (running events extent ps)))

-- what is replied to a change of this list that was committed, where the store reaches so far then; the processes stay
abbrev pub reply_to_change : Events → Extent → Processes → ListChange → Releases → Reply
reply_to_change events extent ps c list =
    reply (done_line (c.details list)) (commit_outcome (c.event ∷ [])) (running (events ++ c.event ∷ []) extent ps)

-- The files of a change are refused, or the list takes it or refuses it.
abbrev pub RepliesToChange : Events → Extent → Processes → ListChange → Releases → Option FilesRefusal → Result Releases HandlerError
    → Reply → Type 0
RepliesToChange events extent ps c list (Some why) taken a = a ≡ refusal_reply (refusal_for why) (running events extent ps)
RepliesToChange events extent ps c list None taken a =
    IsCommit events extent ps c.event (c.size list) taken (λ x a. a ≡ reply_to_change events x ps c list) a

-- A node was made with a release, and its store reaches so far: it runs; or memory was refused to its processes, and none does.
abbrev pub IsMadeWith : Bundle → Extent → Reply → Type 0
IsMadeWith p extent a =
    let events = made p ∷ booting ∷ [] in
    (a ≡ reply (ok_line p.release.vsn) (commit_outcome events) (just_booted events extent))
    ⊎ (a ≡ reply (boot_line boot_error.NoMemory) (commit_outcome events) (not_booted (store_without_doubt events extent)))

-- A node is made with a release on a disk with these bytes, and booted, unless its applications are refused or the record
-- does not fit.
abbrev pub MakesWith : List ℕ → Bundle → ℕ → Option FilesRefusal → Reply → Type 0
MakesWith bytes p size (Some why) a = a ≡ refusal_reply (refusal_for why) (unknown_bytes bytes)
MakesWith bytes p size None a =
    (HasSpace first_extent size × IsMadeWith p (extent_after first_extent size) a)
    ⊎ ((HasSpace first_extent size → ⊥) × (a ≡ refusal_reply full (unknown_bytes bytes)))

-- What `create` replies on a disk with these bytes, by whether they begin as a store does: only where they don't is a node
-- made.
abbrev pub MakesOn : List ℕ → Brought → Bool → Reply → Type 0
MakesOn bytes b true a = a ≡ refusal_reply exists (unknown_bytes bytes)
MakesOn bytes b false a = MakesWith bytes (bundle_brought b) (made_size b) (own_refusal b) a

-- The device fails in a creation. The event is in doubt, unless the files are refused: nothing was written then, nor on a
-- store.
abbrev pub FailsToMake : List ℕ → Bundle → Option FilesRefusal → Reply → Type 0
FailsToMake bytes p (Some why) a = a ≡ failure_reply None (unknown_bytes bytes)
FailsToMake bytes p None a =
    (torn : List ℕ) × (holds_a_store bytes ≡ true → torn ≡ bytes) × (a ≡ failure_reply (Some (made p)) (unknown_bytes torn))

-- What `create` replies: the node is made, or refused, or the device fails in it. Where the events of a store are known,
-- nothing is in doubt after it.
abbrev pub MakesNode : DiskState → Brought → Reply → Type 0
MakesNode (unknown_bytes bytes) b a = MakesOn bytes b (holds_a_store bytes) a ⊎ FailsToMake bytes (bundle_brought b) (own_refusal b) a
MakesNode (not_booted s) b a = (a ≡ refusal_reply exists (not_booted s)) ⊎ (a ≡ failure_reply None (not_booted s))
MakesNode p b a = a ≡ refusal_reply exists p

-- the store of a node with these events after a reboot to the release of this version, which reaches so far
abbrev pub store_after_reboot : Events → Extent → List ℕ → StoreState
store_after_reboot events extent vsn = store_behind events (rebooting vsn) extent

-- What a reboot to an old release replies, by whether the list takes it or refuses it. After the commit the node boots, and the
-- boot's answer is that of the command.
abbrev pub Reboots : Events → Extent → Processes → List ℕ → Releases → Result Releases HandlerError → Reply → Type 0
Reboots events extent ps vsn list taken a =
    IsCommit events extent ps (rebooting vsn) (change_size (rebooting vsn) list) taken
    (λ x a. (b : Reply) × BootsStore (store_after_reboot events x vsn) b × (a ≡ after_commit (rebooting vsn) b)) a

-- what a node starts whose permanent release is this: the version of the runtime system, and its own
abbrev pub start_versions : Option Release → List ℕ
start_versions None = []
start_versions (Some r) = r.erts ++ (codes " " ++ r.vsn)

-- The start record is read, which is that of the permanent release, or the device failed in it.
abbrev pub ReportsStart : Events → Extent → Processes → Reply → Type 0
ReportsStart events extent ps a =
    (a ≡ reply (ok_line (start_versions (permanent_release (releases_after events)))) no_outcome (running events extent ps))
    ⊎ (a ≡ failure_reply None (dead (store_without_doubt events extent)))

-- What the node replies to an action: it boots after a reboot, and after an installation with a restart.
abbrev pub NodeReplies : DiskState → Action → Reply → Type 0
NodeReplies p (answers text) a = a ≡ reply text no_outcome p
NodeReplies p (makes_node brought) a = MakesNode p brought a
NodeReplies (running events extent ps) (changes_node c) a =
    let list = releases_after events in
    RepliesToChange events extent ps c list (c.files list) (commanded c.event list) a
NodeReplies p (changes_node c) a = a ≡ refusal_reply dead_node p
NodeReplies (running events extent ps) (installs vsn) a =
    let list = releases_after events in
    Installs events extent ps vsn list (installation vsn list) a
NodeReplies p (installs vsn) a = a ≡ refusal_reply dead_node p
NodeReplies (running events extent ps) (reboots_node vsn) a =
    let list = releases_after events in
    Reboots events extent ps vsn list (commanded (rebooting vsn) list) a
NodeReplies p (reboots_node vsn) a = a ≡ refusal_reply dead_node p
NodeReplies p boots_node a = Boots p a
NodeReplies (running events extent ps) reports_start a = ReportsStart events extent ps a
NodeReplies p reports_start a = a ≡ refusal_reply dead_node p
NodeReplies (running events extent ps) (calls c) a = a ≡ reply (calls_line c ps) no_outcome (running events extent (left_by c ps))
NodeReplies p (calls c) a = a ≡ refusal_reply dead_node p

-- The reply to a command.
abbrev pub Transition : Source → DiskState → Command → Reply → Type 0
Transition source p c a = (does : Action) × ComesToOrLacks source p c does × NodeReplies p does a
