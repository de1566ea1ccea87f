-- The course of a process through a script: what the handler adds to the history of its slot, in blocks (OTP: appup(4), relup(4)).
-- A block is what is added from where the process is held to where it is let go; what is done to one that isn't held is a block
-- alone.
use Rattle.std.specs.Prelude.{ℕ, Bool, true, false, List, [], ◌∷◌, ◌++◌, Option, if◌then◌else◌}
use Rattle.std.specs.Option.{option_map_or}
use Rattle.std.specs.Str.{bytes_eq}
use Rattle.erl_term.specs.Value as term
use Rattle.worker_table.specs.Table.{OldVersion, WorkerTable}
use Rattle.proc_history.specs.Events as history
use Rattle.proc_history.specs.Events.{HistoryEntry, entry}
use Rattle.proc_history.specs.Events.Event.{loaded, changed, stopped, started, given_up}

-- how long the handler holds a process: not at all, for a load until the point of no return, or until it is resumed
pub data Hold : Type 0 where
  not_held : Hold
  until_point : Hold
  until_resumed : Hold

-- The blocks that stand in the history, the newest first, and what was done to the process since it is held.
pub record Course : Type 0 where
  pub hold : Hold
  pub blocks : List (List HistoryEntry)
  pub pending : List HistoryEntry

-- nothing was done to it yet
abbrev pub opening : Course
opening = record { hold = not_held; blocks = []; pending = [] }

-- What is done to a process. load: it gets this table; one that isn't held is held until the point of no return, or for the load
-- alone. change: its code is changed from this version, with this extra term. finish: the script has ended.
pub data Operation : Type 0 where
  suspend : Operation
  load : Bool → WorkerTable → Operation
  change : OldVersion → term.Value → Operation
  resume : Operation
  stop : Operation
  start : Operation
  give_up : Operation
  pass_point : Operation
  finish : Operation

-- the one for a process that is held, the other for one that isn't
abbrev pub if_held : {X : Type 0} → Hold → X → X → X
if_held not_held held free = free
if_held until_point held free = held
if_held until_resumed held free = held

-- an entry of the handler for a process that it holds, and for one that it holds for this alone
abbrev pub add : history.Event → Course → Course
add e c = record c { pending = c.pending ++ entry 0 e ∷ [] }

abbrev pub add_alone : history.Event → Course → Course
add_alone e c = record c { blocks = (entry 0 e ∷ []) ∷ c.blocks }

-- the process is let go: its block stands in the history
abbrev pub let_go : Course → Course
let_go c = record { hold = not_held; blocks = c.pending ∷ c.blocks; pending = [] }

-- a process that isn't held gets a table
abbrev pub load_free : Bool → WorkerTable → Course → Course
load_free true t c = record c { hold = until_point; pending = entry 0 (loaded t) ∷ [] }
load_free false t c = add_alone (loaded t) c

-- one that is held for a load alone is let go at the point of no return
abbrev pub at_point : Hold → Course → Course
at_point until_point c = let_go c
at_point h c = c

-- the course after an operation
abbrev pub course_after : Operation → Course → Course
course_after suspend c = record c { hold = until_resumed }
course_after (load keep t) c = if_held c.hold (add (loaded t) c) (load_free keep t c)
course_after (change old extra) c = if_held c.hold (add (changed old extra) c) c
course_after resume c = if_held c.hold (let_go c) c
course_after stop c = if_held c.hold (add stopped c) (add_alone stopped c)
course_after start c = if_held c.hold (add started c) (add_alone started c)
course_after give_up c = if_held c.hold (let_go (add given_up c)) (add_alone given_up c)
course_after pass_point c = at_point c.hold c
course_after finish c = if_held c.hold (let_go c) c

-- the courses of the processes in all slots
abbrev pub Courses : Type 0
Courses = ℕ → Course

-- the module that the process in a slot runs, where one stands there
abbrev pub ModulesBySlot : Type 0
ModulesBySlot = ℕ → Option (List ℕ)

-- the process runs this module
abbrev pub runs : List ℕ → Option (List ℕ) → Bool
runs name user = option_map_or (bytes_eq name) user false

-- the courses after an operation on each process of a module, and on every process
abbrev pub on_module : ModulesBySlot → List ℕ → Operation → Courses → Courses
on_module users name op cs p = if runs name (users p) then course_after op (cs p) else cs p

abbrev pub on_all : Operation → Courses → Courses
on_all op cs p = course_after op (cs p)

-- what the blocks of a course add to a history, in order
abbrev pub added : List (List HistoryEntry) → List HistoryEntry
added [] = []
added (b ∷ bs) = added bs ++ b
