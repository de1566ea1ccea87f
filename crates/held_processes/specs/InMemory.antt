-- What stands in memory, as definitions see it.
use Rattle.std.specs.Prelude.{◌≡◌, ◌<◌, ℕ, Bool, true, false, not, List, Option}
use Rattle.held_processes.specs.declared.processes.Which.{Which}
use Rattle.held_processes.specs.declared.processes.Which.TheVariants as which
use Rattle.held_processes.specs.declared.held_process.Hold.{Hold}
use Rattle.held_processes.specs.declared.held_process.Hold.TheVariants.{UntilPoint, UntilResumed}
use Rattle.held_processes.specs.declared.steps.Step.{Step}
use Rattle.held_processes.specs.declared.steps.Step.TheVariants.{Suspend, Load, Stop, Start}
use Rattle.held_processes.specs.Course as course
use Rattle.held_processes.specs.Course.{Courses, ModulesBySlot, Operation, on_all, on_module, runs}
use Rattle.proc_table.specs.Agrees.{slots}
use Rattle.sup_tree.specs.Tree.{NotesUsers, module_in}
use Rattle.std.specs.Option.{option_map_or}
use Rattle.held_processes.specs.Following.{HeldForm}
use Rattle.held_processes.specs.Course.Operation.{suspend, load, resume, stop, start, pass_point}
use Rattle.held_processes.specs.Operations.{is_held, modules_by_slot}
use Rattle.held_processes.specs.Course.Hold.{until_point, until_resumed}

abbrev pub hold_of : Hold → course.Hold
hold_of UntilPoint = until_point
hold_of UntilResumed = until_resumed

-- what a step does to a process
abbrev pub operation_of : Step → Operation
operation_of (Suspend alloc) = suspend
operation_of (Load alloc worker keep) = load keep worker.now
operation_of Stop = stop
operation_of Start = start

-- whether it asks for memory, for a process that is held so long
abbrev pub takes_memory : Step → course.Hold → Bool
takes_memory (Suspend alloc) h = not (is_held h)
takes_memory (Load alloc worker keep) h = true
takes_memory s h = false

-- The process in this slot runs the module, and the step asks for memory for it.
abbrev pub AsksAt : Step → ModulesBySlot → List ℕ → Courses → ℕ → Type 0
AsksAt step users name cs slot = (slot < slots) × (runs name (users slot) ≡ true) × (takes_memory step (cs slot).hold ≡ true)

-- the courses where some processes were let go
abbrev pub behind_release : Which → Courses → Courses
behind_release (which.Of users) cs = on_module (modules_by_slot users.tree.now) users.module.now resume cs
behind_release which.UntilPoint cs = on_all pass_point cs

abbrev pub is_until_point : course.Hold → Bool
is_until_point until_point = true
is_until_point h = false

-- Where the processes of a module are let go, each slot is noted as theirs or not.
abbrev pub NotesUsersOf : Which → List Bool → Type 0
NotesUsersOf (which.Of users) used = NotesUsers users.module.now users.tree.now used
NotesUsersOf which.UntilPoint used = Unit {0}

-- whether the process of a slot is let go
abbrev pub is_released : Which → ℕ → Option HeldForm → Bool
is_released (which.Of users) slot place = runs users.module.now (module_in slot users.tree.now)
is_released which.UntilPoint slot place = option_map_or (λ (h : HeldForm). is_until_point h.hold) place false
