use Rattle.std.proofs.Common.{◌≡◌, ℕ, true, not, List, Result, Ok, Err, IfErr, OnErr}
use Rattle.std.specs.declared.alloc.Global.{Global}
use Rattle.proc_table.specs.Agrees.{slots}
use Rattle.held_processes.specs.Course.{Courses, ModulesBySlot, runs}
use Rattle.held_processes.specs.InMemory.{AsksAt}
use Rattle.held_processes.specs.Operations.{has_free_user, is_free_user, is_held, modules_by_slot}
use Rattle.held_processes.specs.declared.steps.Step.TheVariants.{Suspend}
use Rattle.held_processes.specs.declared.steps.Undone.{Undone}
use Rattle.held_processes.proofs.AnyLemmas.{any_found, both}
use Rattle.held_processes.proofs.processes.HeldProcesses.suspend.Goals as goal

-- a suspend asks for memory only for a process that isn't held
asked_for_one : {X : Type 0} (alloc : Global) (users : ModulesBySlot) (name : List ℕ) (cs : Courses) (r : Result X Undone) → IfErr r (λ e. AsksAt (Suspend alloc) users name cs e.slot)
    → OnErr r (has_free_user users name cs ≡ true)
asked_for_one alloc users name cs (Ok x) asks = tt
asked_for_one alloc users name cs (Err e) asks = any_found (is_free_user users name cs) slots e.slot asks.0 (both (runs name (users e.slot)) (not (is_held (cs e.slot).hold)) asks.1 asks.2)

pub returns-clause-asks : goal.returns-clause-asks
returns-clause-asks g c =
    asked_for_one c.args.alloc (modules_by_slot c.args.users.now.tree.now) c.args.users.now.module.now g.followed.courses c.perform.result c.perform.ensures.failed
