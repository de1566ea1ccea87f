use Rattle.std.proofs.Common.{◌≡◌, ℕ, ◌<◌, false, vec_len}
use Rattle.erl_term.specs.Value.{value_of}
use Rattle.worker_table.specs.InMemory.{old_of}
use Rattle.proc_table.specs.declared.view.View.{View}
use Rattle.held_processes.specs.Course.{Courses}
use Rattle.held_processes.specs.Course.Operation.{change}
use Rattle.held_processes.specs.Following.{AllFollow}
use Rattle.held_processes.specs.Operations.{lacks_row_at, part_way, modules_by_slot, values_seen}
use Rattle.held_processes.proofs.processes.HeldProcesses.change.Given as goal

abbrev pub invariant-loop-slot : goal.invariant-loop-slot
invariant-loop-slot l =
    let users = modules_by_slot l.users.tree.now in
    let name = l.users.module.now in
    let old = old_of l.old in
    let extra = value_of l.extra in
    (l.slot-end ≡ vec_len l.self-inside.places)
    × ((first : View) (cs : Courses) (v : View) → AllFollow first cs l.fn.self v
    → AllFollow first (part_way l.slot users name (change old extra) cs) l.self-inside.places.items v
    × ((p : ℕ) → p < l.slot → lacks_row_at old extra (values_seen v) users name cs p ≡ false))
