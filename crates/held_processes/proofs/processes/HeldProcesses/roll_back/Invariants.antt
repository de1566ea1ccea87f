use Rattle.std.proofs.Common.{◌≡◌, ℕ, vec_len}
use Rattle.proc_table.specs.declared.view.View.{View}
use Rattle.proc_table.specs.Views.{seen}
use Rattle.held_processes.specs.Course.{Courses}
use Rattle.held_processes.specs.Following.{AllFollow}
use Rattle.held_processes.specs.Slots.{dropped}
use Rattle.held_processes.proofs.ReleaseLemmas.{IsEnding}
use Rattle.held_processes.proofs.processes.HeldProcesses.roll_back.Given as goal

abbrev pub invariant-loop-place : goal.invariant-loop-place
invariant-loop-place g l =
    ((first : View) (cs : Courses) → AllFollow first cs l.fn.self l.initial.access → IsEnding first cs dropped l.places.items l.access)
    × ((p : ℕ) → seen l.access p ≡ seen l.initial.access p)
    × (l.access.found ≡ l.initial.access.found)

abbrev pub decreases-loop-place : goal.decreases-loop-place
decreases-loop-place g l = vec_len l.places
