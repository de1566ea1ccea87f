-- Laws of courses.
use Rattle.std.specs.Prelude.{◌≡◌, ℕ, ◌<◌, true, List, [], ◌++◌, Option, Result}
use Rattle.proc_table.specs.declared.view.View.{View}
use Rattle.proc_table.specs.Agrees.{slots}
use Rattle.proc_table.specs.Views.{seen}
use Rattle.mod_table.specs.Tables.{Tables}
use Rattle.sup_tree.specs.declared.error.StartError.{StartError}
use Rattle.sup_tree.specs.declared.error.NoSuchApp.{NoSuchApp}
use Rattle.sup_tree.specs.Starts.{StartsApp}
use Rattle.sup_tree.specs.Stops.{StopsApp}
use Rattle.sup_tree.specs.Tree.{App}
use Rattle.held_processes.specs.Course.{Course, Courses, Operation, added, course_after}
use Rattle.held_processes.specs.Course.Operation.{suspend, load, change}
use Rattle.held_processes.specs.Following.{AreLeft, AreUntouched, HoldsNothing}

-- While no pass is lent, the history that the handler has seen is that from before, and the blocks of the course.
abbrev pub BlocksAlone : Type 0
BlocksAlone = (first : View) (cs : Courses) (v : View) → first.lent ≡ [] → AreLeft first cs v → (p : ℕ) → p < slots
    → seen v p ≡ seen first p ++ added (cs p).blocks

-- Where no course has a block, the handler added nothing.
abbrev pub NoBlockIsNothing : Type 0
NoBlockIsNothing = (first : View) (cs : Courses) (v : View) → AreLeft first cs v → ((p : ℕ) → p < slots → (cs p).blocks ≡ []) → AreUntouched first v

-- an operation that adds no block: what it does stays pending until the process is let go
abbrev pub IsPending : Operation → Type 0
IsPending suspend = Unit {0}
IsPending (load true t) = Unit {0}
IsPending (change old extra) = Unit {0}
IsPending op = ⊥

abbrev pub PendingAddsNoBlock : Type 0
PendingAddsNoBlock = (op : Operation) (c : Course) → IsPending op → (course_after op c).blocks ≡ c.blocks

-- Where the handler holds nothing, it holds nothing after the start or the stop of an application.
abbrev pub StartsHoldNothing : Type 0
StartsHoldNothing = ((name : List ℕ) (top : Option (List ℕ)) (tables : Tables) (apps : List App) (v : View) (r : Result (Unit {0}) StartError) (apps' : List App) (w : View)
    → HoldsNothing v → StartsApp name top tables apps v r apps' w → HoldsNothing w)
    × ((name : List ℕ) (apps : List App) (v : View) (r : Result (Unit {0}) NoSuchApp) (apps' : List App) (w : View)
    → HoldsNothing v → StopsApp name apps v r apps' w → HoldsNothing w)
