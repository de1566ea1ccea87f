-- What the steps of a script leave to each other.
use Rattle.std.specs.Prelude.{◌≡◌, ◌≢◌, ℕ, Bool, true, false, ◌&&◌, IsTrue, List, Option, None, Some, Result, Ok, Err}
use Rattle.proc_table.specs.declared.view.View.{View}
use Rattle.relup_instruction.specs.Instruction.{Instruction}
use Rattle.relup_instruction.specs.Instruction.Instruction.{apply, remove}
use Rattle.relup_file.specs.Script.{is_supported, may_follow, may_precede}
use Rattle.loaded_modules.specs.Loaded.{NamedModules, listed_in}
use Rattle.sup_tree.specs.Children.{child_place}
use Rattle.sup_tree.specs.Tree.{App, supervises}
use Rattle.held_processes.specs.Course.{Courses}
use Rattle.held_processes.specs.Children.{AreSeen, IsChildTaken}
use Rattle.held_processes.specs.Following.{AllFollow, AreLonger, Followed, HeldSlots}
use Rattle.held_processes.specs.Operations.{AreLookedAt, values_seen}
use Rattle.script_progress.specs.declared.cause.Failure.{Failure}
use Rattle.script_progress.specs.declared.progress.Progress.{Progress}
use Rattle.script_progress.specs.Calls.{ChildCall, child_call, is_on_child}
use Rattle.script_progress.specs.Calls.ChildCall.{deletes, restarts}
use Rattle.script_progress.specs.Script.{Site, Run, courses_within, modules_by_slot_in, run_after, stays_at}
use Rattle.script_progress.specs.Fault.{Cause, fault, remove_fault}
use Rattle.script_progress.specs.Fault.Cause.{no_memory, no_super}
use Rattle.script_progress.specs.InMemory.{cause_of}
use Rattle.script_progress.specs.Stops.{StopsAt}

-- The instruction may stand before the point of no return.
abbrev pub IsEarly : Instruction → Type 0
IsEarly i = IsTrue (is_supported i && may_precede i)

-- The instruction may stand after the point of no return.
abbrev pub IsLate : Instruction → Type 0
IsLate i = IsTrue (is_supported i && may_follow i)

-- what a script holds and has fetched so far, and what is loaded once it has ended well
pub record ProgressForm : Type 0 where
  pub held : HeldSlots
  pub fetched : NamedModules
  pub next : NamedModules

abbrev pub progress_of : Progress → ProgressForm
progress_of p = record { held = p.held; fetched = listed_in p.fetched; next = listed_in p.next }

-- what the handler's view was when a script began, and what was done since
pub record Past : Type 0 where
  pub first : View
  pub run : Run

abbrev pub followed_in : Past → Followed
followed_in past = record { first = past.first; courses = past.run.courses }

-- The handler has seen the history of each slot up to here.
abbrev pub IsSeen : View → Run → View → Type 0
IsSeen first r v = AreSeen first r.courses v

-- Nothing makes the instruction fail, in the histories that the handler has seen at this moment. By these it leaves the child that
-- it is on as it is, or doesn't.
abbrev pub HasNoFaultAt : Site → View → Run → Bool → Instruction → View → Type 0
HasNoFaultAt s first r stays i u = IsSeen first r u × (fault s (values_seen u) r i ≡ None) × (stays ≡ stays_at (values_seen u) i r)

-- Nothing makes the instruction fail, in the histories that the handler had seen at a moment between these two.
abbrev pub HasNoFault : Site → View → View → View → Run → Bool → Instruction → Type 0
HasNoFault s first since now r stays i = (u : View) × HasNoFaultAt s first r stays i u × AreLonger since u × AreLonger u now

-- The cause is this one, if any; or it is out of memory.
abbrev pub IsCause : Option Cause → Cause → Type 0
IsCause o no_memory = Unit {0}
IsCause o c = o ≡ Some c

-- The cause is this one, if any, in histories that the handler has seen; or it is out of memory.
abbrev pub IsCauseIn : View → View → Run → Option Cause → Cause → Type 0
IsCauseIn first v r o no_memory = Unit {0}
IsCauseIn first v r o c = (o ≡ Some c) × IsSeen first r v

-- The cause is that of the fault, in the histories that the handler has seen; or it is out of memory.
abbrev pub IsFault : View → Site → View → Run → Instruction → Cause → Type 0
IsFault first s v r i c = IsCauseIn first v r (fault s (values_seen v) r i) c

-- What is held, fetched and started is what was done.
pub record HasDone (past : Past) (a : ProgressForm) (tree : List App) (v : View) : Type 0 where
  pub follow : AllFollow past.first past.run.courses a.held v
  pub fetched : a.fetched ≡ past.run.fetched
  pub next : a.next ≡ past.run.modules
  pub apps : tree ≡ past.run.apps
  pub values : past.run.values ≡ values_seen past.first

-- The instruction was carried out, from the one moment to the other.
abbrev pub IsCarriedOut : Site → Past → Bool → Bool → Instruction → ProgressForm → List App → View → View → Type 0
IsCarriedOut s past early stays i a tree v w =
    HasNoFault s past.first v w past.run stays i × HasDone (record past { run = run_after s early stays i past.run }) a tree w

-- The instruction was carried out, and leaves no child as it is; or it fails, stops where it does, and was done in part.
abbrev pub CarriesOut : {X : Type 0} → Site → Past → Bool → Instruction → Result X Failure → ProgressForm → List App → View → View → Type 0
CarriesOut s past early i (Ok x) a tree v w = IsCarriedOut s past early false i a tree v w
CarriesOut s past early i (Err e) a tree v w =
    IsFault past.first s w past.run i (cause_of e.cause)
    × StopsAt past.first s w past.run i (cause_of e.cause) e.modules e.slot
    × AllFollow past.first (courses_within s early i e.modules e.slot past.run) a.held w

-- The instruction fails after the point of no return, by the histories that the handler had seen at a moment between these two.
pub record IsFailed (s : Site) (past : Past) (i : Instruction) (e : Failure) (hs : HeldSlots) (v w : View) : Type 0 where
  pub then_view : View
  pub fails : IsFault past.first s then_view past.run i (cause_of e.cause)
  pub stops : StopsAt past.first s then_view past.run i (cause_of e.cause) e.modules e.slot
  pub since : AreLonger v then_view
  pub longer : AreLonger then_view w
  pub partly : AllFollow past.first (courses_within s false i e.modules e.slot past.run) hs w

-- The instruction was carried out after the point of no return, and it is reported whether the child that it is on stays; or it
-- fails.
abbrev pub CarriesOutLate : Site → Past → Instruction → Result Bool Failure → ProgressForm → List App → View → View → Type 0
CarriesOutLate s past i (Ok stays) a tree v w = IsCarriedOut s past false stays i a tree v w
CarriesOutLate s past i (Err e) a tree v w = IsFailed s past i e a.held v w

-- The slot of the child that a call may leave as it is was taken between these two moments, if its process isn't held.
abbrev pub IsCallTaken : ChildCall → Run → View → View → Type 0
IsCallTaken (deletes super id) r v w = IsChildTaken r.courses (child_place super id r.apps) v w
IsCallTaken (restarts super id) r v w = IsChildTaken r.courses (child_place super id r.apps) v w
IsCallTaken c r v w = Unit {0}

-- The slots by which an instruction goes were taken between these two moments. A removal goes by the processes of its module,
-- up to one that is up, unless a supervisor uses the module.
abbrev pub TakesSlots : Instruction → Run → View → View → Type 0
TakesSlots (apply c) r v w = is_on_child c ≡ true → IsCallTaken (child_call c) r v w
TakesSlots (remove p) r v w = supervises p.name r.apps ≡ false → AreLookedAt (modules_by_slot_in r) p.name r.courses v w
TakesSlots i r v w = Unit {0}

-- A removal fails by what the handler has seen at the end.
abbrev pub FailsAtLast : Instruction → Run → Cause → View → Type 0
FailsAtLast (remove p) r c w = remove_fault p.name (values_seen w) r ≡ Some c
FailsAtLast i r c w = Unit {0}

-- The handler took the slots by which an instruction goes that fails, unless the supervisor of a child wasn't there.
abbrev pub FailsByLooks : Instruction → Run → Cause → View → View → Type 0
FailsByLooks i r c v w = (c ≢ no_super → TakesSlots i r v w) × FailsAtLast i r c w

-- The handler took the slots by which an instruction goes from the one moment to the other. A child that is left as it is stays by
-- what the handler has seen then.
abbrev pub GoesByLooks : Past → Instruction → Result Bool Failure → View → View → Type 0
GoesByLooks past i (Ok stays) v w = TakesSlots i past.run v w × (stays ≡ true → stays_at (values_seen w) i past.run ≡ true)
GoesByLooks past i (Err e) v w = FailsByLooks i past.run (cause_of e.cause) v w

-- what is reported where an instruction is on no child
abbrev pub on_no_child : {X : Type 0} → Result X Failure → Result Bool Failure
on_no_child (Ok x) = Ok false
on_no_child (Err e) = Err e

-- A call was made, so that this was done, or it fails with this cause, and nothing was done.
abbrev pub MakesCall : {X : Type 0} → Past → Option Cause → Run → Result X Failure → ProgressForm → List App → View → Type 0
MakesCall past o r (Ok x) a tree v = (o ≡ None) × HasDone (record past { run = r }) a tree v
MakesCall past o r (Err e) a tree v = IsCause o (cause_of e.cause) × AllFollow past.first past.run.courses a.held v

-- The courses have the same blocks: nothing was added to a history.
abbrev pub SameBlocks : Courses → Courses → Type 0
SameBlocks cs ds = (p : ℕ) → (ds p).blocks ≡ (cs p).blocks
