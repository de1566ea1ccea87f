-- What calls on children of supervisors leave to each other.
use Rattle.std.specs.Prelude.{◌≡◌, ◌≢◌, Bool, true, List, None, Result, Ok, Err}
use Rattle.proc_table.specs.declared.view.View.{View}
use Rattle.sup_tree.specs.declared.error.RestartError.{RestartError}
use Rattle.sup_tree.specs.declared.error.RestartError.TheVariants.{NoSuper, NoTable, Unsupported, NoSlot, NoMemory}
use Rattle.sup_tree.specs.Tree.{App}
use Rattle.held_processes.specs.Following.{AllFollow, AreLonger, HeldSlots}
use Rattle.held_processes.specs.Operations.{values_seen}
use Rattle.script_progress.specs.declared.child.ChildCall as declared
use Rattle.script_progress.specs.declared.child.ChildCall.TheVariants.{Terminates, Deletes, Restarts, Nothing}
use Rattle.script_progress.specs.declared.cause.Failure.{Failure}
use Rattle.script_progress.specs.Calls.{ChildCall}
use Rattle.script_progress.specs.Calls.ChildCall.{terminates, deletes, restarts, nothing}
use Rattle.script_progress.specs.Fault.{Cause, child_call_fault}
use Rattle.script_progress.specs.Fault.Cause.{no_table, unsupported, no_slot, no_super, no_memory}
use Rattle.script_progress.specs.InMemory.{cause_of}
use Rattle.script_progress.specs.Script.{child_after, child_stays_at, child_within}
use Rattle.script_progress.specs.Steps.{HasDone, IsCallTaken, IsCauseIn, IsSeen, Past, ProgressForm}
use Rattle.script_progress.specs.Stops.{child_count, child_takes_memory, is_memory}

abbrev pub child_call_of : declared.ChildCall → ChildCall
child_call_of (Terminates child) = terminates child.supervisor.now child.id.now
child_call_of (Deletes child) = deletes child.supervisor.now child.id.now
child_call_of (Restarts child) = restarts child.supervisor.now child.id.now
child_call_of Nothing = nothing

-- why a script fails where a child doesn't begin again
abbrev pub restart_cause : RestartError → Cause
restart_cause NoSuper = no_super
restart_cause (NoTable m) = no_table
restart_cause Unsupported = unsupported
restart_cause NoSlot = no_slot
restart_cause NoMemory = no_memory

-- A call on a child of a supervisor was made, by the histories that the handler had seen at a moment between these two; by these
-- the child stays as it is, or doesn't. Its slot was taken between these two, and one that stays does so by what is seen now.
pub record IsMade (past : Past) (c : ChildCall) (stays : Bool) (a : ProgressForm) (tree : List App) (v w : View) : Type 0 where
  pub then_view : View
  pub seen : IsSeen past.first past.run then_view
  pub sound : child_call_fault (values_seen then_view) c past.run ≡ None
  pub reported : stays ≡ child_stays_at (values_seen then_view) c past.run
  pub since : AreLonger v then_view
  pub longer : AreLonger then_view w
  pub taken : IsCallTaken c past.run v w
  pub now : stays ≡ true → child_stays_at (values_seen w) c past.run ≡ true
  pub done : HasDone (record past { run = child_after c stays past.run }) a tree w

-- A call on a child of a supervisor fails, and is out of memory only where it asks for memory. What stood for the child is
-- given up, or isn't.
pub record IsNotMade (past : Past) (c : ChildCall) (e : Failure) (hs : HeldSlots) (v w : View) : Type 0 where
  pub then_view : View
  pub fails : IsCauseIn past.first then_view past.run (child_call_fault (values_seen then_view) c past.run) (cause_of e.cause)
  pub asks : is_memory (cause_of e.cause) ≡ true → child_takes_memory (values_seen then_view) c past.run ≡ true
  pub since : AreLonger v then_view
  pub longer : AreLonger then_view w
  pub taken : cause_of e.cause ≢ no_super → IsCallTaken c past.run v w
  pub seen : IsSeen past.first past.run then_view
  pub counted : e.modules ≡ child_count (values_seen then_view) (cause_of e.cause) c past.run
  pub partly : AllFollow past.first (child_within c e.modules past.run) hs w

abbrev pub CallsChild : Past → ChildCall → Result Bool Failure → ProgressForm → List App → View → View → Type 0
CallsChild past c (Ok stays) a tree v w = IsMade past c stays a tree v w
CallsChild past c (Err e) a tree v w = IsNotMade past c e a.held v w
