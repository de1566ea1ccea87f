-- What calls on applications leave to each other.
use Rattle.std.specs.Prelude.{List, Option, Some, None, Result}
use Rattle.proc_table.specs.declared.view.View.{View}
use Rattle.library.specs.Library.{Library}
use Rattle.sup_tree.specs.declared.error.StartError.{StartError}
use Rattle.sup_tree.specs.declared.error.StartError.TheVariants.{AlreadyStarted, NoTable, Unsupported, NoSlot, NoMemory}
use Rattle.sup_tree.specs.Tree.{App}
use Rattle.script_progress.specs.declared.calls.AppCall as declared
use Rattle.script_progress.specs.declared.calls.AppCall.TheVariants.{Starts, Stops, Idle}
use Rattle.script_progress.specs.declared.cause.Failure.{Failure}
use Rattle.script_progress.specs.Fault.{Cause, app_call_fault, start_fault}
use Rattle.script_progress.specs.Fault.Cause.{no_table, unsupported, no_slot, no_memory}
use Rattle.script_progress.specs.Calls.{AppCall}
use Rattle.script_progress.specs.Calls.AppCall.{starts, stops, idle}
use Rattle.script_progress.specs.Script.{Site, called_after, started_from}
use Rattle.script_progress.specs.Steps.{MakesCall, Past, ProgressForm}

abbrev pub app_call_of : declared.AppCall → AppCall
app_call_of (Starts app) = starts app.now
app_call_of (Stops app) = stops app.now
app_call_of Idle = idle

-- why a script fails where an application isn't started; one that is started already is no reason
abbrev pub start_cause : StartError → Option Cause
start_cause AlreadyStarted = None
start_cause (NoTable m) = Some no_table
start_cause Unsupported = Some unsupported
start_cause NoSlot = Some no_slot
start_cause NoMemory = Some no_memory

-- An application of this library was started, unless it was, or can't be.
abbrev pub StartsFrom : {X : Type 0} → Option Library → Past → Result X Failure → ProgressForm → List App → View → Type 0
StartsFrom l past = MakesCall past (start_fault l past.run) (started_from l past.run)

-- A call on an application was made, or fails.
abbrev pub CallsApp : {X : Type 0} → Site → Past → AppCall → Result X Failure → ProgressForm → List App → View → Type 0
CallsApp s past c = MakesCall past (app_call_fault s c past.run) (called_after s c past.run)
