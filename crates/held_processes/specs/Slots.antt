-- What a step at one slot leaves.
use Rattle.std.specs.Prelude.{◌≡◌, ℕ, Bool, true, List, [], Option, Some, None, Result, Ok, Err}
use Rattle.erl_term.specs.Value as term
use Rattle.worker_table.specs.Table.{OldVersion}
use Rattle.proc_history.specs.declared.value.Value.{Value}
use Rattle.proc_history.specs.Changes.{finds_row}
use Rattle.proc_history.specs.Events.{HistoryEntry}
use Rattle.proc_history.specs.Histories.{replay, replay_from}
use Rattle.proc_history.specs.Events.Event.{changed}
use Rattle.proc_history.specs.Values.{after}
use Rattle.proc_table.specs.declared.view.View.{View}
use Rattle.proc_table.specs.Parts.{Part, part_of}
use Rattle.proc_table.specs.Calls.{Elsewhere}
use Rattle.proc_table.specs.Waits.{HasTaken}
use Rattle.held_processes.specs.Course.{Hold, Course, Operation, course_after}
use Rattle.held_processes.specs.Course.Hold.{not_held}
use Rattle.held_processes.specs.Following.{HeldForm, Follows}

-- what was known of a slot at first, the passes that were lent, and the course of its process since then
pub record SlotPast : Type 0 where
  pub lent : List ℕ
  pub first : Part
  pub course : Course

-- The handler follows this course of a slot.
pub record IsFollowed (past : SlotPast) (p : ℕ) (c : Course) (v : View) (place : Option HeldForm) : Type 0 where
  pub handler : v.number ≡ 0
  pub lent : v.lent ≡ past.lent
  pub follows : Follows past.lent p past.first c (part_of v.parts p) place

-- After a step at one slot the handler follows this course of the slot, and nothing else has changed.
pub record Steps (past : SlotPast) (p : ℕ) (c : Course) (v : View) (place : Option HeldForm) (w : View) : Type 0 where
  pub follows : Follows past.lent p past.first c (part_of w.parts p) place
  pub elsewhere : Elsewhere p v w

-- After an operation at a slot the handler follows the course with the operation in it, or, where the operation failed, the
-- course as it was.
abbrev pub StepsBy : {X E : Type 0} → SlotPast → ℕ → Operation → View → Result X E → Option HeldForm → View → Type 0
StepsBy past p op v (Ok x) place w = Steps past p (course_after op past.course) v place w
StepsBy past p op v (Err e) place w = Steps past p past.course v place w

-- the course of a process that was given back as it was taken
abbrev pub dropped : Course → Course
dropped c = record c { hold = not_held; pending = [] }

-- the course of a process that was taken
abbrev pub taken : Hold → Course → Course
taken k c = record c { hold = k }

-- The process of the slot was taken, or given back as it was.
abbrev pub Takes : {E : Type 0} → SlotPast → ℕ → Hold → View → Result HeldForm E → View → Type 0
Takes past p k v (Ok h) w = Steps past p (taken k past.course) v (Some h) w
Takes past p k v (Err e) w = Steps past p past.course v None w

-- The slot was looked at: it was taken, unless its process is held.
abbrev pub IsLookedAt : SlotPast → ℕ → View → View → Type 0
IsLookedAt past p v w = past.course.hold ≡ not_held → HasTaken p v w

-- Whether the code of a process that is held was changed: it found its row. It is what its event makes of it in either case.
abbrev pub ChangesAt : OldVersion → term.Value → Option HeldForm → Bool → Option HeldForm → Type 0
ChangesAt old extra None b place = (b ≡ true) × (place ≡ None)
ChangesAt old extra (Some h) b place = (finds_row old extra h.held.value ≡ b)
    × (place ≡ Some (record h { held = record { slot = h.held.slot; value = after h.held.value (changed old extra) } }))

-- what stands in a slot with this history, and what is pending there
abbrev pub value_with : List HistoryEntry → Course → Value
value_with h c = replay_from (replay h) c.pending
