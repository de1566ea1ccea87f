-- What a call answers that commits an event, and what it leaves.
use Rattle.std.specs.Prelude.{◌≡◌, ℕ, Bool, true, false, Result, IfErr, OnOk}
use Rattle.rel_disk.specs.declared.disk.Disk.{Ghosts}
use Rattle.rel_list.specs.Event.{Event}
use Rattle.rel_list.specs.Event.Event.{reboot_old, restart_installed}
use Rattle.rel_list.specs.Laws.{leaves_permanent}
use Rattle.node_command.specs.Taking.{change_size}
use Rattle.node_command.specs.declared.error.HandlerError.{HandlerError}
use Rattle.node_store.specs.Commits.{Commits, IsAppended, IsDone}
use Rattle.node_store.specs.Refusals.{CommandRefused}
use Rattle.node_store.specs.State.{format_in, list_in, is_dead, start_in, HasStarted, IsReady}
use Rattle.node_store.specs.declared.node_store.NodeStore.{NodeStore}

-- A command with this event asks for a boot.
abbrev pub asks_for_boot : Event → Bool
asks_for_boot (reboot_old vsn) = true
asks_for_boot (restart_installed vsn) = true
asks_for_boot e = false

-- The call appends the record of an event, with a body of so many bytes, or is refused. At Ok the node is dead, until whoever called
-- has written all that belongs to the event.
pub record AppendsEvent {D X : Type 0} (v : Ghosts D) (e : Event) (size : ℕ) (result : Result X HandlerError) (old new : NodeStore D) : Type 0 where
  pub commits : Commits v e size old new
  pub appended : OnOk result (IsAppended v e size old new)
  pub ready : OnOk result (IsReady v.seen v.may_leave new)
  pub dead : OnOk result (is_dead new ≡ true)
  pub format : format_in new ≡ format_in old
  pub refused : IfErr result (CommandRefused v.failures e size old new)

-- The command commits an event, with a record whose body has so many bytes, or is refused. At Ok the start record is that of the
-- permanent release, and the one that it was where that release is. Then the node is dead only if the command asks for a boot.
pub record CommitsEvent {D X : Type 0} (v : Ghosts D) (e : Event) (size : ℕ) (result : Result X HandlerError) (old new : NodeStore D) : Type 0 where
  pub commits : Commits v e size old new
  pub done : OnOk result (IsDone v e size old new)
  pub started : OnOk result (HasStarted v.may_leave new)
  pub start : OnOk result (leaves_permanent e ≡ true → start_in v.seen new ≡ start_in v.seen old)
  pub dead : OnOk result (is_dead new ≡ asks_for_boot e)
  pub format : format_in new ≡ format_in old
  pub refused : IfErr result (CommandRefused v.failures e size old new)

-- The same of an event that brings no release: its record has as many bytes as the list says.
abbrev pub CommitsChange : {D X : Type 0} → Ghosts D → Event → Result X HandlerError → NodeStore D → NodeStore D → Type 0
CommitsChange v e result old new = CommitsEvent v e (change_size e (list_in old)) result old new
