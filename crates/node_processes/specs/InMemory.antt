-- The processes of a node, as they lie in memory.
use Rattle.std.specs.Prelude.{◌≡◌, ℕ, List, [], map}
use Rattle.std.specs.List.{range_with_len}
use Rattle.proc_history.specs.declared.value.Outcome.TheVariants as outcome
use Rattle.proc_history.specs.Histories.{replay}
use Rattle.proc_history.specs.declared.value.Value.{Value}
use Rattle.proc_table.specs.declared.pass.Tried.{Tried}
use Rattle.proc_table.specs.declared.pass.Tried.TheVariants.{Done, Crashed, Ended}
use Rattle.proc_table.specs.declared.view.View.{View}
use Rattle.proc_table.specs.Agrees.{slots}
use Rattle.proc_table.specs.Views.{seen}
use Rattle.loaded_modules.specs.Loaded.{listed_in}
use Rattle.held_processes.specs.Following.{HoldsNothing}
use Rattle.node_processes.specs.declared.processes.Processes.{Processes as ProcessesInMemory}
use Rattle.node_processes.specs.Answers.{outcome_line, down_line}
use Rattle.node_processes.specs.Processes.{Processes}

-- what the histories leave, as far as the handler has seen them
abbrev pub values_in : View → List Value
values_in v = map (λ p. replay (seen v p)) (range_with_len 0 slots)

abbrev pub processes_in : ProcessesInMemory → Processes
processes_in ps = record { values = values_in ps.seat.view; apps = ps.tree; modules = listed_in ps.loaded }

-- The handler sits at the table, no client does, and no process is held.
pub record AreSound (ps : ProcessesInMemory) : Type 0 where
  pub table : ps.seat.table ≡ ps.table
  pub alone : ps.seat.view.lent ≡ []
  pub free : HoldsNothing ps.seat.view

-- what a call that was answered reports
abbrev pub tried_line : Tried → List ℕ
tried_line (Done r) = outcome_line (outcome.Done r)
tried_line Crashed = outcome_line outcome.Crashed
tried_line (Ended r) = outcome_line (outcome.Ended r)
tried_line t = down_line
