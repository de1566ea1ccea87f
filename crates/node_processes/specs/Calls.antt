-- The commands that call processes: what they answer, and what they leave.
use Rattle.std.specs.Prelude.{ℕ, List}
use Rattle.node_processes.specs.Answers.{call_line, called}
use Rattle.node_processes.specs.Floods.{flood_line, flooded}
use Rattle.node_processes.specs.Processes.{Processes}

-- A process, by its application and its id there, is called with an input: once, or so often from threads.
pub data Calls : Type 0 where
  once : List ℕ → List ℕ → ℕ → Calls
  often : List ℕ → List ℕ → ℕ → ℕ → Calls

abbrev pub calls_line : Calls → Processes → List ℕ
calls_line (once app id input) ps = call_line app id input ps
calls_line (often app id input times) ps = flood_line app id input times ps

abbrev pub left_by : Calls → Processes → Processes
left_by (once app id input) ps = called app id input ps
left_by (often app id input times) ps = flooded app id input times ps
