-- What a flood of a process answers and leaves: calls with one input, as many as are asked.
use Rattle.std.specs.Prelude.{◌≡◌, ◌≤◌, ℕ, ◌-◌, List, [], ◌∷◌, ◌++◌, codes, decimal, length, slice_set, Option, Some, None}
use Rattle.proc_history.specs.declared.value.Outcome.{Outcome}
use Rattle.proc_history.specs.declared.value.Value.{Value}
use Rattle.proc_history.specs.Events.Event.{call}
use Rattle.proc_history.specs.Values.{after}
use Rattle.proc_table.specs.declared.pid.Pid.{Pid}
use Rattle.proc_workers.specs.Floods.{crashed_in, done_in, ended_in, outcomes_of}
use Rattle.node_processes.specs.Answers.{no_process_line, value_at}
use Rattle.node_processes.specs.Processes.{Processes, process_named}

-- how often each outcome came, and how often the process was down
abbrev pub counts_line : ℕ → ℕ → ℕ → ℕ → List ℕ
counts_line done crashed ended down =
    codes "ok done " ++ (decimal done ++ (codes " crashed " ++ (decimal crashed ++ (codes " ended " ++ (decimal ended
    ++ (codes " down " ++ (decimal down ++ codes "\n")))))))

-- the line that reports a flood of so many calls, of which some had these outcomes; the others found the process down
abbrev pub outcomes_line : ℕ → List Outcome → List ℕ
outcomes_line times os = counts_line (done_in os) (crashed_in os) (ended_in os) (times - length os)

-- the outcomes of so many calls of the process that began there
abbrev pub outcomes_at : ℕ → ℕ → Processes → Pid → List Outcome
outcomes_at input times ps p = outcomes_of p.round input times (value_at ps p)

abbrev pub flooded_line : ℕ → ℕ → Processes → Option Pid → List ℕ
flooded_line input times ps None = no_process_line
flooded_line input times ps (Some p) = outcomes_line times (outcomes_at input times ps p)

-- the answer to `flood`
abbrev pub flood_line : List ℕ → List ℕ → ℕ → ℕ → Processes → List ℕ
flood_line app id input times ps = flooded_line input times ps (process_named app id ps)

-- what calls with these outcomes make of a value, one after another
abbrev pub after_calls : ℕ → List Outcome → Value → Value
after_calls input [] v = v
after_calls input (o ∷ os) v = after_calls input os (after v (call input o))

abbrev pub flooded_at : ℕ → ℕ → Processes → Option Pid → Processes
flooded_at input times ps None = ps
flooded_at input times ps (Some p) =
    record ps { values = slice_set ps.values p.slot (after_calls input (outcomes_at input times ps p) (value_at ps p)) }

-- what a flood leaves
abbrev pub flooded : List ℕ → List ℕ → ℕ → ℕ → Processes → Processes
flooded app id input times ps = flooded_at input times ps (process_named app id ps)

-- At most so many calls of the process were made with this input, and no others.
abbrev pub LeftByCalls : List ℕ → List ℕ → ℕ → ℕ → Processes → Processes → Type 0
LeftByCalls app id input times ps qs = (n : ℕ) × (n ≤ times) × (qs ≡ flooded app id input n ps)
