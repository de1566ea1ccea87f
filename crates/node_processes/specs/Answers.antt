-- What commands on processes answer, and what a call leaves.
use Rattle.std.specs.Prelude.{ℕ, List, ◌++◌, codes, decimal, map, slice_index_or, slice_set, Option, Some, None}
use Rattle.proc_history.specs.declared.value.Now.{Now}
use Rattle.proc_history.specs.declared.value.Outcome.{Outcome}
use Rattle.proc_history.specs.declared.value.Outcome.TheVariants.{Done, Crashed, Ended}
use Rattle.proc_history.specs.declared.value.Value.{Value}
use Rattle.proc_history.specs.Events.Event.{call}
use Rattle.proc_history.specs.Values.{nothing, up_in, answer, outcome_of, after}
use Rattle.node_listing.specs.Listing.{process_listing, module_listing}
use Rattle.proc_table.specs.declared.pid.Pid.{Pid}
use Rattle.loaded_modules.specs.Loaded.{name_and_version}
use Rattle.node_processes.specs.Processes.{Processes, process_named}

abbrev pub no_process_line : List ℕ
no_process_line = codes "error session 2 NoProcess\n"

-- a process that isn't up: it is down, or was stopped
abbrev pub down_line : List ℕ
down_line = codes "down\n"

-- the answer to `procs`
abbrev pub processes_line : Processes → List ℕ
processes_line ps = process_listing ps.values

-- the answer to `modules`
abbrev pub modules_line : Processes → List ℕ
modules_line ps = module_listing (map name_and_version ps.modules)

-- what stands where a process began
abbrev pub value_at : Processes → Pid → Value
value_at ps p = slice_index_or ps.values p.slot nothing

-- a process that is up: its state, and the version of its module
abbrev pub state_line : Option Now → List ℕ
state_line None = down_line
state_line (Some n) = codes "ok " ++ (decimal n.state ++ (codes " " ++ (n.table.vsn ++ codes "\n")))

abbrev pub peeked_line : Processes → Option Pid → List ℕ
peeked_line ps None = no_process_line
peeked_line ps (Some p) = state_line (up_in p.round (value_at ps p))

-- the answer to `peek`
abbrev pub peek_line : List ℕ → List ℕ → Processes → List ℕ
peek_line app id ps = peeked_line ps (process_named app id ps)

abbrev pub outcome_line : Outcome → List ℕ
outcome_line (Done r) = codes "ok " ++ (decimal r ++ codes "\n")
outcome_line Crashed = codes "crashed\n"
outcome_line (Ended r) = codes "ended " ++ (decimal r ++ codes "\n")

-- what comes of a call of a process that is up
abbrev pub outcome_at : Now → ℕ → Outcome
outcome_at n input = outcome_of (answer n input)

abbrev pub reply_line : ℕ → Option Now → List ℕ
reply_line input None = down_line
reply_line input (Some n) = outcome_line (outcome_at n input)

abbrev pub called_line : ℕ → Processes → Option Pid → List ℕ
called_line input ps None = no_process_line
called_line input ps (Some p) = reply_line input (up_in p.round (value_at ps p))

-- the answer to `call`
abbrev pub call_line : List ℕ → List ℕ → ℕ → Processes → List ℕ
call_line app id input ps = called_line input ps (process_named app id ps)

-- what a call of this process leaves, if it is up
abbrev pub behind_call : ℕ → Processes → Pid → Option Now → Processes
behind_call input ps p None = ps
behind_call input ps p (Some n) = record ps { values = slice_set ps.values p.slot (after (value_at ps p) (call input (outcome_at n input))) }

abbrev pub called_at : ℕ → Processes → Option Pid → Processes
called_at input ps None = ps
called_at input ps (Some p) = behind_call input ps p (up_in p.round (value_at ps p))

-- what a call leaves
abbrev pub called : List ℕ → List ℕ → ℕ → Processes → Processes
called app id input ps = called_at input ps (process_named app id ps)
