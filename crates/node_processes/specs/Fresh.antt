-- What runs right after a boot: the applications of the release that runs that are of type permanent, transient or temporary, in
-- order, each with the workers below its top, in order (OTP: application, supervisor). What is loaded are the modules of all its
-- libraries, whatever the type of their applications.
use Rattle.std.specs.Prelude.{ℕ, zero, suc, ◌+◌, ◌<◌, ◌≤◌, ◌⊎◌, List, [], ◌∷◌, length, map, slice_get, Option, Some, None}
use Rattle.std.specs.Option.{option_or}
use Rattle.std.specs.List.{find, filter, flat_map, range_with_len}
use Rattle.std.proofs.Common.{inl, inr}
use Rattle.std.proofs.lemmas.Bool.{cases_lt}
use Rattle.rel_files.specs.Release.{Application}
use Rattle.library.specs.Library.{Library}
use Rattle.rel_list.specs.Releases.{Releases, Entry}
use Rattle.rel_list.specs.Status.{is_current, is_permanent}
use Rattle.rel_check.specs.Modules.{Part, parts}
use Rattle.mod_table.specs.Tables.{Tables}
use Rattle.rel_check.specs.Walk.{is_started}
use Rattle.proc_history.specs.declared.beginning.Beginning.{Beginning}
use Rattle.proc_history.specs.declared.value.Value.{Value}
use Rattle.proc_history.specs.Values.{nothing, begun}
use Rattle.proc_table.specs.Agrees.{slots}
use Rattle.loaded_modules.specs.Loaded.{modules_of, tables_of, listed_modules}
use Rattle.proc_table.specs.declared.pid.Pid.{Pid}
use Rattle.started_members.specs.Begins.{beginning_of, members_at}
use Rattle.sup_tree.specs.Tree.{App}
use Rattle.app_members.specs.Walk.{Start, app_members, app_starts}
use Rattle.held_processes.specs.Applications.{match_pid}
use Rattle.node_processes.specs.Processes.{Processes}

-- the applications that a boot starts
abbrev pub started_parts : List Part → List Part
started_parts ps = filter (λ (p : Part). is_started p.app.start) ps

-- what one of them starts
abbrev pub part_starts : Tables → Part → List Start
part_starts tables p = app_starts tables p.library.app.top

abbrev pub pid_if : (n : ℕ) → (n < slots) ⊎ (slots ≤ n) → Option Pid
pid_if n (inl inside) = Some (record { slot = n; round = 1; inside = inside })
pid_if n (inr past) = None

-- what begins in this slot of a new table has round 1; none begins past the last slot
abbrev pub first_pid : ℕ → Option Pid
first_pid n = pid_if n (cases_lt n slots)

-- the places of so many processes that begin in the slots from this one on
abbrev pub pids_from : ℕ → ℕ → List Pid
pids_from n zero = []
pids_from n (suc more) = match_pid (first_pid n) (λ pid. pid ∷ pids_from (suc n) more)

abbrev pub app_from : ℕ → Tables → Part → App
app_from n tables p = record {
  name = p.library.app.name;
  members = members_at (app_members tables p.library.app.top) (pids_from n (length (part_starts tables p)));
}

-- applications that start one after another
abbrev pub apps_from : ℕ → Tables → List Part → List App
apps_from n tables [] = []
apps_from n tables (p ∷ ps) = app_from n tables p ∷ apps_from (n + length (part_starts tables p)) tables ps

-- what their processes begin with, in order
abbrev pub part_beginnings : Tables → Part → List Beginning
part_beginnings tables p = map (beginning_of p.library.app.name) (part_starts tables p)

abbrev pub beginnings : Tables → List Part → List Beginning
beginnings tables ps = flat_map (part_beginnings tables) ps

-- what stands in a slot of a new table, by what began there
abbrev pub first_value : Option Beginning → Value
first_value None = nothing
first_value (Some b) = record { round = 1; now = Some (begun b) }

-- what stands in the slots of a new table in which these processes began, in order
abbrev pub first_values : List Beginning → List Value
first_values bs = map (λ p. first_value (slice_get bs p)) (range_with_len 0 slots)

-- the tables of the modules of these libraries
abbrev pub tables_in : List Library → Tables
tables_in ls = tables_of (modules_of ls)

-- a release of these applications, with their libraries in the same order
abbrev pub fresh_release : List Application → List Library → Processes
fresh_release as' ls =
    let started = started_parts (parts as' ls) in
    record { values = first_values (beginnings (tables_in ls) started); apps = apps_from 0 (tables_in ls) started; modules = listed_modules ls }

-- the release that runs after a boot: a current one, which was a one-shot before it, or else the permanent one
abbrev pub running_entry : Releases → Option Entry
running_entry es = option_or (find (λ (e : Entry). is_current e.status) es) (find (λ (e : Entry). is_permanent e.status) es)

abbrev pub fresh_entry : Option Entry → Processes
fresh_entry None = fresh_release [] []
fresh_entry (Some e) = fresh_release e.release.apps e.libraries

-- the processes of a node that has just booted to this list
abbrev pub fresh_processes : Releases → Processes
fresh_processes es = fresh_entry (running_entry es)
