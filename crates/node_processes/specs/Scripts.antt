-- What a script makes of the processes of a node, where nobody but the handler comes to them.
use Rattle.std.specs.Prelude.{slice_index_or, map}
use Rattle.std.specs.List.{range_with_len}
use Rattle.proc_history.specs.Values.{nothing}
use Rattle.proc_table.specs.Agrees.{slots}
use Rattle.held_processes.specs.Course.{on_all}
use Rattle.held_processes.specs.Course.Operation.{finish}
use Rattle.held_processes.specs.Operations.{Values}
use Rattle.script_progress.specs.Script.{Run, Site, began}
use Rattle.relup_exec.specs.Alone.{values_alone}
use Rattle.node_processes.specs.Processes.{Processes}

-- what stands in each slot
abbrev pub values_of : Processes → Values
values_of ps p = slice_index_or ps.values p nothing

-- a script begins
abbrev pub run_on : Site → Processes → Run
run_on s ps = began s ps.apps (values_of ps)

-- what is held is let go once a script has ended
abbrev pub ended_run : Run → Run
ended_run r = record r { courses = on_all finish r.courses }

-- the processes after a script that did so much
abbrev pub behind_run : Run → Processes
behind_run r = record {
  values = map (values_alone (ended_run r)) (range_with_len 0 slots);
  apps = r.apps;
  modules = r.modules;
}
