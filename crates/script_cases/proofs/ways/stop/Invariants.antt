use Rattle.held_processes.specs.Course.{on_module}
use Rattle.held_processes.specs.Operations.{modules_by_slot}
use Rattle.held_processes.specs.Course.Operation.{stop}
use Rattle.script_cases.proofs.ways.stop.Given as goal

abbrev pub ghost-stop : goal.ghost-stop
ghost-stop g a = g.followed

abbrev pub ghost-start : goal.ghost-start
ghost-start g a = record { first = g.followed.first; courses = on_module (modules_by_slot a.upgrade.now.users.tree.now) a.upgrade.now.users.module.now stop g.followed.courses }
