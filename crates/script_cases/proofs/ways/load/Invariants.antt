use Rattle.held_processes.specs.Course.{on_module}
use Rattle.held_processes.specs.Operations.{modules_by_slot}
use Rattle.held_processes.specs.Course.Operation.{load}
use Rattle.script_cases.proofs.ways.load.Given as goal

abbrev pub ghost-load : goal.ghost-load
ghost-load g a = g.followed

abbrev pub ghost-go_on : goal.ghost-go_on
ghost-go_on g a = record { first = g.followed.first; courses = on_module (modules_by_slot a.upgrade.now.users.tree.now) a.upgrade.now.users.module.now (load a._keep a.upgrade.now.worker.now) g.followed.courses }
