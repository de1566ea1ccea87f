use Rattle.held_processes.specs.Course.{on_module}
use Rattle.held_processes.specs.Operations.{modules_by_slot}
use Rattle.held_processes.specs.Course.Operation.{suspend}
use Rattle.script_cases.proofs.ways.suspend.Given as goal

abbrev pub ghost-suspend : goal.ghost-suspend
ghost-suspend g a = g.followed

abbrev pub ghost-load : goal.ghost-load
ghost-load g a = record { first = g.followed.first; courses = on_module (modules_by_slot a.upgrade.now.users.tree.now) a.upgrade.now.users.module.now suspend g.followed.courses }
