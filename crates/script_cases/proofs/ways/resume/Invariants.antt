use Rattle.held_processes.specs.Course.{on_module}
use Rattle.held_processes.specs.Operations.{modules_by_slot}
use Rattle.held_processes.specs.Course.Operation.{resume}
use Rattle.script_cases.proofs.ways.resume.Given as goal

abbrev pub ghost-resume : goal.ghost-resume
ghost-resume g a = g.followed

abbrev pub ghost-finish : goal.ghost-finish
ghost-finish g a = record { first = g.followed.first; courses = on_module (modules_by_slot a._upgrade.now.users.tree.now) a._upgrade.now.users.module.now resume g.followed.courses }
