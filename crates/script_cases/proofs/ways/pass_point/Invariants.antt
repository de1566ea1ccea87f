use Rattle.held_processes.specs.Course.{on_all}
use Rattle.held_processes.specs.Course.Operation.{pass_point}
use Rattle.script_cases.proofs.ways.pass_point.Given as goal

abbrev pub ghost-pass_point : goal.ghost-pass_point
ghost-pass_point g a = g.followed

abbrev pub ghost-finish : goal.ghost-finish
ghost-finish g a = record { first = g.followed.first; courses = on_all pass_point g.followed.courses }
