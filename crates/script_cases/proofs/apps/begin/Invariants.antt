use Rattle.held_processes.specs.Course.{opening}
use Rattle.script_cases.proofs.apps.begin.Given as goal

abbrev pub ghost-suspend : goal.ghost-suspend
ghost-suspend g a = record { first = a.access.now; courses = λ p. opening }
