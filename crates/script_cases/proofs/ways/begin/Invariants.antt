use Rattle.held_processes.specs.Course.{opening}
use Rattle.script_cases.proofs.ways.begin.Given as goal

abbrev pub ghost-load : goal.ghost-load
ghost-load g a = record { first = a.access.now; courses = λ p. opening }

abbrev pub ghost-stop : goal.ghost-stop
ghost-stop g a = record { first = a.access.now; courses = λ p. opening }

abbrev pub ghost-suspend : goal.ghost-suspend
ghost-suspend g a = record { first = a.access.now; courses = λ p. opening }
