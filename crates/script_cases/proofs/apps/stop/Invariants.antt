use Rattle.std.specs.String.{string_bytes}
use Rattle.held_processes.specs.Applications.{scene_at, with_stopped}
use Rattle.script_cases.proofs.apps.stop.Given as goal

abbrev pub ghost-stop_app : goal.ghost-stop_app
ghost-stop_app g a = g.before.0

abbrev pub ghost-start : goal.ghost-start
ghost-start g a = record { first = g.before.0.first; courses = (with_stopped (string_bytes a.restart.now.app.now.name) (scene_at g.before.0 g.before.1)).courses }
