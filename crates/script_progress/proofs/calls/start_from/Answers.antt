use Rattle.std.proofs.Common.{◌∙◌, sym, ap, Some}
use Rattle.std.specs.Option.{option_map}
use Rattle.library.specs.InMemory.{library_of}
use Rattle.held_processes.specs.Applications.{room_in}
use Rattle.held_processes.specs.Operations.{values_seen}
use Rattle.loaded_modules.specs.Loaded.{modules_in, tables_of}
use Rattle.loaded_modules.proofs.NamedLemmas.{found_as_listed}
use Rattle.script_progress.specs.declared.cause.Failure.{Failure}
use Rattle.script_progress.specs.InMemory.{cause_of}
use Rattle.script_progress.specs.Steps.{progress_of}
use Rattle.script_progress.proofs.AppLemmas.{start_asks, start_fails, started_well}
use Rattle.script_progress.proofs.calls.start_from.Goals as goal

pub returns-in-Ok-clause-started : goal.returns-in-Ok-clause-started
returns-in-Ok-clause-started g c =
    started_well g.past (library_of c.args.library.now) (progress_of c.args.progress.now) c.args.progress.now.tree c.start_app.new.tree c.args.access.now c.start_app.new.access (modules_in c.args.progress.now.next)
    c.requires.1.1 (found_as_listed c.args.progress.now.next) c.in-Ok.ensures.started

pub returns-in-Some-clause-started : goal.returns-in-Some-clause-started
returns-in-Some-clause-started g c = (
  start_fails g.past (library_of c.args.library.now) (progress_of c.args.progress.now) c.args.progress.now.tree c.args.access.now (modules_in c.args.progress.now.next) c.in-Err.error (cause_of c.failure_at_start.result.cause)
      c.requires.1.1 (found_as_listed c.args.progress.now.next) c.in-Err.ensures.started.0
      (sym c.start_cause.ensures ∙ (ap (option_map cause_of) c.in-Some.is ∙ ap (λ (f : Failure). Some (cause_of f.cause)) (sym c.failure_at_start.ensures))),
  c.in-Err.ensures.started.2,
)

pub returns-in-Some-clause-memory : goal.returns-in-Some-clause-memory
returns-in-Some-clause-memory g c = λ _.
    start_asks g.past (library_of c.args.library.now) (progress_of c.args.progress.now) c.args.progress.now.tree c.args.access.now (tables_of (modules_in c.args.progress.now.next)) (room_in (values_seen g.past.first) g.past.run.courses) c.in-Err.error (cause_of c.failure_at_start.result.cause)
    c.requires.1.1 c.in-Err.ensures.started.0
    (sym c.start_cause.ensures ∙ (ap (option_map cause_of) c.in-Some.is ∙ ap (λ (f : Failure). Some (cause_of f.cause)) (sym c.failure_at_start.ensures)))
