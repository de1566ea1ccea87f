use Rattle.std.proofs.Common.{◌∙◌, Option, Some, ap, subst, sym}
use Rattle.std.specs.Option.{option_map}
use Rattle.library.specs.InMemory.{library_of, shared_of}
use Rattle.library.specs.Library.{Library}
use Rattle.script_progress.specs.declared.calls.AppCall.{AppCall}
use Rattle.script_progress.specs.declared.cause.Failure.{Failure}
use Rattle.script_progress.specs.Apps.{CallsApp, StartsFrom, app_call_of}
use Rattle.script_progress.specs.InMemory.{cause_of, site_of}
use Rattle.script_progress.specs.Steps.{progress_of}
use Rattle.script_progress.specs.Stops.{AsksMemory, app_takes_memory, is_memory, may_start}
use Rattle.script_progress.proofs.calls.call_app.Goals as goal

pub returns-in-Some-clause-called : goal.returns-in-Some-clause-called
returns-in-Some-clause-called g c =
    let w = c.start_from.new in
    let there = sym c.target_library.ensures ∙ ap (option_map (λ l. shared_of l.now)) c.in-Some.is in
    subst (λ (k : AppCall). CallsApp (site_of c.args.sources.now) g.past (app_call_of k) c.start_from.result (progress_of w.progress) w.progress.tree w.access) (sym c.in-Starts.is)
    (subst (λ (o : Option Library). StartsFrom o g.past c.start_from.result (progress_of w.progress) w.progress.tree w.access) (sym there)
    (subst (λ l. StartsFrom (Some (library_of l)) g.past c.start_from.result (progress_of w.progress) w.progress.tree w.access) c.as_ref.ensures c.start_from.ensures.started))

pub returns-in-Some-clause-memory : goal.returns-in-Some-clause-memory
returns-in-Some-clause-memory g c =
    let there = sym c.target_library.ensures ∙ ap (option_map (λ l. shared_of l.now)) c.in-Some.is in
    subst (λ (k : AppCall). AsksMemory (app_takes_memory (site_of c.args.sources.now) (app_call_of k) g.past.run) c.start_from.result) (sym c.in-Starts.is)
    (subst (λ (o : Option Library). AsksMemory (may_start o g.past.run) c.start_from.result) (sym there)
    (subst (λ l. AsksMemory (may_start (Some (library_of l)) g.past.run) c.start_from.result) c.as_ref.ensures c.start_from.ensures.memory))

pub returns-in-None-clause-memory : goal.returns-in-None-clause-memory
returns-in-None-clause-memory g c = λ m. absurd (cc (sym m ∙ ap (λ (f : Failure). is_memory (cause_of f.cause)) c.failure_at_start.ensures))
