use Rattle.std.proofs.Common.{◌∙◌, Bool, List, ℕ, Result, codes, sym, ap, subst}
use Rattle.std.specs.Str.{bytes_eq}
use Rattle.relup_instruction.specs.Instruction.{call_of}
use Rattle.relup_instruction.specs.Instruction.Instruction.{apply}
use Rattle.script_progress.specs.declared.cause.Failure.{Failure}
use Rattle.script_progress.specs.Apps.{CallsApp}
use Rattle.script_progress.specs.Calls.{AppCall, ChildCall}
use Rattle.script_progress.specs.Children.{CallsChild}
use Rattle.script_progress.specs.Fault.{error_cause}
use Rattle.script_progress.specs.InMemory.{site_of}
use Rattle.script_progress.specs.Steps.{CarriesOutLate, GoesByLooks, progress_of}
use Rattle.script_progress.specs.Stops.{AsksMemory, app_takes_memory}
use Rattle.script_progress.proofs.CallLemmas.{app_called, child_called, child_looked, no_child_called, no_child_raised, other_raises, raised, raised_cause}
use Rattle.script_progress.proofs.calls.apply.Goals as goal

pub returns-in-application-clause-carried : goal.returns-in-application-clause-carried
returns-in-application-clause-carried g c =
    let s = site_of c.args.sources.now in
    let w = c.call_app.new in
    subst (λ (r : Result Bool Failure). CarriesOutLate s g.past (apply (call_of c.args.call.now)) r (progress_of w.progress) w.progress.tree c.args.access.now w.access) (sym c.on_no_child.ensures)
    (app_called s g.past (call_of c.args.call.now) c.call_app.result (progress_of c.args.progress.now) (progress_of w.progress) c.args.progress.now.tree w.progress.tree c.args.access.now w.access
    c.requires.1.1.1 c.call_app.ensures.longer
    (ap (λ (n : List ℕ). bytes_eq n (codes "application")) (sym c.as_str.ensures.value ∙ c.in-application.is))
    (subst (λ (k : AppCall). CallsApp s g.past k c.call_app.result (progress_of w.progress) w.progress.tree w.access) c.app_call.ensures c.call_app.ensures.called)
    (subst (λ (k : AppCall). AsksMemory (app_takes_memory s k g.past.run) c.call_app.result) c.app_call.ensures c.call_app.ensures.memory))

pub returns-in-supervisor-clause-carried : goal.returns-in-supervisor-clause-carried
returns-in-supervisor-clause-carried g c =
    let w = c.call_child.new in
    child_called (site_of c.args.sources.now) g.past (call_of c.args.call.now) c.call_child.result (progress_of w.progress) w.progress.tree c.args.access.now w.access
    (ap (λ (n : List ℕ). bytes_eq n (codes "supervisor")) (sym c.as_str.ensures.value ∙ c.in-supervisor.is))
    (subst (λ (k : ChildCall). CallsChild g.past k c.call_child.result (progress_of w.progress) w.progress.tree c.args.access.now w.access) c.child_call.ensures c.call_child.ensures.called)

pub returns-in_default-clause-carried : goal.returns-in_default-clause-carried
returns-in_default-clause-carried g c =
    let call = call_of c.args.call.now in
    raised (site_of c.args.sources.now) g.past call c.raise.result (progress_of c.args.progress.now) c.args.progress.now.tree c.args.access.now c.requires.1.1.1
    (other_raises call c.requires.1.1.0 (λ is. c.in_default.not-application (c.as_str.ensures.value ∙ is)) (λ is. c.in_default.not-supervisor (c.as_str.ensures.value ∙ is)))
    (raised_cause (error_cause call.args) c.error_term.result _ c.error_term.ensures c.raise.ensures.copied c.raise.ensures.memory)

pub returns-in-application-clause-looked : goal.returns-in-application-clause-looked
returns-in-application-clause-looked g c =
    let w = c.call_app.new in
    subst (λ (r : Result Bool Failure). GoesByLooks g.past (apply (call_of c.args.call.now)) r c.args.access.now w.access) (sym c.on_no_child.ensures)
    (no_child_called g.past (call_of c.args.call.now) c.call_app.result c.args.access.now w.access (ap (λ (n : List ℕ). bytes_eq n (codes "application")) (sym c.as_str.ensures.value ∙ c.in-application.is)))

pub returns-in-supervisor-clause-looked : goal.returns-in-supervisor-clause-looked
returns-in-supervisor-clause-looked g c =
    let w = c.call_child.new in
    child_looked (site_of c.args.sources.now) g.past (call_of c.args.call.now) c.call_child.result (progress_of w.progress) w.progress.tree c.args.access.now w.access
    (ap (λ (n : List ℕ). bytes_eq n (codes "supervisor")) (sym c.as_str.ensures.value ∙ c.in-supervisor.is))
    (subst (λ (k : ChildCall). CallsChild g.past k c.call_child.result (progress_of w.progress) w.progress.tree c.args.access.now w.access) c.child_call.ensures c.call_child.ensures.called)

pub returns-in_default-clause-looked : goal.returns-in_default-clause-looked
returns-in_default-clause-looked g c =
    let call = call_of c.args.call.now in
    no_child_raised g.past call c.raise.result c.args.access.now
    (other_raises call c.requires.1.1.0 (λ is. c.in_default.not-application (c.as_str.ensures.value ∙ is)) (λ is. c.in_default.not-supervisor (c.as_str.ensures.value ∙ is)))
