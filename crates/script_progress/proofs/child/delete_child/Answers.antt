use Rattle.std.proofs.Common.{sym, subst}
use Rattle.script_progress.specs.declared.cause.Failure.{Failure}
use Rattle.script_progress.specs.Calls.ChildCall.{deletes}
use Rattle.script_progress.specs.Children.{IsNotMade}
use Rattle.script_progress.specs.Steps.{progress_of}
use Rattle.script_progress.proofs.ChildLemmas.{deleted, not_deleted}
use Rattle.script_progress.proofs.child.delete_child.Goals as goal

pub returns-in-Ok-clause-called : goal.returns-in-Ok-clause-called
returns-in-Ok-clause-called g c =
    let w = c.delete_child.new in
    deleted g.past c.args.child.now.supervisor.now c.args.child.now.id.now c.in-Ok.stays (progress_of c.args.progress.now) c.args.progress.now.tree w.tree w.self c.args.access.now w.access
    c.requires.1.1 c.in-Ok.ensures.deleted

pub returns-in-Err-clause-called : goal.returns-in-Err-clause-called
returns-in-Err-clause-called g c =
    let name = c.args.child.now.supervisor.now in
    let id = c.args.child.now.id.now in
    let w = c.delete_child.new in
    subst (λ (e : Failure). IsNotMade g.past (deletes name id) e w.self c.args.access.now w.access) (sym c.failure_at_start.ensures)
    (not_deleted g.past name id (progress_of c.args.progress.now) c.args.progress.now.tree w.self c.args.access.now w.access c.requires.1.1 c.delete_child.ensures.longer c.in-Err.ensures.deleted.0 c.in-Err.ensures.deleted.2)
