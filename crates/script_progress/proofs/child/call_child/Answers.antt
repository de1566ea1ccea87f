use Rattle.std.proofs.Common.{Ok, false, sym, subst}
use Rattle.script_progress.specs.declared.child.ChildCall.{ChildCall}
use Rattle.script_progress.specs.Children.{CallsChild, child_call_of}
use Rattle.script_progress.specs.Steps.{progress_of}
use Rattle.script_progress.proofs.ChildLemmas.{nothing_called}
use Rattle.script_progress.proofs.child.call_child.Goals as goal

pub returns-in-Nothing-clause-called : goal.returns-in-Nothing-clause-called
returns-in-Nothing-clause-called g c =
    subst (λ (k : ChildCall). CallsChild g.past (child_call_of k) (Ok false) (progress_of c.args.progress.now) c.args.progress.now.tree c.args.access.now c.args.access.now) (sym c.in-Nothing.is)
    (nothing_called g.past (progress_of c.args.progress.now) c.args.progress.now.tree c.args.access.now c.requires.1.1)
