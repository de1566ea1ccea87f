use Rattle.loaded_modules.specs.Loaded.{modules_in}
use Rattle.loaded_modules.proofs.NamedLemmas.{found_as_listed}
use Rattle.script_progress.specs.Steps.{progress_of}
use Rattle.script_progress.proofs.ChildLemmas.{not_restarted, restarted}
use Rattle.script_progress.proofs.child.restart_child.Goals as goal

pub returns-in-Ok-clause-called : goal.returns-in-Ok-clause-called
returns-in-Ok-clause-called g c =
    let w = c.restart_child.new in
    restarted g.past c.args.child.now.supervisor.now c.args.child.now.id.now c.in-Ok.stays (progress_of c.args.progress.now) c.args.progress.now.tree w.tree w.self c.args.access.now w.access
    (modules_in c.args.progress.now.next) c.requires.1.1 (found_as_listed c.args.progress.now.next) c.in-Ok.ensures.restarted

pub returns-in-Err-clause-called : goal.returns-in-Err-clause-called
returns-in-Err-clause-called g c =
    let w = c.restart_child.new in
    not_restarted g.past c.args.child.now.supervisor.now c.args.child.now.id.now c.in-Err.error c.not_restarted.result (progress_of c.args.progress.now) c.args.progress.now.tree w.tree w.self c.args.access.now w.access
    (modules_in c.args.progress.now.next) c.requires.1.1 c.restart_child.ensures.longer (found_as_listed c.args.progress.now.next) c.not_restarted.ensures.cause c.not_restarted.ensures.modules c.in-Err.ensures.restarted
