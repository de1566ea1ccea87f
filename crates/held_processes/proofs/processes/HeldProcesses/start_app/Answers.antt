use Rattle.rel_files.specs.AppInMemory.{specification_of}
use Rattle.sup_tree.specs.Loaded.{modules_in, tables_of}
use Rattle.held_processes.proofs.ApplicationLemmas.{starts_in}
use Rattle.held_processes.proofs.LongerLemmas.{start_longer}
use Rattle.held_processes.proofs.processes.HeldProcesses.start_app.Goals as goal

pub returns-clause-started : goal.returns-clause-started
returns-clause-started g c =
    let it = specification_of c.args.app.now in
    starts_in g.followed c.args.self.now c.args.access.now c.args.tree.now it.name it.top (tables_of (modules_in c.args.loaded.now)) c.start_app.result c.start_app.new.self c.start_app.new.access
    c.requires.1.1 c.knows.ensures.known.known.legal c.start_app.ensures.started

pub returns-clause-longer : goal.returns-clause-longer
returns-clause-longer g c =
    let it = specification_of c.args.app.now in
    start_longer it.name it.top (tables_of (modules_in c.args.loaded.now)) c.args.tree.now c.args.access.now c.start_app.result c.start_app.new.self c.start_app.new.access c.start_app.ensures.started
