use Rattle.std.proofs.Common.{refl}
use Rattle.rel_files.specs.Release.{application_of}
use Rattle.library.specs.InMemory.{table_term_of}
use Rattle.rel_unpack.specs.Refusal.Refusal.{vsn_mismatch}
use Rattle.rel_unpack.specs.Paths.{mod_path}
use Rattle.rel_unpack.specs.Applications.{TableAt, mod_form, is_of}
use Rattle.rel_unpack.proofs.Steps.{none_there, unless_there}
use Rattle.rel_unpack.proofs.tables.read_module.Goals as goal

pub returns-in-Err : goal.returns-in-Err
returns-in-Err g c =
    let source = g.F.Files.gives c.args.files.now in
    let place = mod_path (application_of c.args.app.now) c.args.name.now in
    unless_there table_term_of source place (TableAt source (application_of c.args.app.now) c.args.name.now) c.in-Err.error c.unless_missing.result
    (none_there mod_form source place (is_of c.args.name.now) (vsn_mismatch place) refl) c.in-Err.ensures c.unless_missing.ensures
