use Rattle.std.proofs.Common.{map, drop, ap}
use Rattle.std.proofs.lemmas.List.{drop_all}
use Rattle.rel_files.specs.Release.{application_of}
use Rattle.library.specs.InMemory.{shared_of}
use Rattle.rel_check.specs.InMemory.{part_of}
use Rattle.rel_check.proofs.PartRows.{parts_all}
use Rattle.rel_check.proofs.modules.parts_of.Goals as goal

pub returns : goal.returns
returns c =
    let i = c.loop-app.app-index in
    parts_all (map application_of (drop i c.args.apps.now)) (map shared_of c.loop-app.others.now) (map part_of c.loop-app.found.items) _
    (ap (map application_of) (drop_all i c.args.apps.now c.loop-app-test.false)) c.loop-app.invariant
