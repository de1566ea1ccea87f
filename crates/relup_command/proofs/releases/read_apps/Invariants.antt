use Rattle.std.proofs.Common.{map, drop}
use Rattle.rel_files.specs.Release.{application_of}
use Rattle.rel_unpack.proofs.Turns.{AreDoneTo}
use Rattle.relup_row.specs.Release.{relup_app_of}
use Rattle.relup_command.specs.Releases.{RelupAppAt}
use Rattle.relup_command.proofs.releases.read_apps.Given as goal

abbrev pub invariant-loop-app : goal.invariant-loop-app
invariant-loop-app g l =
    AreDoneTo (RelupAppAt (g.F.Files.gives l.fn.files)) (map application_of l.apps) (map application_of (drop l.app-index l.apps)) (map relup_app_of l.read.items)
