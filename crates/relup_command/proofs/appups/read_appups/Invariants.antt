use Rattle.std.proofs.Common.{◌≡◌, map, drop, take}
use Rattle.relup_row.specs.Release.{relup_app_of}
use Rattle.rel_unpack.proofs.Turns.{AreDoneTo}
use Rattle.relup_command.specs.Appups.{WithAppup}
use Rattle.relup_command.proofs.appups.read_appups.Given as goal

-- The applications so far have their appups, and the others are as they were.
abbrev pub invariant-loop-app : goal.invariant-loop-app
invariant-loop-app g l =
    AreDoneTo (WithAppup (g.F.Files.gives l.fn.files)) (map relup_app_of l.fn.apps) (map relup_app_of (drop l.app-index l.fn.apps)) (map relup_app_of (take l.app-index l.apps))
    × (drop l.app-index l.apps ≡ drop l.app-index l.fn.apps)
