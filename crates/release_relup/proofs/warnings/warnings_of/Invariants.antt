use Rattle.std.proofs.Common.{◌≡◌, ◌++◌, map, drop, string_bytes}
use Rattle.std.specs.List.{filter_map}
use Rattle.relup_command.specs.Releases.{releases_of}
use Rattle.relup_row.specs.Release.{relup_app_of}
use Rattle.release_relup.specs.Warnings.{warning_of, warnings}
use Rattle.release_relup.proofs.warnings.warnings_of.Given as goal

abbrev pub invariant-loop-app : goal.invariant-loop-app
invariant-loop-app l =
    map string_bytes l.lines.items ++ filter_map (warning_of (releases_of l.releases)) (map relup_app_of (drop l.app-index l.app-items))
    ≡ warnings (releases_of l.releases)
