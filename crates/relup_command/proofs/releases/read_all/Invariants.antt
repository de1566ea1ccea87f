use Rattle.std.proofs.Common.{map, drop, string_bytes}
use Rattle.rel_unpack.proofs.Turns.{AreDoneTo}
use Rattle.relup_row.specs.Release.{relup_release_of}
use Rattle.relup_command.specs.Releases.{RelupReleaseAt}
use Rattle.relup_command.proofs.releases.read_all.Given as goal

abbrev pub invariant-loop-path : goal.invariant-loop-path
invariant-loop-path g l =
    AreDoneTo (RelupReleaseAt (g.F.Files.gives l.fn.files)) (map string_bytes l.paths) (map string_bytes (drop l.path-index l.paths)) (map relup_release_of l.releases.items)
