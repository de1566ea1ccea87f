use Rattle.std.proofs.Common.{◌≡◌, ◌++◌, map, string_bytes, drop}
use Rattle.relup_row.specs.Release.{relup_app_of, relup_release_of}
use Rattle.relup_by_patterns.specs.Plain.{asked}
use Rattle.relup_by_patterns.proofs.versions.versions_asked.Given as goal

abbrev pub invariant-loop-release : goal.invariant-loop-release
invariant-loop-release l =
    map string_bytes l.asked.items ++ asked (relup_app_of l.app) (map relup_release_of (drop l.release-index l.releases))
    ≡ asked (relup_app_of l.app) (map relup_release_of l.releases)
