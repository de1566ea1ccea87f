use Rattle.std.proofs.Common.{◌≡◌, ◌++◌, map, string_bytes, drop}
use Rattle.std.specs.List.{filter_map}
use Rattle.relup_row.specs.Release.{relup_app_of}
use Rattle.relup_by_patterns.specs.Plain.{other_vsn}
use Rattle.relup_by_patterns.proofs.versions.push_versions.Given as goal

abbrev pub invariant-loop-other : goal.invariant-loop-other
invariant-loop-other l =
    map string_bytes l.asked.items ++ filter_map (other_vsn (relup_app_of l.app)) (map relup_app_of (drop l.other-index l.others))
    ≡ map string_bytes l.initial.asked.items ++ filter_map (other_vsn (relup_app_of l.app)) (map relup_app_of l.others)
