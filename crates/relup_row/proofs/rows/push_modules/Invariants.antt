use Rattle.std.proofs.Common.{◌≡◌, ◌++◌, map, drop, string_bytes}
use Rattle.std.specs.List.{filter_map}
use Rattle.relup_row.specs.Release.{relup_release_of}
use Rattle.relup_row.specs.Fetches.{mention, mention_of}
use Rattle.relup_row.proofs.rows.push_modules.Given as goal

abbrev pub invariant-loop-name : goal.invariant-loop-name
invariant-loop-name l = map mention_of l.out.items ++ filter_map (mention (relup_release_of l.target)) (map string_bytes (drop l.name-index l.names)) ≡ map mention_of l.initial.out.items ++ filter_map (mention (relup_release_of l.target)) (map string_bytes l.names)
