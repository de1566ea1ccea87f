use Rattle.std.proofs.Common.{◌≡◌, map, drop, string_bytes}
use Rattle.std.specs.List.{list_any}
use Rattle.relup_lint.specs.Findings.{is_changed}
use Rattle.relup_lint.specs.Memory.{mentions_of}
use Rattle.relup_lint.proofs.verdicts.is_fetched_too.Given as goal

abbrev pub invariant-loop-name : goal.invariant-loop-name
invariant-loop-name l =
    list_any (is_changed (mentions_of l.index)) (map string_bytes (drop l.name-index l.name-items)) ≡ list_any (is_changed (mentions_of l.index)) (map string_bytes l.name-items)
