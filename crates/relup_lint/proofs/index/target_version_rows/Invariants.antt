use Rattle.std.proofs.Common.{◌≡◌, ◌++◌, drop}
use Rattle.relup_lint.specs.Names.{version_texts}
use Rattle.relup_lint.specs.Script.{all_targets}
use Rattle.relup_lint.specs.Findings.{target_versions}
use Rattle.relup_lint.proofs.index.target_version_rows.Given as goal

abbrev pub invariant-loop-app : goal.invariant-loop-app
invariant-loop-app l =
    version_texts l.rows.items ++ target_versions (all_targets (drop l.app-index l.target)) ≡ target_versions (all_targets l.target)
