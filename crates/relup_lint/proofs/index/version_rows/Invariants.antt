use Rattle.std.proofs.Common.{◌≡◌, ◌++◌, drop}
use Rattle.relup_lint.specs.Names.{version_texts}
use Rattle.relup_lint.specs.Script.{all_placed}
use Rattle.relup_lint.specs.Findings.{versions}
use Rattle.relup_lint.proofs.index.version_rows.Given as goal

abbrev pub invariant-loop-placed : goal.invariant-loop-placed
invariant-loop-placed l =
    version_texts l.rows.items ++ versions (all_placed (drop l.placed-index l.script)) ≡ versions (all_placed l.script)
