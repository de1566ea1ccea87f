use Rattle.std.proofs.Common.{◌≡◌, ◌++◌, drop}
use Rattle.relup_lint.specs.Script.{all_placed}
use Rattle.relup_lint.specs.Findings.{findings_from}
use Rattle.relup_lint.specs.Memory.{all_findings, mentions_of}
use Rattle.relup_lint.proofs.verdicts.findings.Given as goal

abbrev pub invariant-loop-place : goal.invariant-loop-place
invariant-loop-place l =
    all_findings l.found.items ++ findings_from (mentions_of l.index) l.place (all_placed (drop l.place l.script))
    ≡ findings_from (mentions_of l.index) 0 (all_placed l.script)
