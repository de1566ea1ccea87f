use Rattle.std.proofs.Common.{◌≡◌, ◌++◌, drop}
use Rattle.relup_lint.specs.Names.{row_texts}
use Rattle.relup_lint.specs.Script.{all_placed}
use Rattle.relup_lint.specs.Findings.{places}
use Rattle.relup_lint.proofs.index.place_rows.Given as goal

abbrev pub invariant-loop-place : goal.invariant-loop-place
invariant-loop-place l =
    row_texts l.rows.items ++ places l.part l.modules l.place (all_placed (drop l.place l.script))
    ≡ places l.part l.modules 0 (all_placed l.script)
