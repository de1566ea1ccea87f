use Rattle.std.proofs.Common.{◌≡◌, ◌++◌, ℕ, List, map, drop}
use Rattle.relup_lint.specs.Names.{texts}
use Rattle.relup_lint.specs.Script.{placed_of}
use Rattle.relup_lint.specs.Findings.{finding}
use Rattle.relup_lint.specs.Findings.RefusalForm.{no_time}
use Rattle.relup_lint.specs.Memory.{all_findings}
use Rattle.relup_lint.proofs.verdicts.push_without_time.Given as goal

abbrev pub invariant-loop-name : goal.invariant-loop-name
invariant-loop-name l =
    all_findings l.found.items ++ map (λ (m : List ℕ). finding (placed_of l.placed) (no_time m)) (texts (drop l.name-index l.name-items))
    ≡ all_findings l.initial.found.items ++ map (λ (m : List ℕ). finding (placed_of l.placed) (no_time m)) (texts l.name-items)
