use Rattle.std.proofs.Common.{◌≡◌, ◌++◌, ℕ, List, map, filter, drop}
use Rattle.relup_lint.specs.Names.{texts}
use Rattle.relup_lint.specs.Script.{placed_of}
use Rattle.relup_lint.specs.Findings.{finding, is_missing, refusal_without}
use Rattle.relup_lint.specs.Memory.{all_findings, mentions_of}
use Rattle.relup_lint.proofs.verdicts.push_missing.Given as goal

abbrev pub invariant-loop-name : goal.invariant-loop-name
invariant-loop-name l =
    all_findings l.found.items ++ map (λ (m : List ℕ). finding (placed_of l.placed) (refusal_without l.part m)) (filter (is_missing (mentions_of l.index) l.part) (texts (drop l.name-index l.name-items)))
    ≡ all_findings l.initial.found.items ++ map (λ (m : List ℕ). finding (placed_of l.placed) (refusal_without l.part m)) (filter (is_missing (mentions_of l.index) l.part) (texts l.name-items))
