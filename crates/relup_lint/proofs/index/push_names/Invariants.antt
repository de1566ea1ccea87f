use Rattle.std.proofs.Common.{◌≡◌, ◌++◌, drop}
use Rattle.relup_lint.specs.Names.{texts, row_texts}
use Rattle.relup_lint.specs.Findings.{placed_names}
use Rattle.relup_lint.proofs.index.push_names.Given as goal

abbrev pub invariant-loop-name : goal.invariant-loop-name
invariant-loop-name l =
    row_texts l.rows.items ++ placed_names l.place (texts (drop l.name-index l.names))
    ≡ row_texts l.initial.rows.items ++ placed_names l.place (texts l.names)
