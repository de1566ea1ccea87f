use Rattle.std.proofs.Common.{true, false, sym, ◌∙◌}
use Rattle.relup_lint.proofs.EarliestLemmas.{next_reported}
use Rattle.relup_lint.proofs.verdicts.earliest.Goals as goal
use Rattle.relup_lint.proofs.verdicts.earliest.Goals.{then-is_earlier, else-is_earlier}

pub loop-finding-preserved : goal.loop-finding-preserved
loop-finding-preserved c =
    elim c.if-is_earlier.branch [
      | then-is_earlier w ↦
          next_reported c.args.found.now c.loop-finding.finding-index _ c.loop-finding.earliest c.if-is_earlier.earliest true c.loop-finding-test.true
          (sym w.if-is_earlier.true ∙ c.is_earlier.ensures) w.earliest-is c.loop-finding.invariant
      | else-is_earlier w ↦
          next_reported c.args.found.now c.loop-finding.finding-index _ c.loop-finding.earliest c.if-is_earlier.earliest false c.loop-finding-test.true
          (sym w.if-is_earlier.false ∙ c.is_earlier.ensures) w.earliest-is c.loop-finding.invariant
    ]
