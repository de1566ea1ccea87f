use Rattle.relup_instruction.specs.Instruction.{suspension_of}
use Rattle.relup_row.proofs.WalkLemmas.{one_made, all_made}
use Rattle.relup_row.proofs.copies.copy_suspensions.Goals as goal

pub loop-suspension-preserved : goal.loop-suspension-preserved
loop-suspension-preserved c =
    one_made suspension_of suspension_of c.args.suspensions.now c.loop-suspension.suspension-index c.suspension-item.result c.loop-suspension.copied.items c.push.new.self.items _ c.loop-suspension-test.true c.suspension-item.is
    (λ j. record { name = c.in_ok-clone.ensures.cases j; timeout = c.suspension-item.result.timeout }) c.in_ok-push.ensures.items c.loop-suspension.invariant

pub returns : goal.returns
returns c = all_made suspension_of suspension_of c.args.suspensions.now c.loop-suspension.suspension-index c.loop-suspension.copied.items c.loop-suspension-test.false c.loop-suspension.invariant
