use Rattle.relup_instruction.specs.Instruction.{change_of}
use Rattle.relup_row.proofs.WalkLemmas.{one_made, all_made}
use Rattle.relup_row.proofs.copies.copy_changes.Goals as goal

pub loop-change-preserved : goal.loop-change-preserved
loop-change-preserved c =
    one_made change_of change_of c.args.changes.now c.loop-change.change-index c.change-item.result c.loop-change.copied.items c.push.new.self.items _ c.loop-change-test.true c.change-item.is
    (λ j. record { name = c.in_ok-clone.ensures.cases j; extra = c.in_ok-clone-2.ensures.cases j }) c.in_ok-push.ensures.items c.loop-change.invariant

pub returns : goal.returns
returns c = all_made change_of change_of c.args.changes.now c.loop-change.change-index c.loop-change.copied.items c.loop-change-test.false c.loop-change.invariant
