use Rattle.relup_instruction.specs.Instruction.{change_of}
use Rattle.relup_instruction.specs.Form.{change_term}
use Rattle.rel_files.proofs.TermRows.{terms_more, terms_all}
use Rattle.relup_instruction.proofs.spelling.changes_term.Goals as goal

pub loop-change-preserved : goal.loop-change-preserved
loop-change-preserved c =
    terms_more change_of change_term c.args.changes.now c.loop-change.change-index c.change-item.result c.loop-change.terms.items c.push.new.self.items c.in_ok-change_term.field-0
    c.loop-change-test.true c.change-item.is c.in_ok-change_term.ensures c.in_ok-push.ensures.items c.loop-change.invariant

pub returns : goal.returns
returns c = terms_all change_of change_term c.args.changes.now c.loop-change.change-index c.loop-change.terms c.loop-change-test.false c.loop-change.invariant
