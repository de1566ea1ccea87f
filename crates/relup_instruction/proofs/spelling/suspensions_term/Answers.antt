use Rattle.relup_instruction.specs.Instruction.{suspension_of}
use Rattle.relup_instruction.specs.Form.{suspension_term}
use Rattle.rel_files.proofs.TermRows.{terms_more, terms_all}
use Rattle.relup_instruction.proofs.spelling.suspensions_term.Goals as goal

pub loop-suspension-preserved : goal.loop-suspension-preserved
loop-suspension-preserved c =
    terms_more suspension_of suspension_term c.args.suspensions.now c.loop-suspension.suspension-index c.suspension-item.result c.loop-suspension.terms.items c.push.new.self.items c.in_ok-suspension_term.field-0
    c.loop-suspension-test.true c.suspension-item.is c.in_ok-suspension_term.ensures c.in_ok-push.ensures.items c.loop-suspension.invariant

pub returns : goal.returns
returns c = terms_all suspension_of suspension_term c.args.suspensions.now c.loop-suspension.suspension-index c.loop-suspension.terms c.loop-suspension-test.false c.loop-suspension.invariant
