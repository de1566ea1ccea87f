use Rattle.std.proofs.Common.{rules}
use Rattle.erl_term.proofs.Records.{passed_only, passed_fault, none_only, none_fault, several_only, several_fault, one_found, one_only}
use Rattle.erl_term.proofs.record.read_record.Goals as goal

pub returns-in_err-terms-clause-only : goal.returns-in_err-terms-clause-only
returns-in_err-terms-clause-only c = passed_only 72 c.args.bytes.now c.in_err-terms.field-0.0 c.from_residual.result c.from_residual.ensures c.in_err-terms.ensures

pub returns-in_err-terms-clause-fault : goal.returns-in_err-terms-clause-fault
returns-in_err-terms-clause-fault c = passed_fault 72 c.args.bytes.now c.in_err-terms.field-0.0 c.from_residual.result c.from_residual.ensures c.in_err-terms.ensures

pub returns-in-Some-clause-only : goal.returns-in-Some-clause-only
returns-in-Some-clause-only c = λ v has.
    absurd (several_only 72 c.args.bytes.now c.in_ok-terms.terms.items c.in_ok-terms.ensures c.deref.result.now c.deref.ensures.value c.in-Some.ensures.lookup.3.0 v has)

pub returns-in-Some-clause-fault : goal.returns-in-Some-clause-fault
returns-in-Some-clause-fault c =
    several_fault 72 c.args.bytes.now c.in_ok-terms.terms.items c.in_ok-terms.ensures c.deref.result.now c.in-Some.second.now c.deref.ensures.value
    c.in-Some.ensures.lookup.3.0 c.in-Some.ensures.lookup.1

pub returns-in-Some-pop-clause-found : goal.returns-in-Some-pop-clause-found
returns-in-Some-pop-clause-found c =
    one_found 72 c.args.bytes.now c.in_ok-terms.terms.items c.in_ok-terms.ensures c.pop.new.self.items c.deref.result.now c.in-Some-pop.only c.deref.ensures.value
    c.in-Some-pop.ensures.items c.in_default.ensures.lookup.3

pub returns-in-Some-pop-clause-only : goal.returns-in-Some-pop-clause-only
returns-in-Some-pop-clause-only c =
    one_only 72 c.args.bytes.now c.in_ok-terms.terms.items c.in_ok-terms.ensures c.pop.new.self.items c.deref.result.now c.in-Some-pop.only c.deref.ensures.value
    c.in-Some-pop.ensures.items c.in_default.ensures.lookup.3

pub returns-clause-only : goal.returns-clause-only
returns-clause-only c = λ v has. absurd (none_only 72 c.args.bytes.now c.in_ok-terms.terms.items c.in_ok-terms.ensures (search rules) v has)

pub returns-clause-fault : goal.returns-clause-fault
returns-clause-fault c = none_fault 72 c.args.bytes.now c.in_ok-terms.terms.items c.in_ok-terms.ensures (search rules)
