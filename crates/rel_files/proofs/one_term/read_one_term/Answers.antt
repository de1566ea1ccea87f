use Rattle.std.proofs.Common.{arith, rules, ◌≡◌, ◌∷◌, [], Some, None, length, slice_get, Result, Ok, Err, MatchResult, IsErr, IsErrAnd, ◌∙◌, ap, sym}
use Rattle.erl_term.specs.Value.{value_of}
use Rattle.erl_term.specs.Grammar.{Reading}
use Rattle.rel_files.specs.declared.fault.FileFault.{FileFault}
use Rattle.rel_files.specs.declared.fault.FileFault.TheVariants.{NoMemory}
use Rattle.rel_files.specs.declared.one_term.FileTerm.{FileTerm}
use Rattle.rel_files.specs.Fault.{file_fault_of}
use Rattle.rel_files.proofs.Files.{several, alone, reports_unreadable, no_terms, none_alone, many_terms, one_term}
use Rattle.rel_files.proofs.Limits.{last_keeps_limits}
use Rattle.rel_files.proofs.one_term.read_one_term.Goals as goal

-- an error that is passed on
only_memory : (result : Result FileTerm FileFault) (f : FileFault) (r : Reading) → IsErr result × IsErrAnd result (λ g. g ≡ f) → f ≡ NoMemory
    → MatchResult result (λ file. (file.at ≡ r.from) × (value_of file.term ≡ r.term)) (λ g. g ≡ NoMemory)
only_memory (Ok x) f r is e = absurd is.1
only_memory (Err g) f r is e = is.1 ∙ e

pub returns-in_err-terms-clause-only : goal.returns-in_err-terms-clause-only
returns-in_err-terms-clause-only c = λ r reads.
    only_memory c.from_residual.result (file_fault_of c.in_err-terms.field-0.0) r c.from_residual.ensures
    (ap file_fault_of (c.in_err-terms.ensures.only (r ∷ []) reads))

pub returns-in-Some-first-clause-only : goal.returns-in-Some-first-clause-only
returns-in-Some-first-clause-only c = λ r reads.
    let some : Some c.in-Some-first.first.now ≡ slice_get c.pop.new.self.items 0 = search rules in
    absurd (several c.pop.new.self.items c.in_ok-terms.terms.items _ c.in-Some.last r some c.in-Some.ensures.items
    (c.in_ok-terms.ensures.only (r ∷ []) reads))

pub returns-clause-only : goal.returns-clause-only
returns-clause-only c = λ r reads.
    let none : None ≡ slice_get c.pop.new.self.items 0 = search rules in
    let read = alone c.pop.new.self.items c.in_ok-terms.terms.items c.in-Some.last r none c.in-Some.ensures.items (c.in_ok-terms.ensures.only (r ∷ []) reads) in
    (ap (λ (s : Reading). s.from) (sym read), ap (λ (s : Reading). s.term) (sym read))

pub returns-clause-within : goal.returns-clause-within
returns-clause-within c = last_keeps_limits 64 c.args.bytes.now c.pop.new.self.items c.in_ok-terms.terms.items c.in-Some.last c.in-Some.ensures.items c.in_ok-terms.ensures.found

pub returns-in_err-terms-clause-fault : goal.returns-in_err-terms-clause-fault
returns-in_err-terms-clause-fault c =
    reports_unreadable c.from_residual.result c.args.bytes.now c.in_err-terms.field-0.0 c.from_residual.ensures c.in_err-terms.ensures.fault

-- nothing could be taken off the terms
none : (c : goal.After-drop-terms) → length c.in_ok-terms.terms.items ≡ 0
none c = omega (arith, c.in_ok-terms.terms.ok.0, c.in_default.ensures.cases.0)

pub returns-in_default-clause-only : goal.returns-in_default-clause-only
returns-in_default-clause-only c = λ r reads. absurd (none_alone c.in_ok-terms.terms.items r (none c) (c.in_ok-terms.ensures.only (r ∷ []) reads))

pub returns-in_default-clause-fault : goal.returns-in_default-clause-fault
returns-in_default-clause-fault c = λ other. no_terms c.args.bytes.now c.in_ok-terms.terms.items (none c) c.in_ok-terms.ensures.found

pub returns-in-Some-first-clause-fault : goal.returns-in-Some-first-clause-fault
returns-in-Some-first-clause-fault c = λ other.
    let some : Some c.in-Some-first.first.now ≡ slice_get c.pop.new.self.items 0 = search rules in
    many_terms c.args.bytes.now c.pop.new.self.items c.in_ok-terms.terms.items c.in-Some-first.first.now c.in-Some.last some c.in-Some.ensures.items c.in_ok-terms.ensures.found

pub returns-clause-says : goal.returns-clause-says
returns-clause-says c =
    let none : None ≡ slice_get c.pop.new.self.items 0 = search rules in
    one_term c.args.bytes.now c.pop.new.self.items c.in_ok-terms.terms.items c.in-Some.last none c.in-Some.ensures.items c.in_ok-terms.ensures.found
