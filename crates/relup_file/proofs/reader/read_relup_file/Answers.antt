use Rattle.std.proofs.Common.{◌≢◌, ap, ◌∙◌}
use Rattle.erl_term.specs.Value.{value_of}
use Rattle.rel_files.proofs.OneTermFile.{has_term}
use Rattle.relup_file.specs.declared.fault.RelupFault.TheVariants.{NoMemory}
use Rattle.relup_file.specs.Fault.{relup_fault_of_file}
use Rattle.relup_file.specs.File.{IsRelupFault}
use Rattle.relup_file.proofs.FileLemmas.{reports_terms, passed_on, no_value, only_memory, term_fault, says_term}
use Rattle.relup_file.proofs.reader.read_relup_file.Goals as goal

pub returns-in_err-file-clause-says : goal.returns-in_err-file-clause-says
returns-in_err-file-clause-says c = no_value _ c.from_residual.result (relup_fault_of_file c.in_err-file.field-0.0) c.from_residual.ensures

pub returns-in_err-file-clause-only : goal.returns-in_err-file-clause-only
returns-in_err-file-clause-only c = λ r says.
    only_memory _ c.from_residual.result (relup_fault_of_file c.in_err-file.field-0.0) c.from_residual.ensures
    (ap relup_fault_of_file (c.in_err-file.ensures.only says.1.0 says.1.1))

pub returns-in_err-file-clause-fault : goal.returns-in_err-file-clause-fault
returns-in_err-file-clause-fault c =
    passed_on (λ f. f ≢ NoMemory → IsRelupFault c.args.bytes.now f) c.from_residual.result (relup_fault_of_file c.in_err-file.field-0.0) c.from_residual.ensures
    (reports_terms c.args.bytes.now c.in_err-file.field-0.0 c.in_err-file.ensures.fault)

pub returns-in_err-file-clause-fits : goal.returns-in_err-file-clause-fits
returns-in_err-file-clause-fits c = no_value _ c.from_residual.result (relup_fault_of_file c.in_err-file.field-0.0) c.from_residual.ensures

pub returns-in_err-file-clause-within : goal.returns-in_err-file-clause-within
returns-in_err-file-clause-within c = no_value _ c.from_residual.result (relup_fault_of_file c.in_err-file.field-0.0) c.from_residual.ensures

pub returns-in_err-relup-clause-says : goal.returns-in_err-relup-clause-says
returns-in_err-relup-clause-says c = no_value _ c.from_residual-in_err-relup.result c.in_err-relup.field-0.0 c.from_residual-in_err-relup.ensures

pub returns-in_err-relup-clause-only : goal.returns-in_err-relup-clause-only
returns-in_err-relup-clause-only c = λ r says.
    only_memory _ c.from_residual-in_err-relup.result c.in_err-relup.field-0.0 c.from_residual-in_err-relup.ensures
    (c.in_err-relup.ensures.only r
    (says_term c.args.bytes.now (value_of c.in_ok-file.file.term) r (λ w has. (c.in_ok-file.ensures.only has.0 has.1).1 ∙ has.2) says))

pub returns-in_err-relup-clause-fault : goal.returns-in_err-relup-clause-fault
returns-in_err-relup-clause-fault c =
    passed_on (λ f. f ≢ NoMemory → IsRelupFault c.args.bytes.now f) c.from_residual-in_err-relup.result c.in_err-relup.field-0.0 c.from_residual-in_err-relup.ensures
    (λ other. term_fault c.args.bytes.now (value_of c.in_ok-file.file.term) c.in_err-relup.field-0.0
    (has_term c.args.bytes.now c.in_ok-file.file.at (value_of c.in_ok-file.file.term) c.in_ok-file.ensures.says) (c.in_err-relup.ensures.fault other))

pub returns-in_err-relup-clause-fits : goal.returns-in_err-relup-clause-fits
returns-in_err-relup-clause-fits c = no_value _ c.from_residual-in_err-relup.result c.in_err-relup.field-0.0 c.from_residual-in_err-relup.ensures

pub returns-in_err-relup-clause-within : goal.returns-in_err-relup-clause-within
returns-in_err-relup-clause-within c = no_value _ c.from_residual-in_err-relup.result c.in_err-relup.field-0.0 c.from_residual-in_err-relup.ensures

pub returns-clause-says : goal.returns-clause-says
returns-clause-says c =
    (has_term c.args.bytes.now c.in_ok-file.file.at (value_of c.in_ok-file.file.term) c.in_ok-file.ensures.says, c.in_ok-relup.ensures.says)

pub returns-clause-only : goal.returns-clause-only
returns-clause-only c = λ r says.
    c.in_ok-relup.ensures.only r
    (says_term c.args.bytes.now (value_of c.in_ok-file.file.term) r (λ w has. (c.in_ok-file.ensures.only has.0 has.1).1 ∙ has.2) says)

pub returns-clause-fits : goal.returns-clause-fits
returns-clause-fits c = c.in_ok-relup.ensures.fits

pub returns-clause-within : goal.returns-clause-within
returns-clause-within c = c.in_ok-file.ensures.within
