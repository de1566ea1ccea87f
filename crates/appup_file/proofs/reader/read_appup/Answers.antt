use Rattle.std.proofs.Common.{◌≢◌, ap}
use Rattle.erl_term.specs.Value.{value_of}
use Rattle.appup_file.specs.declared.fault.AppupFault.TheVariants.{NoMemory}
use Rattle.appup_file.specs.Fault.{appup_fault_of}
use Rattle.appup_file.specs.File.{TermSaysAppup, IsAppupFault}
use Rattle.rel_files.proofs.OneTermFile.{of_its_term}
use Rattle.appup_file.proofs.FileLemmas.{reports_terms, passed_on, only_memory, says, fault}
use Rattle.appup_file.proofs.reader.read_appup.Goals as goal

pub returns-in_err-file-clause-only : goal.returns-in_err-file-clause-only
returns-in_err-file-clause-only c = λ a says.
    only_memory _ c.from_residual.result (appup_fault_of c.in_err-file.field-0.0) c.from_residual.ensures
    (ap appup_fault_of (c.in_err-file.ensures.only says.1.0 says.1.1))

pub returns-in_err-file-clause-fault : goal.returns-in_err-file-clause-fault
returns-in_err-file-clause-fault c =
    passed_on (λ f. f ≢ NoMemory → IsAppupFault c.args.bytes.now f) c.from_residual.result (appup_fault_of c.in_err-file.field-0.0) c.from_residual.ensures
    (reports_terms c.args.bytes.now c.in_err-file.field-0.0 c.in_err-file.ensures.fault)

pub returns-clause-says : goal.returns-clause-says
returns-clause-says c =
    says c.args.bytes.now c.in_ok-file.file.at (value_of c.in_ok-file.file.term) c.appup_of_term.result c.in_ok-file.ensures.says c.appup_of_term.ensures.says

pub returns-clause-only : goal.returns-clause-only
returns-clause-only c = λ a says.
    c.appup_of_term.ensures.only a (of_its_term TermSaysAppup c.args.bytes.now a (value_of c.in_ok-file.file.term) says (c.in_ok-file.ensures.only says.1.0 says.1.1).1)

pub returns-clause-fault : goal.returns-clause-fault
returns-clause-fault c =
    fault c.args.bytes.now c.in_ok-file.file.at (value_of c.in_ok-file.file.term) c.appup_of_term.result c.in_ok-file.ensures.says c.appup_of_term.ensures.fault
