use Rattle.std.proofs.Common.{◌≡◌, ◌∙◌, Result, Ok, Err, MatchResult, IsErr, IsErrAnd}
use Rattle.erl_term.specs.Value.{value_of}
use Rattle.rel_files.specs.declared.fault.FileFault.{FileFault}
use Rattle.rel_files.specs.declared.fault.FileFault.TheVariants.{NoMemory}
use Rattle.rel_files.specs.declared.app.App.{App}
use Rattle.rel_files.specs.AppFile.{IsAppTerm, Specification}
use Rattle.rel_files.specs.AppInMemory.{specification_of}
use Rattle.rel_files.proofs.OneTermFile.{of_its_term}
use Rattle.rel_files.proofs.AppReadings.{of_a_file, fault_of_a_file}
use Rattle.rel_files.proofs.app_reader.read_app.Goals as goal

-- an error that is passed on
only_memory : (result : Result App FileFault) (f : FileFault) (a : Specification) → IsErr result × IsErrAnd result (λ g. g ≡ f) → f ≡ NoMemory
    → MatchResult result (λ app. specification_of app ≡ a) (λ g. g ≡ NoMemory)
only_memory (Ok x) f a is e = absurd is.1
only_memory (Err g) f a is e = is.1 ∙ e

pub returns-in_err-file-clause-only : goal.returns-in_err-file-clause-only
returns-in_err-file-clause-only c = λ a says.
    only_memory c.from_residual.result c.in_err-file.field-0.0 a c.from_residual.ensures (c.in_err-file.ensures.only says.1.0 says.1.1)

pub returns-clause-says : goal.returns-clause-says
returns-clause-says c =
    of_a_file c.app_of_term.result c.args.bytes.now c.in_ok-file.file.at (value_of c.in_ok-file.file.term) c.in_ok-file.ensures.says c.app_of_term.ensures.says

pub returns-clause-only : goal.returns-clause-only
returns-clause-only c = λ a says.
    let read = c.in_ok-file.ensures.only says.1.0 says.1.1 in
    c.app_of_term.ensures.only a (of_its_term IsAppTerm c.args.bytes.now a (value_of c.in_ok-file.file.term) says read.1)

pub returns-clause-fault : goal.returns-clause-fault
returns-clause-fault c =
    fault_of_a_file c.app_of_term.result c.args.bytes.now c.in_ok-file.file.at (value_of c.in_ok-file.file.term) c.in_ok-file.ensures.says c.app_of_term.ensures.fault
