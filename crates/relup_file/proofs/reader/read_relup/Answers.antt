use Rattle.std.proofs.Common.{◌≢◌}
use Rattle.erl_term.specs.Value.{value_of}
use Rattle.relup_file.specs.declared.fault.RelupFault.TheVariants.{NoMemory}
use Rattle.relup_file.specs.File.{IsRelupFault}
use Rattle.relup_file.proofs.FileLemmas.{passed_on, no_value, only_memory}
use Rattle.relup_file.proofs.reader.read_relup.Goals as goal

pub returns-in_err-file-clause-says : goal.returns-in_err-file-clause-says
returns-in_err-file-clause-says c = no_value _ c.from_residual.result c.in_err-file.field-0.0 c.from_residual.ensures

pub returns-in_err-file-clause-only : goal.returns-in_err-file-clause-only
returns-in_err-file-clause-only c = λ r says.
    only_memory _ c.from_residual.result c.in_err-file.field-0.0 c.from_residual.ensures (c.in_err-file.ensures.only r says)

pub returns-in_err-file-clause-fault : goal.returns-in_err-file-clause-fault
returns-in_err-file-clause-fault c =
    passed_on (λ f. f ≢ NoMemory → IsRelupFault c.args.bytes.now f) c.from_residual.result c.in_err-file.field-0.0 c.from_residual.ensures c.in_err-file.ensures.fault

pub returns-in_err-file-clause-fits : goal.returns-in_err-file-clause-fits
returns-in_err-file-clause-fits c = no_value _ c.from_residual.result c.in_err-file.field-0.0 c.from_residual.ensures

pub returns-clause-says : goal.returns-clause-says
returns-clause-says c = (value_of c.in_ok-file.file.term, c.in_ok-file.ensures.says.0, c.in_ok-file.ensures.says.1)

pub returns-clause-only : goal.returns-clause-only
returns-clause-only c = c.in_ok-file.ensures.only

pub returns-clause-fits : goal.returns-clause-fits
returns-clause-fits c = c.in_ok-file.ensures.fits
