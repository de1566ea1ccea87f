use Rattle.std.proofs.lemmas.Result.{IfOk-from_err}
use Rattle.session_input.proofs.Causes.{counts_failure}
use Rattle.session_input.proofs.ahead.Ahead.fill.Goals as goal

pub returns-in_err-count-clause-read : goal.returns-in_err-count-clause-read
returns-in_err-count-clause-read g c = IfOk-from_err c.from_residual.result _ c.from_residual.ensures.0

pub returns-in_err-count-clause-end : goal.returns-in_err-count-clause-end
returns-in_err-count-clause-end g c = IfOk-from_err c.from_residual.result _ c.from_residual.ensures.0

pub returns-in_err-count-clause-taken : goal.returns-in_err-count-clause-taken
returns-in_err-count-clause-taken g c = IfOk-from_err c.from_residual.result _ c.from_residual.ensures.0

pub returns-in_err-count-clause-counted : goal.returns-in_err-count-clause-counted
returns-in_err-count-clause-counted g c = counts_failure _ _ _ c.from_residual.ensures.0 c.in_err-count.ensures.counted
