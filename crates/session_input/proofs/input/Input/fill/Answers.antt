use Rattle.std.proofs.lemmas.Result.{IfOk-from_err}
use Rattle.session_input.proofs.Causes.{cause_of_read, not_over}
use Rattle.session_input.proofs.input.Input.fill.Goals as goal

pub returns-in_err-fill-clause-same : goal.returns-in_err-fill-clause-same
returns-in_err-fill-clause-same g c = IfOk-from_err c.from_residual.result _ c.from_residual.ensures.0

pub returns-in_err-fill-clause-end : goal.returns-in_err-fill-clause-end
returns-in_err-fill-clause-end g c = not_over g.R.Read.remaining (record { reader = c.fill.new.reader; ahead = c.fill.new.self }) c.in_err-fill.ensures.nothing_taken.2

pub returns-in_err-fill-clause-over : goal.returns-in_err-fill-clause-over
returns-in_err-fill-clause-over g c = IfOk-from_err c.from_residual.result _ c.from_residual.ensures.0

pub returns-in_err-fill-clause-left : goal.returns-in_err-fill-clause-left
returns-in_err-fill-clause-left g c = IfOk-from_err c.from_residual.result _ c.from_residual.ensures.0

pub returns-in_err-fill-clause-cause : goal.returns-in_err-fill-clause-cause
returns-in_err-fill-clause-cause g c = cause_of_read _ _ _ c.from_residual.ensures.1 c.in_err-fill.ensures.counted c.in_err-fill.ensures.nothing_taken.2
