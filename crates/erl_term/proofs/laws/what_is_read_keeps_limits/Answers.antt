use Rattle.erl_term.proofs.Limits.{keeps_limits}
use Rattle.erl_term.proofs.laws.what_is_read_keeps_limits.Goals as goal

pub returns : goal.returns
returns c = keeps_limits
