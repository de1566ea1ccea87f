use Rattle.erl_term.proofs.Exact.{one_reading}
use Rattle.erl_term.proofs.laws.no_text_has_two_readings.Goals as goal

pub returns : goal.returns
returns c = one_reading
