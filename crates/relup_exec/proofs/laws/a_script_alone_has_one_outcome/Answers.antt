use Rattle.relup_exec.proofs.AloneLemmas.{has_one_outcome}
use Rattle.relup_exec.proofs.laws.a_script_alone_has_one_outcome.Goals as goal

pub returns : goal.returns
returns c = has_one_outcome
