use Rattle.relup_exec.proofs.BrokenLemmas.{leaves_one_history}
use Rattle.relup_exec.proofs.laws.a_broken_script_leaves_one_history.Goals as goal

pub returns : goal.returns
returns c = leaves_one_history
