use Rattle.rel_check.proofs.Depth.{itself_too_deep}
use Rattle.rel_check.proofs.laws.a_supervisor_within_itself_is_too_deep.Goals as goal

pub returns : goal.returns
returns c = itself_too_deep
