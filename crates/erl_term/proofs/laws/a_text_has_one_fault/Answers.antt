use Rattle.erl_term.proofs.OneFault.{one_fault}
use Rattle.erl_term.proofs.laws.a_text_has_one_fault.Goals as goal

pub returns : goal.returns
returns c = one_fault
