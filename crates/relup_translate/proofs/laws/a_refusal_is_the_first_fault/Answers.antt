use Rattle.relup_translate.proofs.OutcomeLemmas.{refuses_first_fault}
use Rattle.relup_translate.proofs.laws.a_refusal_is_the_first_fault.Goals as goal

pub returns : goal.returns
returns c = refuses_first_fault
