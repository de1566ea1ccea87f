use Rattle.erl_term.proofs.Exact.{never_both}
use Rattle.erl_term.proofs.laws.no_text_reads_and_has_a_fault.Goals as goal

pub returns : goal.returns
returns c = never_both
