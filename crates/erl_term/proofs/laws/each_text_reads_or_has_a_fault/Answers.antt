use Rattle.erl_term.proofs.Exact.{reads_or_fault}
use Rattle.erl_term.proofs.laws.each_text_reads_or_has_a_fault.Goals as goal

pub returns : goal.returns
returns c = reads_or_fault
