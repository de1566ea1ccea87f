use Rattle.erl_term.proofs.Lines.{term_line}
use Rattle.erl_term.proofs.laws.a_term_is_printed_on_one_line.Goals as goal

pub returns : goal.returns
returns c = term_line
