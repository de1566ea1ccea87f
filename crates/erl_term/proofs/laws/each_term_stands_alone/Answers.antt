use Rattle.erl_term.proofs.AloneTerms.{stands_alone}
use Rattle.erl_term.proofs.laws.each_term_stands_alone.Goals as goal

pub returns : goal.returns
returns c = stands_alone c.rows_stand_alone.ensures
