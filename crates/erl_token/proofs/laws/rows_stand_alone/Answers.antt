use Rattle.erl_token.proofs.RowCuts.{rows_stand_alone}
use Rattle.erl_token.proofs.laws.rows_stand_alone.Goals as goal

pub returns : goal.returns
returns c = rows_stand_alone
