use Rattle.erl_token.proofs.Pieces.{stands_alone}
use Rattle.erl_token.proofs.content.one.Goals as goal

pub returns-clause-alone : goal.returns-clause-alone
returns-clause-alone c = stands_alone c.args.character c.ranges.character.0
