use Rattle.erl_token.proofs.Pieces.{stands_alone}
use Rattle.erl_token.proofs.bytes.push_character.Goals as goal

pub returns-in_default-clause-alone : goal.returns-in_default-clause-alone
returns-in_default-clause-alone c = stands_alone c.args.character c.ranges.character.0

pub returns-in_err-push-clause-alone : goal.returns-in_err-push-clause-alone
returns-in_err-push-clause-alone c = stands_alone c.args.character c.ranges.character.0

pub returns-clause-alone : goal.returns-clause-alone
returns-clause-alone c = stands_alone c.args.character c.ranges.character.0
