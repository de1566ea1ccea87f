use Rattle.std.proofs.Common.{rules}
use Rattle.std.proofs.lemmas.Str.{chars_from_encodes}
use Rattle.erl_token.proofs.content.count.Goals as goal

pub returns-clause-size : goal.returns-clause-size
returns-clause-size c = search (rules, chars_from_encodes)
