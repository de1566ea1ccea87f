use Rattle.erl_token.proofs.NameLemmas.{few_bytes}
use Rattle.erl_token.proofs.content.has_more_than.Goals as goal

pub returns-else-part-limit : goal.returns-else-part-limit
returns-else-part-limit c = few_bytes c.args.part.now c.args.limit c.utf8.part c.if-part-limit.false
