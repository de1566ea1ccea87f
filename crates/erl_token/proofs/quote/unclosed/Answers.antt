use Rattle.erl_token.proofs.QuoteLemmas.{unclosed_bad, unclosed_open}
use Rattle.erl_token.proofs.quote.unclosed.Goals as goal

pub returns-in-Some : goal.returns-in-Some
returns-in-Some c = unclosed_bad c.args.from c.args.at c.in-Some.place c.args.text.valid.now c.args.text.is_spoilt c.bad_place.ensures.bytes c.requires c.in-Some.ensures.place

pub returns-in-None : goal.returns-in-None
returns-in-None c = unclosed_open c.args.from c.args.at c.args.text.valid.now c.args.text.is_spoilt c.bad_place.ensures.bytes c.requires c.in-None.ensures.place
