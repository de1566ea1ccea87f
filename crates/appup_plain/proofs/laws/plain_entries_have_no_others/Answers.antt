use Rattle.appup_plain.proofs.PlainLemmas.{plain_misses}
use Rattle.appup_plain.proofs.laws.plain_entries_have_no_others.Goals as goal

pub returns : goal.returns
returns c = plain_misses
