use Rattle.appup_plain.proofs.PlainLemmas.{plain_finds}
use Rattle.appup_plain.proofs.laws.plain_entries_have_the_same_instructions.Goals as goal

pub returns : goal.returns
returns c = plain_finds
